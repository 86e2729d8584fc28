-- one state more
use Rattle.std.proofs.Common.{◌≡◌, ◌<◌, ◌+◌, ℕ, List, [], length, subst, sym, ◌∙◌, arith}
use Rattle.std.proofs.lemmas.List.{get_or_default}
use Rattle.omega_ltl_translation.specs.declared.graph.GraphEdge.{GraphEdge}
use Rattle.omega_ltl_translation.specs.private.Graphs.{edges_of_state}
use Rattle.omega_ltl_translation.specs.private.Written.{AreWrittenStates, IsWrittenState}
use Rattle.omega_ltl_translation.proofs.WrittenLemmas.{states_more}
use Rattle.omega_ltl_translation.proofs.states.states_of.Goals as goal

pub loop-number-init : goal.loop-number-init
loop-number-init c = subst (AreWrittenStates c.args.sets c.args.edges.now 0) (sym c.new-states.ensures.items) tt

pub loop-number-preserved : goal.loop-number-preserved
loop-number-preserved c =
    let edges : List (List GraphEdge) = c.args.edges.now in
    let number : ℕ = c.loop-number.number in
    let below : number < length edges = omega arith in
    let row : c.as_slice.result.now ≡ edges_of_state edges number = c.as_slice.ensures ∙ c.index-edges-number.is ∙ get_or_default edges number c.index-edges-number.result [] below in
    subst (AreWrittenStates c.args.sets edges (number + 1)) (sym c.in_ok-push.ensures.items)
    (states_more c.args.sets edges number c.loop-number.states.items c.in_ok-state.state c.loop-number.invariant
    (subst (λ (es : List GraphEdge). IsWrittenState c.args.sets number es c.in_ok-state.state) row c.in_ok-state.ensures.state))

pub returns-clause-states : goal.returns-clause-states
returns-clause-states c =
    let all : c.loop-number.number ≡ length c.args.edges.now = omega arith in
    subst (λ (n : ℕ). AreWrittenStates c.args.sets c.args.edges.now n c.loop-number.states.items) all c.loop-number.invariant
