-- each edge answers a question, so it leads from a state to a state
use Rattle.std.proofs.Common.{◌≡◌, ◌<◌, ℕ, List, length, get_or, sym, ap, subst, arith}
use Rattle.std.proofs.lemmas.List.Elements.{Contains-get_or}
use Rattle.omega_synth_rounds.specs.Rounds.{IsAnswer, edge_at, no_edge}
use Rattle.omega_synth_rounds.specs.declared.rounds.RoundEdge.{RoundEdge}
use Rattle.omega_synth_realize.proofs.MetEdges.{answer_below, answer_source}
use Rattle.omega_synth_realize.proofs.met.kept_graph.Goals as goal

pub bounds-as_slice-number : goal.bounds-as_slice-number
bounds-as_slice-number c =
    let kept : List ℕ = c.args.kept.now in
    let number : ℕ = get_or kept c.loop-number.number-index 0 in
    let answer : IsAnswer c.args.rounds.now number = c.requires.answers number (Contains-get_or kept c.loop-number.number-index 0 c.loop-number-test.true) in
    omega (arith, ap length c.as_slice.ensures, answer_below c.args.rounds.now c.requires.rounds number answer)

pub add-requires-clause-from : goal.add-requires-clause-from
add-requires-clause-from c =
    let kept : List ℕ = c.args.kept.now in
    let number : ℕ = get_or kept c.loop-number.number-index 0 in
    let answer : IsAnswer c.args.rounds.now number = c.requires.answers number (Contains-get_or kept c.loop-number.number-index 0 c.loop-number-test.true) in
    subst (λ (edges : List RoundEdge). (get_or edges number no_edge).source < c.loop-number.graph.states) (sym c.as_slice.ensures)
    (omega (arith, answer_source c.args.rounds.now c.requires.rounds number answer, c.loop-number.invariant.0))

pub add-requires-clause-to : goal.add-requires-clause-to
add-requires-clause-to c =
    let kept : List ℕ = c.args.kept.now in
    let number : ℕ = get_or kept c.loop-number.number-index 0 in
    let answer : IsAnswer c.args.rounds.now number = c.requires.answers number (Contains-get_or kept c.loop-number.number-index 0 c.loop-number-test.true) in
    subst (λ (edges : List RoundEdge). (get_or edges number no_edge).target < c.loop-number.graph.states) (sym c.as_slice.ensures)
    (omega (arith, c.requires.rounds.targets number (answer_below c.args.rounds.now c.requires.rounds number answer), c.loop-number.invariant.0))
