-- the edges are connected and usable, and the cycle accepts or not
use Rattle.std.proofs.Common.{◌≡◌, ◌++◌, ℕ, List, All, subst, ◌∙◌}
use Rattle.omega_lang_lasso_check.specs.Conditions.{IsLassoWalk, IsUsableNumber}
use Rattle.omega_lang_lasso_check.proofs.Verdicts.{at_none, cycle_numbered, judged_accepting, judged_rejecting}
use Rattle.omega_lang_lasso_check.proofs.judging.lasso_fault.Goals as goal
use Rattle.omega_lang_lasso_check.proofs.judging.lasso_fault.Goals.{else-accepted, then-accepted}

pub is_accepted-requires-clause-there : goal.is_accepted-requires-clause-there
is_accepted-requires-clause-there c =
    cycle_numbered c.args.table.now.automaton.now c.args.stem.now c.args.cycle.now
    (at_none c.in_ok-fault.field-0 (IsLassoWalk c.args.table.now.automaton.now c.args.stem.now c.args.cycle.now) c.in_default-2.is c.in_ok-fault.ensures.none)

pub returns-clause-judged : goal.returns-clause-judged
returns-clause-judged c =
    let a = c.args.table.now.automaton.now in
    let edges : c.as_slice-edges.result.now ≡ c.args.stem.now ++ c.args.cycle.now = c.as_slice-edges.ensures.value ∙ c.in_ok-numbers.ensures.list in
    let connected = at_none c.in_ok-fault.field-0 (IsLassoWalk a c.args.stem.now c.args.cycle.now) c.in_default-2.is c.in_ok-fault.ensures.none in
    let usable : All (IsUsableNumber a) (c.args.stem.now ++ c.args.cycle.now) =
    subst (λ (list : List ℕ). All (IsUsableNumber a) list) edges
    (at_none c.in_ok-number.field-0 (All (IsUsableNumber a) c.as_slice-edges.result.now) c.in_default-3.is c.in_ok-number.ensures.none) in
    elim c.if-accepted.branch [
      | then-accepted w ↦ judged_accepting a c.args.stem.now c.args.cycle.now c.if-accepted.result w.result-is connected usable c.in_ok-accepted.accepted c.in_ok-accepted.ensures.accepted w.if-accepted.true
      | else-accepted w ↦ judged_rejecting a c.args.stem.now c.args.cycle.now c.if-accepted.result w.result-is connected usable c.in_ok-accepted.accepted c.in_ok-accepted.ensures.accepted w.if-accepted.false
    ]
