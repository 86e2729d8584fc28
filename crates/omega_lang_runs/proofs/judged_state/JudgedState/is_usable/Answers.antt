-- without a label of the state, the edge's own decides
use Rattle.std.proofs.Common.{◌↔◌, IfOk, IfSome, IsTrue, None, Option, subst, sym}
use Rattle.std.specs.Option.{option_or}
use Rattle.omega_hoa_label.specs.Label.{LabelTree}
use Rattle.omega_hoa_satisfiable.specs.Satisfiable.{IsSatisfiable}
use Rattle.omega_hoa_automaton.specs.declared.state.State.{State}
use Rattle.omega_lang_runs.specs.Lasso.{IsUsable}
use Rattle.omega_lang_runs.proofs.judged_state.JudgedState.is_usable.Goals as goal

pub returns-in-None-clause-judged : goal.returns-in-None-clause-judged
returns-in-None-clause-judged c =
    let P : Option LabelTree → Option LabelTree → Type 0 =
    λ of_state own. IfOk c.can_hold.result (λ judged. IsTrue judged ↔ IfSome (option_or of_state own) IsSatisfiable) in
    subst (λ (s : State). IfOk c.can_hold.result (λ judged. IsTrue judged ↔ IsUsable (record { source = s; edge = c.args.edge.now }))) c.self.view_is
    (subst (λ of_state. P of_state c.args.edge.now.label) (sym c.in-None.is) (subst (λ own. P None own) c.label.ensures c.can_hold.ensures.judged))
