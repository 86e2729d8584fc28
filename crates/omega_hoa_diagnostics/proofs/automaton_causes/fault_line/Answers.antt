-- `fault_line`: the line about each fault is that about what is written.
use Rattle.std.proofs.Common.{ap, sym, ◌∙◌}
use Rattle.std.proofs.lemmas.Result.{IfOk-weaker}
use Rattle.omega_hoa_diagnostics.specs.AutomatonCauses.{fault_line}
use Rattle.omega_hoa_diagnostics.proofs.automaton_causes.fault_line.Goals as goal

pub returns-in-StateRange-clause-line : goal.returns-in-StateRange-clause-line
returns-in-StateRange-clause-line c =
    IfOk-weaker c.text_state_range_line.result _ _
    (λ line said raw writes. said raw writes ∙ ap (fault_line raw) (sym c.in-StateRange.is))
    c.text_state_range_line.ensures.line

pub returns-in-SetRange-clause-line : goal.returns-in-SetRange-clause-line
returns-in-SetRange-clause-line c =
    IfOk-weaker c.text_set_range_line.result _ _
    (λ line said raw writes. said raw writes ∙ ap (fault_line raw) (sym c.in-SetRange.is))
    c.text_set_range_line.ensures.line

pub returns-in-StateTwice-clause-line : goal.returns-in-StateTwice-clause-line
returns-in-StateTwice-clause-line c =
    IfOk-weaker c.text_state_twice_line.result _ _
    (λ line said raw writes. said raw writes ∙ ap (fault_line raw) (sym c.in-StateTwice.is))
    c.text_state_twice_line.ensures.line
