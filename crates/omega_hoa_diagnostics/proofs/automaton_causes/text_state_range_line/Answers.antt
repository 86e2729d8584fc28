-- `text_state_range_line`: what is read is what is written.
use Rattle.std.proofs.Common.{ap, ◌∙◌}
use Rattle.std.proofs.lemmas.Result.{IfOk-weaker}
use Rattle.omega_hoa_diagnostics.specs.States.{state_range_line}
use Rattle.omega_hoa_diagnostics.proofs.automaton_causes.text_state_range_line.Goals as goal

pub returns-in-Ok-clause-line : goal.returns-in-Ok-clause-line
returns-in-Ok-clause-line c =
    IfOk-weaker c.state_range_line.result _ _
    (λ line said raw writes. said ∙ ap state_range_line (c.in-Ok.ensures.same raw writes))
    c.state_range_line.ensures.line
