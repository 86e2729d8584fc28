-- `solution_cause`: the first fault of what was read is the first of what is written.
use Rattle.std.proofs.Common.{rules}
use Rattle.std.proofs.lemmas.Result.{IfOk-weaker}
use Rattle.std.specs.Prelude.{IsTrue}
use Rattle.omega_pg_diagnostics.proofs.solutions.Causes.{caused}
use Rattle.omega_pg_diagnostics.proofs.solution_causes.solution_cause.Goals as goal

pub returns-clause-cause : goal.returns-clause-cause
returns-clause-cause c =
    let is : IsTrue c.in_ok-is_written.field-0 = search rules in
    IfOk-weaker c.first_fault.result _ _
    (λ line said. caused c.args.game.now c.args.text.now line.items c.in_ok-solution.solution _ _ (c.in_ok-is_written.ensures.written.0 is)
    c.in_ok-solution.ensures.kept c.header_number.ensures c.lines.ensures said)
    c.first_fault.ensures.first
