-- `automaton_cause`: the line is that about the fault of what is written.
use Rattle.std.proofs.Common.{rules}
use Rattle.std.proofs.lemmas.Result.{IfOk-weaker}
use Rattle.omega_hoa_diagnostics.specs.private.Refused.{IsRefusedFor}
use Rattle.omega_hoa_diagnostics.proofs.Texts.{caused}
use Rattle.omega_hoa_diagnostics.proofs.automaton_causes.automaton_cause.Goals as goal

pub returns-in-Some-clause-cause : goal.returns-in-Some-clause-cause
returns-in-Some-clause-cause c =
    let refused : IsRefusedFor c.args.text.now c.in-Some.fault = search rules in
    IfOk-weaker c.fault_line.result _ _
    (λ line said. caused c.args.text.now line.items c.in-Some.fault refused said)
    c.fault_line.ensures.line
