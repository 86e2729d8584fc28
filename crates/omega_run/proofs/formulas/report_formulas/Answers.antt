-- `report_formulas`: the lines of a refusal are written, and that of its cause.
use Rattle.std.proofs.Common.{nat_lt, length}
use Rattle.omega_run.specs.FormulaRun.{IsFormulaCause, formula_lines}
use Rattle.omega_run.specs.World.{tells_of}
use Rattle.omega_run.proofs.Reported.{reports_cause}
use Rattle.omega_run.proofs.formulas.report_formulas.Goals as goal

pub returns : goal.returns
returns g c =
    let refused = c.args.refused in
    reports_cause (λ line. line.items)
    (λ refusal. formula_lines c.args.verbose c.args.asked (nat_lt 1 (length c.args.formulas.now)) refused.about refusal)
    refused.refusal c.report_lines.result (tells_of g.E.Output c.args.errors.now c.report_lines.new.errors)
    (IsFormulaCause c.args.verbose c.args.asked c.args.formulas.now c.args.input.now refused.about)
    c.formula_cause-cause.result.items c.formula_lines-lines.result c.formula_cause-cause.ensures (rw c.are_several-several.ensures at c.formula_lines-lines.ensures.lines)
    (rw c.as_slice.ensures.value at c.report_lines.ensures.reported) c.report_lines.ensures.wanting
