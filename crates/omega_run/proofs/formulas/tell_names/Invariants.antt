-- `tell_names`: the lines for the names before this one are told.
use Rattle.std.proofs.Common.{take}
use Rattle.omega_run.specs.FormulaRun.{name_lines}
use Rattle.omega_run.specs.private.steps.Telling.{TellsOn}
use Rattle.omega_run.proofs.formulas.tell_names.Given as goal

abbrev pub invariant-loop-name : goal.invariant-loop-name
invariant-loop-name g l =
    TellsOn l.sound (g.E.Output.contents l.fn.errors) (g.E.Output.contents l.errors) (g.E.Output.failed l.fn.errors) (g.E.Output.failed l.errors)
    (name_lines (take l.name-index l.names))
