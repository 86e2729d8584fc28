-- The steps so far are numbered.
use Rattle.std.proofs.Common.{take}
use Rattle.omega_circuit.specs.private.Renumbered.{IsNumbering}
use Rattle.omega_circuit.proofs.canonical.numbering_of.Given as goal

abbrev pub invariant-loop-step : goal.invariant-loop-step
invariant-loop-step l = IsNumbering l.first (take l.step-index l.steps) l.numbers.keys l.nets.items
