-- the steps that are left make of the values what all steps make of the first ones
use Rattle.std.proofs.Common.{◌≡◌, drop}
use Rattle.omega_circuit.specs.private.Steps.{evaluated}
use Rattle.omega_circuit.proofs.round.evaluate.Given as goal

abbrev pub invariant-loop-step : goal.invariant-loop-step
invariant-loop-step l = evaluated (drop l.step-index l.steps) l.values ≡ evaluated l.steps l.fn.values
