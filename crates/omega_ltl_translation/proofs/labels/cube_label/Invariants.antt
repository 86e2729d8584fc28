use Rattle.omega_ltl_translation.specs.private.Labels.{IsLabelBelow}
use Rattle.omega_ltl_translation.proofs.labels.cube_label.Given as goal

-- the label of the literals on the names so far
abbrev pub invariant-loop-name : goal.invariant-loop-name
invariant-loop-name l = IsLabelBelow l.cube l.name l.label
