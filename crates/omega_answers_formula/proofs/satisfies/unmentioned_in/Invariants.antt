-- `unmentioned_in`: the names of the formulas before this one are found.
use Rattle.std.proofs.Common.{◌≡◌, take}
use Rattle.std.specs.List.{flat_map}
use Rattle.omega_ltl_satisfaction.specs.Names.{unmentioned_names}
use Rattle.omega_answers_formula.proofs.satisfies.unmentioned_in.Given as goal

abbrev pub invariant-loop-formula : goal.invariant-loop-formula
invariant-loop-formula l = l.found.items ≡ flat_map (λ formula. unmentioned_names formula l.automaton) (take l.formula-index l.formulas)
