-- the word of the counterexample would satisfy the formula
use Rattle.omega_ltl_satisfaction.proofs.laws.answers_exclude_each_other.Goals as goal

pub returns : goal.returns
returns c omniscience a formula example satisfied unsatisfied =
    unsatisfied.wanted.not_satisfied (satisfied omniscience unsatisfied.word unsatisfied.wanted.accepted)
