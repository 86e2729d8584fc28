-- no word of the complement satisfies the formula, or these do
use Rattle.std.proofs.Common.{subst}
use Rattle.omega_ltl_satisfaction.specs.SatisfyingWords.{AreSatisfyingWords}
use Rattle.omega_ltl_equality.proofs.Answering.{none_equal, some_missing}
use Rattle.omega_ltl_equality.proofs.deciding.equality_of_missing.Goals as goal

pub returns-in-Empty-clause-right : goal.returns-in-Empty-clause-right
returns-in-Empty-clause-right c = λ a rest formula is_a given is satisfied words.
    none_equal a rest formula is_a given is satisfied (subst (AreSatisfyingWords rest formula) c.in-Empty.is words)

pub returns-in-Common-clause-right : goal.returns-in-Common-clause-right
returns-in-Common-clause-right c = λ a rest formula is_a given is satisfied words.
    some_missing a rest formula is_a given is satisfied c.in-Common.example (subst (AreSatisfyingWords rest formula) c.in-Common.is words)
