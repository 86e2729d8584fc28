-- an automaton that is equal is judged, and words show of any other that it is not what was asked for
use Rattle.std.proofs.Common.{refl, subst}
use Rattle.omega_ltl_equality.specs.Equality.{IsFormulaEquality, IsGivenFor}
use Rattle.omega_ltl_equality.specs.Judging.{excess, missing, unjudged}
use Rattle.omega_ltl_equality.proofs.judging.judged_by.Goals as goal

pub returns-in-Equal-clause-judged : goal.returns-in-Equal-clause-judged
returns-in-Equal-clause-judged c = λ formula is given. record {
  deterministic = (subst (IsGivenFor c.args.automaton) c.in-Equal.is given).deterministic;
  exact = subst (IsFormulaEquality c.args.automaton formula) c.in-Equal.is is;
}

pub returns-in-Excess-clause-refused : goal.returns-in-Excess-clause-refused
returns-in-Excess-clause-refused c = λ formula is.
    unjudged refl (excess c.in-Excess.field-0 (subst (IsFormulaEquality c.args.automaton formula) c.in-Excess.is is))

pub returns-in-Missing-clause-refused : goal.returns-in-Missing-clause-refused
returns-in-Missing-clause-refused c = λ formula is.
    unjudged refl (missing c.in-Missing.field-0 (subst (IsFormulaEquality c.args.automaton formula) c.in-Missing.is is).1)
