-- a refusal of the automaton, whatever limit is passed
use Rattle.std.proofs.lemmas.Result.{IfErr-weaker}
use Rattle.omega_ltl_terms.proofs.Refused.{large_by}
use Rattle.omega_ltl_translation.specs.PastLimits.{IsPastLimits}
use Rattle.omega_ltl_satisfaction.proofs.conjunct_automaton.conjunct_automaton.Goals as goal

pub returns-in-Ok-clause-refused : goal.returns-in-Ok-clause-refused
returns-in-Ok-clause-refused c = IfErr-weaker c.translate.result _ _
    (λ refusal large. large_by (IsPastLimits c.in-Ok.part c.args.conjunct.negated) refusal large) c.translate.ensures.refused
