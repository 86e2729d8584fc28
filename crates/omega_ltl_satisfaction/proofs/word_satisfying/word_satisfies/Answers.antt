-- the refusal of the automaton of the word, or what is answered or refused with it
use Rattle.std.proofs.lemmas.Result.{IfErr-weaker, IfOk-weaker}
use Rattle.omega_ltl_satisfaction.specs.WordRefusing.{oversized}
use Rattle.omega_ltl_satisfaction.proofs.word_satisfying.word_satisfies.Goals as goal

pub returns-in-Err-clause-refused : goal.returns-in-Err-clause-refused
returns-in-Err-clause-refused c = oversized c.in-Err.ensures.refused

pub returns-in-Ok-clause-right : goal.returns-in-Ok-clause-right
returns-in-Ok-clause-right c =
    IfOk-weaker c.satisfaction_of_automaton.result _ _ (λ answer right. right c.args.word c.in-Ok.ensures.automaton) c.satisfaction_of_automaton.ensures.right

pub returns-in-Ok-clause-refused : goal.returns-in-Ok-clause-refused
returns-in-Ok-clause-refused c =
    IfErr-weaker c.satisfaction_of_automaton.result _ _ (λ refusal refused. refused c.args.word c.in-Ok.ensures.automaton) c.satisfaction_of_automaton.ensures.refused
