-- `answer_formulas`: the answers are those of the command.
use Rattle.omega_run.proofs.formulas.answer_formulas.Goals as goal

pub returns-in-Equal-clause-answered : goal.returns-in-Equal-clause-answered
returns-in-Equal-clause-answered c = rw c.in-Equal.is c.equal_each.ensures.answers

pub returns-in-Equal-clause-unmentioned : goal.returns-in-Equal-clause-unmentioned
returns-in-Equal-clause-unmentioned c = rw c.in-Equal.is c.equal_each.ensures.unmentioned

pub returns-in-Satisfies-clause-answered : goal.returns-in-Satisfies-clause-answered
returns-in-Satisfies-clause-answered c = rw c.in-Satisfies.is c.satisfies_each.ensures.answers

pub returns-in-SatisfiesWord-clause-answered : goal.returns-in-SatisfiesWord-clause-answered
returns-in-SatisfiesWord-clause-answered c = rw c.in-SatisfiesWord.is c.satisfies_word_each.ensures.answers

pub returns-in-Satisfies-clause-unmentioned : goal.returns-in-Satisfies-clause-unmentioned
returns-in-Satisfies-clause-unmentioned c = rw c.in-Satisfies.is c.satisfies_each.ensures.unmentioned

pub returns-in-SatisfiesWord-clause-unmentioned : goal.returns-in-SatisfiesWord-clause-unmentioned
returns-in-SatisfiesWord-clause-unmentioned c = rw c.in-SatisfiesWord.is c.satisfies_word_each.ensures.unmentioned

pub returns-in-SatisfiesStream-clause-answered : goal.returns-in-SatisfiesStream-clause-answered
returns-in-SatisfiesStream-clause-answered c = rw c.in-SatisfiesStream.is c.satisfies_counted.ensures.answered

pub returns-in-SatisfiesStream-clause-unmentioned : goal.returns-in-SatisfiesStream-clause-unmentioned
returns-in-SatisfiesStream-clause-unmentioned c = rw c.in-SatisfiesStream.is c.satisfies_counted.ensures.unmentioned
