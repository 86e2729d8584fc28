-- `answer_two_texts`: the answers to a game and a solution of it.
use Rattle.omega_run.proofs.two_texts.answer_two_texts.Goals as goal

pub returns-in-Verify-clause-answered : goal.returns-in-Verify-clause-answered
returns-in-Verify-clause-answered c = rw c.in-Verify.is c.verify_solution.ensures.answer

pub returns-in-VerifyNamed-clause-answered : goal.returns-in-VerifyNamed-clause-answered
returns-in-VerifyNamed-clause-answered c = rw c.in-VerifyNamed.is c.verify_with_names.ensures.answer

pub returns-in-VerifyWinners-clause-answered : goal.returns-in-VerifyWinners-clause-answered
returns-in-VerifyWinners-clause-answered c = rw c.in-VerifyWinners.is c.verify_winners.ensures.answer
