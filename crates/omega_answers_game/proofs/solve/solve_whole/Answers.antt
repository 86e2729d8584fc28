-- `solve_whole`: the reports are of the runs that `asked` says, and the answer for one player counts their lifts.
use Rattle.std.proofs.lemmas.Result.{IfOk-weaker}
use Rattle.omega_answers_game.proofs.solve.solve_whole.Goals as goal

pub returns-in-Both-clause-reported : goal.returns-in-Both-clause-reported
returns-in-Both-clause-reported g c = rw c.in-Both.is c.solve_both-solved.ensures.reported

pub returns-in-Search-clause-reported : goal.returns-in-Search-clause-reported
returns-in-Search-clause-reported g c = rw c.in-Search.is c.solve_by_judged_search.ensures.reported

pub returns-in-Player-clause-reported : goal.returns-in-Player-clause-reported
returns-in-Player-clause-reported g c = rw c.in-Player.is c.solve_one-solved.ensures.reported

pub returns-in-Player-clause-answer : goal.returns-in-Player-clause-answer
returns-in-Player-clause-answer g c =
    rw c.in-Player.is (IfOk-weaker c.solve_one-solved.result _ _ (λ output counted. (counted.0, counted.1)) c.solve_one-solved.ensures.answer)

pub returns-in-Player-clause-counted : goal.returns-in-Player-clause-counted
returns-in-Player-clause-counted g c = rw c.in-Player.is c.solve_one-solved.ensures.answer

pub returns-in-Both-clause-counted : goal.returns-in-Both-clause-counted
returns-in-Both-clause-counted g c = rw c.in-Both.is (IfOk-weaker c.solve_both-solved.result _ _ (λ output answer. tt) c.solve_both-solved.ensures.answer)

pub returns-in-Search-clause-counted : goal.returns-in-Search-clause-counted
returns-in-Search-clause-counted g c =
    rw c.in-Search.is (IfOk-weaker c.solve_by_judged_search.result _ _ (λ output answer. tt) c.solve_by_judged_search.ensures.answer)
