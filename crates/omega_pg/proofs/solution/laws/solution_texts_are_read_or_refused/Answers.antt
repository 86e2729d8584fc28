-- A text describes a solution of a game or has a refusal.
use Rattle.omega_pg.proofs.solutions.Decided.{solution_texts_decided}
use Rattle.omega_pg.proofs.solution.laws.solution_texts_are_read_or_refused.Goals as goal

pub returns : goal.returns
returns c = solution_texts_decided c.texts_are_read_or_faulty.ensures
