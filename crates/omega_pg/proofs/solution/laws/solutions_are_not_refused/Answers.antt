-- A text that describes a solution has no refusal.
use Rattle.omega_pg.proofs.solutions.Apart.{solutions_apart}
use Rattle.omega_pg.proofs.solution.laws.solutions_are_not_refused.Goals as goal

pub returns : goal.returns
returns c = solutions_apart c.cuts_are_one.ensures c.texts_have_no_fault.ensures
