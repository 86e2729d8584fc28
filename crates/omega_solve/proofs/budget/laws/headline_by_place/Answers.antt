-- Budgets dealt out in the reordered game are dealt out in the original game, and the headline holds of that.
use Rattle.omega_solve.proofs.within_budget.Dealing.{by_place}
use Rattle.omega_solve.proofs.budget.laws.headline_by_place.Goals as goal

pub returns : goal.returns
returns c = by_place c.headline.ensures
