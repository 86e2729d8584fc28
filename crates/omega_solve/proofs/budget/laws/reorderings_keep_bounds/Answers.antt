-- The reordered game's priorities are the same in another order.
use Rattle.omega_solve.proofs.within_budget.Games.{bound_reordered}
use Rattle.omega_solve.proofs.budget.laws.reorderings_keep_bounds.Goals as goal

pub returns : goal.returns
returns c nodes other positions places player reordering = bound_reordered nodes other positions places reordering player
