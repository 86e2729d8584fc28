-- A run of the budget's entries has one entry more, and is bounded.
use Rattle.omega_solve.proofs.within_budget.Dealing.{below_bound}
use Rattle.omega_solve.proofs.budget.laws.spent_budgets_are_below_the_bound.Goals as goal

pub returns : goal.returns
returns c nodes player budget game goes_on = below_bound c.runs_are_bounded.ensures nodes player budget goes_on
