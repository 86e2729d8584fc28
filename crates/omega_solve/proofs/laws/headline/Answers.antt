-- The headline, from the laws of lifting.
use Rattle.omega_solve.proofs.runs.Solved.{solved}
use Rattle.omega_solve.proofs.laws.headline.Goals as goal

pub returns : goal.returns
returns c =
    solved c.zero_tables_are_tables.ensures c.runs_keep_tables.ensures c.runs_are_bounded.ensures c.choices_are_a_strategy.ensures
    c.choices_win.ensures c.regions_stay_below_top.ensures
