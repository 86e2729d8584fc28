-- No valuation makes it true.
use Rattle.std.proofs.Common.{refl}
use Rattle.omega_hoa_satisfiable.proofs.CubeWords.{never-true, true-table}
use Rattle.omega_hoa_satisfiable.proofs.wide_table.WideTable.never.Goals as goal

pub returns-clause-table : goal.returns-clause-table
returns-clause-table c = true-table _ _ refl (never-true c.in_ok-words.words.items (c.in_ok-words.ensures.items_if_clones_equal (λ y e. e)))
