-- the numbers of the flags before that are set, in ascending order
use Rattle.std.specs.List.Sorted.{IsStrictlyIncreasing}
use Rattle.omega_lang_lasso_search.proofs.Flags.{Chosen}
use Rattle.omega_lang_lasso_search.proofs.usable.flagged_edges.Given as goal

abbrev pub invariant-loop-number : goal.invariant-loop-number
invariant-loop-number l = Chosen l.flags l.edges.items l.number × IsStrictlyIncreasing l.edges.items
