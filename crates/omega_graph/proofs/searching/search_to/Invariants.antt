-- What holds in the loop of `search_to`: the edges of what was met before the index are followed.
use Rattle.std.proofs.Common.{◌+◌, ◌-◌, not, length, count_by}
use Rattle.omega_graph.proofs.Searched.{IsSearching}
use Rattle.omega_graph.proofs.searching.search_to.Given as goal

abbrev pub invariant-loop-index : goal.invariant-loop-index
invariant-loop-index l = IsSearching l.leaves l.enters l.sources l.count l.search l.index

abbrev pub decreases-loop-index : goal.decreases-loop-index
decreases-loop-index l = count_by not l.search.marks + length l.search.met - l.index
