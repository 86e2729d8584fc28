-- What holds in the loop of `BreadthSearch::begin`: the search came to the sources so far.
use Rattle.std.proofs.Common.{ℕ, IsTrue, Contains, take}
use Rattle.omega_graph.specs.private.Searching.{Grows, IsStart, mark_at}
use Rattle.omega_graph.proofs.searching.BreadthSearch.begin.Given as goal

abbrev pub invariant-loop-source : goal.invariant-loop-source
invariant-loop-source l =
    Grows (IsStart l.sources) l.initial.self l.self × ((v : ℕ) → Contains (take l.source-index l.sources) v → IsTrue (mark_at l.self.marks v))
