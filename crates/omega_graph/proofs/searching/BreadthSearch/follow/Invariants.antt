-- What holds in the loop of `BreadthSearch::follow`: the search came to what the edges from the index on enter.
use Rattle.omega_graph.proofs.Following.{IsFollowing}
use Rattle.omega_graph.proofs.searching.BreadthSearch.follow.Given as goal

abbrev pub invariant-loop-left : goal.invariant-loop-left
invariant-loop-left l = IsFollowing l.links.states l.enters l.origin l.initial.self l.self l.left

abbrev pub decreases-loop-left : goal.decreases-loop-left
decreases-loop-left l = l.left
