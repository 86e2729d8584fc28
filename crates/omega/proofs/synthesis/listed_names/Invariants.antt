-- The loop of `listed_names`: the names so far and the pieces of the rest are the pieces of all.
use Rattle.std.proofs.Common.{◌≡◌, ◌++◌, length}
use Rattle.omega.specs.Synthesis.{pieces_between}
use Rattle.omega.proofs.synthesis.listed_names.Given as goal

abbrev pub invariant-loop-end : goal.invariant-loop-end
invariant-loop-end l = record {
  pieces : pieces_between l.text ≡ l.names.items ++ pieces_between l.rest;
}

abbrev pub decreases-loop-end : goal.decreases-loop-end
decreases-loop-end l = length l.rest
