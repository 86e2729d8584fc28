-- the lists so far
use Rattle.std.proofs.Common.{◌≡◌, [], replicate}
use Rattle.omega_synth_check.proofs.leaving.empty_lists.Given as goal

abbrev pub invariant-loop-index : goal.invariant-loop-index
invariant-loop-index l = l.lists.items ≡ replicate l._index []
