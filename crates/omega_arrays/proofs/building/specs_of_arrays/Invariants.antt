-- The loop of `collected`: the specifications of the nodes so far.
use Rattle.std.proofs.Common.{◌≡◌}
use Rattle.omega_arrays.specs.private.Specified.{specs_below}
use Rattle.omega_arrays.proofs.building.specs_of_arrays.Given as goal

abbrev pub invariant-loop-place : goal.invariant-loop-place
invariant-loop-place l = l.nodes ≡ specs_below l.arrays l.place
