-- What holds in the loop of `marked`: the places before the one looked at are marked, and no other.
use Rattle.std.proofs.Common.{◌≡◌, take, vec_len}
use Rattle.omega_game.specs.private.checking.Following.{AreMarked}
use Rattle.omega_game.proofs.following.marks_of_places.Given as goal

abbrev pub invariant-loop-place : goal.invariant-loop-place
invariant-loop-place l = record {
  count : vec_len l.marks ≡ l.count;
  marked : AreMarked (take l.place-index l.places) l.marks.items;
}
