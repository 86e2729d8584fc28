-- `add_places`: the places before this one are added.
use Rattle.std.proofs.Common.{◌≡◌, ℕ, take}
use Rattle.omega_game_dot.specs.Roles.{is_among}
use Rattle.omega_game_dot.proofs.marks.add_places.Given as goal

abbrev pub invariant-loop-place : goal.invariant-loop-place
invariant-loop-place l = (place : ℕ) → is_among place l.found.keys ≡ is_among place (take l.place-index l.places)
