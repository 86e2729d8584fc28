-- `joins`: the places before this one are joined.
use Rattle.std.proofs.Common.{◌≡◌, take}
use Rattle.omega_game_values.specs.Paths.{IsPath}
use Rattle.omega_game_values.specs.Winning.{end_of}
use Rattle.omega_answers_walk.proofs.joining.joins.Given as goal

abbrev pub invariant-loop-place : goal.invariant-loop-place
invariant-loop-place l =
    IsPath l.game l.from (take l.place-index l.places) × (l.at ≡ end_of l.from (take l.place-index l.places))
