-- `add_steps_from`: the steps to the place before this one are added.
use Rattle.std.proofs.Common.{◌≡◌, take}
use Rattle.omega_game_values.specs.Winning.{end_of}
use Rattle.omega_game_dot.specs.private.Marking.{AddsSteps}
use Rattle.omega_game_dot.proofs.marks.add_steps_from.Given as goal

abbrev pub invariant-loop-place : goal.invariant-loop-place
invariant-loop-place l =
    AddsSteps l.from (take l.place-index l.places) l.initial.found.keys l.found.keys
    × (l.at ≡ end_of l.from (take l.place-index l.places))
