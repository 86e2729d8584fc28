-- The loop of `choices_held`: the choices at the places so far.
use Rattle.std.proofs.Common.{◌≡◌, map, get_or}
use Rattle.std.specs.List.{range_with_len}
use Rattle.omega_arrays.specs.Answer.{choice_for}
use Rattle.omega_arrays.specs.Arrays.{player_of}
use Rattle.omega_arrays.proofs.answer.choices_held.Given as goal

abbrev pub invariant-loop-place : goal.invariant-loop-place
invariant-loop-place l =
    l.held.items ≡ map (λ v. choice_for l.player (player_of (get_or l.winners v 0)) (get_or l.choices v 0)) (range_with_len 0 l.place)
