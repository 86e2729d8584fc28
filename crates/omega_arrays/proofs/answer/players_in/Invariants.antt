-- The loop of `players_in`: the players of the numbers so far.
use Rattle.std.proofs.Common.{◌≡◌, map, take}
use Rattle.omega_arrays.specs.Arrays.{player_of}
use Rattle.omega_arrays.proofs.answer.players_in.Given as goal

abbrev pub invariant-loop-number : goal.invariant-loop-number
invariant-loop-number l = l.players.items ≡ map player_of (take l.number-index l.numbers)
