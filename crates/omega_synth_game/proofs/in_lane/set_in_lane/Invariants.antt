-- the numbers so far and those that are left
use Rattle.std.proofs.Common.{◌≡◌, ◌++◌, drop}
use Rattle.omega_synth_game.specs.private.EdgeWords.{set_in_lane}
use Rattle.omega_synth_game.proofs.in_lane.set_in_lane.Given as goal

abbrev pub invariant-loop-index : goal.invariant-loop-index
invariant-loop-index l =
    l.set ++ set_in_lane l.lane (drop l.index l.numbers) (drop l.index l.words) ≡ set_in_lane l.lane l.numbers l.words
