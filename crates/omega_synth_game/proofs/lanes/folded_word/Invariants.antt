-- folded at the digits so far
use Rattle.std.proofs.Common.{◌≤◌, ◌-◌, ◌^◌}
use Rattle.omega_synth_game.specs.private.Lanes.{IsFolded}
use Rattle.omega_synth_game.proofs.lanes.folded_word.Given as goal

abbrev pub invariant-loop-place : goal.invariant-loop-place
invariant-loop-place l =
    IsFolded (2 ^ l.inputs) (2 ^ (l.place - l.inputs)) l.word l.folded × (l.inputs ≤ l.place) × (l.place - l.inputs ≤ 6 - l.inputs)
