use Rattle.std.proofs.Common.{◌≡◌, map}
use Rattle.std.specs.List.{range_with_len}
use Rattle.omega_synth_rounds.specs.Rounds.{asked_in}
use Rattle.omega_synth_game.specs.RoundsOf.{letter_of}
use Rattle.omega_synth_realize.proofs.realizing.letters_by_state.Given as goal

abbrev pub invariant-loop-state : goal.invariant-loop-state
invariant-loop-state l = l.found.items ≡ map (λ state. letter_of l.letters (asked_in l.asked state)) (range_with_len 0 l.state)
