-- the word of the blocks so far
use Rattle.std.proofs.Common.{◌+◌, ◌-◌, ◌*◌, ◌^◌, length}
use Rattle.omega_hoa_satisfiable.specs.private.Words.{word_among, word_of}
use Rattle.omega_synth_game.proofs.Choices.{IsJoined}
use Rattle.omega_synth_game.proofs.lanes.word_of_blocks.Given as goal

abbrev pub invariant-loop-turn : goal.invariant-loop-turn
invariant-loop-turn l =
    IsJoined (λ turn. word_of (word_among (l.lanes.block + turn * 2 ^ (length l.lanes.inputs.now - 6)) 0 l.atoms) l.label) l.turn l.word
