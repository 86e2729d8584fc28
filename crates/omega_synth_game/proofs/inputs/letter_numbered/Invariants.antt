-- the letter so far and the digits that are left
use Rattle.std.proofs.Common.{◌≡◌, ◌++◌, drop}
use Rattle.omega_synth_game.specs.Letters.{letter_numbered}
use Rattle.omega_synth_game.proofs.inputs.letter_numbered.Given as goal

abbrev pub invariant-loop-input : goal.invariant-loop-input
invariant-loop-input l = l.letter ++ letter_numbered (drop l.input-index l.inputs) l.digits ≡ letter_numbered l.inputs l.fn.number
