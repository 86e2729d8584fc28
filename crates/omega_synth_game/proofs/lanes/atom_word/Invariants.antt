-- the proposition is not among those so far
use Rattle.std.proofs.Common.{◌≡◌, drop}
use Rattle.omega_hoa_satisfiable.specs.private.Words.{word_among}
use Rattle.omega_synth_game.proofs.lanes.atom_word.Given as goal

abbrev pub invariant-loop-place : goal.invariant-loop-place
invariant-loop-place l = word_among l.block l.place (drop l.place l.atoms) l.number ≡ word_among l.block 0 l.atoms l.number
