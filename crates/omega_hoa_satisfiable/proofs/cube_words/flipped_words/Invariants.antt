-- The words so far are turned.
use Rattle.std.proofs.Common.{◌≡◌, ◌<◌, ℕ, bit_xor, get_or, length}
use Rattle.omega_hoa_satisfiable.specs.private.Words.{ones}
use Rattle.omega_hoa_satisfiable.proofs.cube_words.flipped_words.Given as goal

abbrev pub invariant-loop-word : goal.invariant-loop-word
invariant-loop-word l = record {
  counted : length l.flipped.items ≡ l.word-index;
  turned : (block : ℕ) → block < l.word-index → get_or l.flipped.items block 0 ≡ bit_xor (get_or l.words block 0) ones;
}
