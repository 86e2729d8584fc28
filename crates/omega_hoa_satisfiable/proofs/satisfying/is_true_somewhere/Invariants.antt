-- The label is true under no valuation of the blocks so far.
use Rattle.std.proofs.Common.{◌≡◌, ◌<◌, ℕ}
use Rattle.omega_hoa_satisfiable.specs.private.Words.{word_among, word_of}
use Rattle.omega_hoa_satisfiable.proofs.satisfying.is_true_somewhere.Given as goal

abbrev pub invariant-loop-block : goal.invariant-loop-block
invariant-loop-block l = (block : ℕ) → block < l.block → word_of (word_among block 0 l.found) l.label ≡ 0
