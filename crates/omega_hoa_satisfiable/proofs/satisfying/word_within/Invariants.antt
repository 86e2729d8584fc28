-- The words so far and the nodes that are left make the word; they never stack up past the room.
use Rattle.std.proofs.Common.{◌≡◌, ◌≤◌, [], drop, length}
use Rattle.omega_hoa_satisfiable.specs.private.Words.{peak, word_among, words_after}
use Rattle.omega_hoa_satisfiable.proofs.satisfying.word_within.Given as goal

abbrev pub invariant-loop-node : goal.invariant-loop-node
invariant-loop-node g l = record {
  rest : words_after (word_among l.block 0 l.found) l.words (drop l.node-index l.nodes) ≡ words_after (word_among l.block 0 l.found) [] l.nodes;
  room : peak (length l.words) (drop l.node-index l.nodes) ≤ g.row.MOST;
}
