-- the words so far and the nodes that are left make the word
use Rattle.std.proofs.Common.{◌≡◌, [], drop}
use Rattle.omega_hoa_satisfiable.specs.private.Words.{word_among, words_after}
use Rattle.omega_synth_game.proofs.lanes.word_of_nodes.Given as goal

abbrev pub invariant-loop-node : goal.invariant-loop-node
invariant-loop-node l =
    words_after (word_among l.block 0 l.atoms) l.stack (drop l.node-index l.nodes)
    ≡ words_after (word_among l.block 0 l.atoms) [] l.nodes
