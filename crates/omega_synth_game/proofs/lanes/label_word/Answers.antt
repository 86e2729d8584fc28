-- the word of its nodes
use Rattle.omega_hoa_satisfiable.specs.private.Words.{word_among}
use Rattle.omega_hoa_satisfiable.proofs.WordLemmas.{word-is}
use Rattle.omega_synth_game.proofs.lanes.label_word.Goals as goal

pub returns-clause-word : goal.returns-clause-word
returns-clause-word c =
    word-is (word_among c.args.block 0 c.args.atoms.now) c.args.label.now
    c.nodes-nodes.result.now c.in_ok-word.word c.nodes-nodes.ensures.nodes c.in_ok-word.ensures.word
