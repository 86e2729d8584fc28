-- The word of the nodes is the label's.
use Rattle.std.proofs.Common.{[], ap, arith, ◌∙◌}
use Rattle.omega_hoa_satisfiable.specs.private.Words.{peak, top_word, word_among, words_after}
use Rattle.omega_hoa_satisfiable.proofs.WordLemmas.{peak-label, word-is}
use Rattle.omega_hoa_satisfiable.proofs.tables.word_of_six.Goals as goal

pub word_of-requires : goal.word_of-requires
word_of-requires c = omega (arith, ap (peak 0) c.nodes-nodes.ensures.nodes, peak-label c.args.label.now c.nodes-nodes.ensures.shallow)

pub returns : goal.returns
returns c =
    word-is _ c.args.label.now c.nodes-nodes.result.now c.word_of.result c.nodes-nodes.ensures.nodes
    (c.word_of.ensures ∙ ap (λ found. top_word (words_after (word_among 0 0 found) [] c.nodes-nodes.result.now)) c.first_six.ensures)
