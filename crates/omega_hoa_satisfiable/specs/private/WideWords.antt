-- The words of a wide truth table, as nodes in postfix order make them.
use Rattle.std.specs.Prelude.{◌≡◌, ℕ, ◌<◌, List, [], get_or, length}
use Rattle.omega_hoa_label.specs.Label.{LabelTree}
use Rattle.omega_hoa_label.specs.declared.label.LabelNode.{LabelNode}
use Rattle.omega_hoa_satisfiable.specs.private.Words.{top_word, twelve, word_among, word_of, words_after}

-- the word that nodes make under the valuations of a block of the first twelve propositions
abbrev pub block_word : List LabelNode → ℕ → ℕ
block_word nodes block = top_word (words_after (word_among block 0 twelve) [] nodes)

-- the first words are those that the nodes make
pub record AreWords (nodes : List LabelNode) (words : List ℕ) (count : ℕ) : Type 0 where
  pub counted : length words ≡ count
  pub made : (block : ℕ) → block < count → get_or words block 0 ≡ block_word nodes block

-- the nodes make the words of the label
abbrev pub AreNodesOf : List LabelNode → LabelTree → Type 0
AreNodesOf nodes tree = (block : ℕ) → block_word nodes block ≡ word_of (word_among block 0 twelve) tree
