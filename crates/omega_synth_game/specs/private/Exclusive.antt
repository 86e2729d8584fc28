-- Labels of the edges of a state, judged together in blocks of letters.
use Rattle.std.specs.Prelude.{◌≡◌, ℕ, ◌<◌, true, List, Some, slice_get}
use Rattle.omega_hoa_label.specs.Label.{LabelTree, propositions}
use Rattle.omega_hoa_satisfiable.specs.private.Words.{word_among, word_of}
use Rattle.omega_hoa_automaton.specs.declared.edge.Edge.{Edge}
use Rattle.omega_hoa_automaton.specs.declared.state.State.{State}
use Rattle.omega_synth_game.specs.private.Lanes.{AreApart, is_one_of, is_set}

-- the edge at an index of the state has the label
pub record HasLabelAt (state : State) (at : ℕ) (label : LabelTree) : Type 0 where
  pub edge : Edge
  pub there : slice_get state.edges at ≡ Some edge
  pub labelled : edge.label ≡ Some label

-- each of the first edges has a label, and these mention no other propositions than some, each once
pub record AreMentionedBelow (mentioned : List ℕ) (state : State) (end : ℕ) : Type 0 where
  pub apart : AreApart mentioned
  pub labelled : (at : ℕ) → at < end → (label : LabelTree) × HasLabelAt state at label
  pub covers : (at : ℕ) (label : LabelTree) (p : ℕ) → at < end → HasLabelAt state at label
      → is_one_of (propositions label) p ≡ true → is_one_of mentioned p ≡ true

-- the word of a label in a block of letters over propositions
abbrev pub block_word : List ℕ → ℕ → LabelTree → ℕ
block_word mentioned block label = word_of (word_among block 0 mentioned) label

-- at each letter of a block at most one of the labels of the first edges is true
abbrev pub AreApartIn : List ℕ → ℕ → State → ℕ → Type 0
AreApartIn mentioned block state end =
    (first second lane : ℕ) (one other : LabelTree) → first < second → second < end → lane < 64
    → HasLabelAt state first one → HasLabelAt state second other
    → is_set (block_word mentioned block one) lane ≡ true
    → is_set (block_word mentioned block other) lane ≡ true → ⊥
