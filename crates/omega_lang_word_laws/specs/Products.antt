-- Laws of products: which words they accept, and that two automata have one.
use Rattle.std.specs.Prelude.{◌≡◌, ◌↔◌, ℕ, Bool, false}
use Rattle.omega_hoa_automaton.specs.Automaton.{Description, IsAutomaton}
use Rattle.omega_hoa_automaton.specs.Branching.{has_universal_branching}
use Rattle.omega_lang_runs.specs.Words.{IsAccepted}
use Rattle.omega_lang_product.specs.Joining.{part_of_word}
use Rattle.omega_lang_product.specs.Pairs.{first_view, second_view}
use Rattle.omega_lang_product.specs.Product.{IsProduct}
use Rattle.omega_text.specs.NamedWords.{NamedWord}
use Rattle.omega_lang_word_laws.specs.NamedWords.{AcceptsNamed}

-- the product of two automata without universal branching accepts a word over the propositions of both exactly if each
-- accepts its part of the word
abbrev pub ProductsMeet : Type 0
ProductsMeet =
    (one other a : Description) (word : ℕ → ℕ → Bool) → IsAutomaton one → IsAutomaton other
    → has_universal_branching one ≡ false
    → has_universal_branching other ≡ false → IsProduct one other a
    → IsAccepted a word ↔ (IsAccepted one (part_of_word (first_view one other).places word)
    × IsAccepted other (part_of_word (second_view one other).places word))

-- so by names: the product accepts a word over names exactly if both do
abbrev pub ProductsMeetByName : Type 0
ProductsMeetByName = (one other a : Description) (word : NamedWord) → IsAutomaton one → IsAutomaton other
    → has_universal_branching one ≡ false
    → has_universal_branching other ≡ false → IsProduct one other a
    → AcceptsNamed a word ↔ (AcceptsNamed one word × AcceptsNamed other word)

-- two automata have at most one product
abbrev pub ProductsAreOne : Type 0
ProductsAreOne = (one other a b : Description) → IsProduct one other a
    → IsProduct one other b → a ≡ b
