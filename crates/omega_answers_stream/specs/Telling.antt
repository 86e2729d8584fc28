-- The text that is written of a stream of automata: a text for each of its items, one after the other.
use Rattle.std.specs.Prelude.{◌≡◌, ℕ, ◌+◌, List, [], ◌∷◌, ◌++◌}
use Rattle.omega_hoa.specs.Stream.{IsStreamText}
use Rattle.omega_hoa.specs.declared.item.Item.{Item}

-- the texts of items, numbered from this number on
abbrev pub texts_from : (ℕ → Item → List ℕ) → ℕ → List Item → List ℕ
texts_from text number [] = []
texts_from text number (item ∷ items) = text number item ++ texts_from text (number + 1) items

-- the source is the text of a stream, and `reported` has the texts of its items, numbered from 0
pub record IsTelling (text : ℕ → Item → List ℕ) (source reported : List ℕ) : Type 0 where
  pub items : List Item
  pub read : IsStreamText source items
  pub all : reported ≡ texts_from text 0 items
