-- The header of a product.
use Rattle.std.specs.Prelude.{◌≡◌, ◌+◌, ◌<◌, ◌^◌, ℕ, List, Option, length}
use Rattle.omega_hoa_acceptance.specs.Raw.{RawAccTree}
use Rattle.omega_hoa_acceptance.specs.declared.name.AccName.{AccName}
use Rattle.omega_hoa_automaton.specs.Automaton.{Description}
use Rattle.omega_hoa_syntax.specs.declared.raw_item.RawItem.{RawItem}
use Rattle.omega_lang_product.specs.Joining.{joined_names}
use Rattle.omega_lang_product.specs.Pairs.{Pair, start_pairs}
use Rattle.omega_lang_product.specs.Written.{IsAcceptanceWritten, raw_items}

-- these are the names of the propositions of both, and the number of their sets
pub record AreOfBoth (one other : Description) (names : List (List ℕ)) (sets : ℕ) : Type 0 where
  pub named : names ≡ joined_names one.propositions other.propositions
  pub few : length names < 2 ^ 32
  pub counted : sets ≡ one.sets + other.sets

-- these are the items of the header of the product with these pairs
pub record IsHeader (one other : Description) (pairs : List Pair)
    (items : List RawItem) : Type 0 where
  pub name : Option AccName
  pub formula : RawAccTree
  pub accepted : IsAcceptanceWritten one other name formula
  pub is : items ≡ raw_items (joined_names one.propositions other.propositions)
      (one.sets + other.sets) name formula (start_pairs one other) pairs
