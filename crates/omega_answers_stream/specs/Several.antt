-- Texts of several automata.
use Rattle.std.specs.Prelude.{ℕ, ◌≤◌, List, length}
use Rattle.omega_hoa.specs.Stream.{IsStreamText}
use Rattle.omega_hoa.specs.declared.item.Item.{Item}

-- the text of a stream of two or more items
pub record IsSeveral (text : List ℕ) : Type 0 where
  pub items : List Item
  pub read : IsStreamText text items
  pub several : 2 ≤ length items
