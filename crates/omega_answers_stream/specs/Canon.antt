-- The answer of `canon` for a stream of automata.
use Rattle.std.specs.Prelude.{◌≡◌, ℕ, List}
use Rattle.omega_canon.specs.Stream.{canonical_stream}
use Rattle.omega_hoa.specs.Stream.{IsStreamText}
use Rattle.omega_hoa.specs.declared.item.Item.{Item}

-- the answer of `canon`: the text is that of a stream, and the canonical texts of its automata are written, one after
-- the other
pub record IsStreamCanonAnswer (text output : List ℕ) : Type 0 where
  pub items : List Item
  pub read : IsStreamText text items
  pub written : output ≡ canonical_stream items
