-- Strong demands, collected in ascending order, and the marks of those that are wanted.
use Rattle.std.specs.Prelude.{◌≡◌, ◌<◌, ◌≤◌, ℕ, Bool, List, length, slice_index, Contains}
use Rattle.omega_ltl_shapes.specs.Shapes.{shape_at}
use Rattle.omega_ltl_shapes.specs.declared.shape.Shape.{Shape}
use Rattle.omega_ltl_terms.specs.Limits.{most_sets}
use Rattle.omega_ltl_terms.specs.Meeting.{LacksSet}
use Rattle.omega_ltl_terms.specs.Needed.{IsNeeded, operands}
use Rattle.omega_ltl_terms.specs.Tables.{AreStrongs}
use Rattle.omega_ltl_terms.specs.private.Marking.{IsMarked}

-- the strong demands of sets, all below a number
pub record AreStrongsBelow (shapes : List Shape) (count : ℕ) (strongs : List ℕ) : Type 0 where
  pub are : AreStrongs shapes strongs
  pub low : (set : ℕ) → set < length strongs → slice_index strongs set < count

-- they are marked, and a marked one below the number lacks a set only if as many have one as may
pub record AreCollected (shapes : List Shape) (marked : List Bool) (count : ℕ) (strongs : List ℕ)
    : Type 0 where
  pub below : AreStrongsBelow shapes count strongs
  pub marked_are : (set : ℕ) → set < length strongs → IsMarked marked (slice_index strongs set)
  pub enough : (d : ℕ) → d < count → IsMarked marked d → LacksSet shapes strongs d
      → most_sets ≤ length strongs

-- the demands from a number on that are marked have what they speak of marked
abbrev pub AreSpoken : List Shape → ℕ → List Bool → Type 0
AreSpoken shapes from marked = (d : ℕ) → from ≤ d → IsMarked marked d
    → (e : ℕ) → Contains (operands (shape_at shapes d)) e → IsMarked marked e

-- marks are added for what marked demands speak of, and for what that speaks of, and no others
pub record MarksNeeded (shapes : List Shape) (old new : List Bool) : Type 0 where
  pub long : length new ≡ length old
  pub keeps : (d : ℕ) → IsMarked old d → IsMarked new d
  pub needed : (root : ℕ) → ((d : ℕ) → IsMarked old d → IsNeeded shapes root d)
      → (d : ℕ) → IsMarked new d → IsNeeded shapes root d
