-- Demands that are marked, and their parts.
use Rattle.std.specs.Prelude.{◌≡◌, ◌↔◌, ◌⊎◌, ◌<◌, ◌≤◌, ℕ, Bool, false, IsTrue, List, length, slice_index_or}
use Rattle.std.specs.Prelude.{◌++◌, ◌∷◌, [], Contains}
use Rattle.omega_ltl_shapes.specs.Demands.{Valuation}
use Rattle.omega_ltl_shapes.specs.Shapes.{shape_at}
use Rattle.omega_ltl_shapes.specs.declared.shape.Shape.{Shape}
use Rattle.omega_ltl_terms.specs.Closing.{IsPart, is_false, parts_of, stays_closed}

-- a demand is marked
abbrev pub IsMarked : List Bool → ℕ → Type 0
IsMarked marked d = IsTrue (slice_index_or marked d false)

-- these numbers are marked in addition, and no others
pub record MarksMore (items : List ℕ) (old new : List Bool) : Type 0 where
  pub long : length new ≡ length old
  pub exact : (e : ℕ) → IsMarked new e ↔ (IsMarked old e ⊎ Contains items e)

-- what is marked is true at an index
abbrev pub MarkedAreTrue : {shapes : List Shape} → Valuation shapes → ℕ → List Bool → Type 0
MarkedAreTrue v i marked = (d : ℕ) → IsMarked marked d → IsTrue (v.truth d i)

-- the demands from a number on that are marked are not false, and their parts are marked
abbrev pub AreParted : List Shape → ℕ → List Bool → Type 0
AreParted shapes from marked = (d : ℕ) → from ≤ d → IsMarked marked d
    → (is_false (shape_at shapes d) ≡ false)
    × ((e : ℕ) → Contains (parts_of (shape_at shapes d)) e → IsMarked marked e)

-- marks are added that are true wherever the old ones are
pub record MarksTrue (shapes : List Shape) (old new : List Bool) : Type 0 where
  pub long : length new ≡ length old
  pub keeps : (d : ℕ) → IsMarked old d → IsMarked new d
  pub true_then : (v : Valuation shapes) (i : ℕ) → MarkedAreTrue v i old → MarkedAreTrue v i new
  pub parts : (demands : List ℕ) → ((d : ℕ) → IsMarked old d → IsPart shapes demands d)
      → (d : ℕ) → IsMarked new d → IsPart shapes demands d

-- what is marked is false together
abbrev pub MarkedAreNeverTrue : List Shape → List Bool → Type 0
MarkedAreNeverTrue shapes marked = (v : Valuation shapes) (i : ℕ) → MarkedAreTrue v i marked → ⊥

-- the numbers that are marked and whose shapes stay
abbrev pub AreStayed : List Shape → List Bool → List ℕ → Type 0
AreStayed shapes marked items = (d : ℕ)
    → Contains items d ↔ ((d < length shapes) × IsMarked marked d × IsTrue (stays_closed (shape_at shapes d)))

-- a number is added behind if it is marked and its shape stays
pub record AddsStayed (shapes : List Shape) (marked : List Bool) (d : ℕ) (old new : List ℕ) : Type 0 where
  pub behind : (new ≡ old) ⊎ (new ≡ old ++ d ∷ [])
  pub exact : (e : ℕ) → Contains new e
      ↔ (Contains old e ⊎ ((e ≡ d) × IsMarked marked d × IsTrue (stays_closed (shape_at shapes d))))
