-- Which demands are needed for another, and which strong ones of these have sets.
use Rattle.std.specs.Prelude.{◌<◌, ◌≤◌, ℕ, List, [], ◌∷◌, ◌++◌, length, slice_index, Contains}
use Rattle.omega_ltl_shapes.specs.Shapes.{shape_at}
use Rattle.omega_ltl_shapes.specs.declared.combination.Combination.{Combination}
use Rattle.omega_ltl_shapes.specs.declared.combination.Combination.TheVariants.{Both, Cases, Constant}
use Rattle.omega_ltl_shapes.specs.declared.combination.Combination.TheVariants.{Either, Literal, Same}
use Rattle.omega_ltl_shapes.specs.declared.shape.Shape.{Shape}
use Rattle.omega_ltl_shapes.specs.declared.shape.Shape.TheVariants.{Fix, Next, Now}
use Rattle.omega_ltl_terms.specs.Limits.{most_sets}
use Rattle.omega_ltl_terms.specs.Meeting.{LacksSet}

-- the demands that a combination speaks of
abbrev pub spoken : Combination → List ℕ
spoken (Constant value) = []
spoken (Literal name negated) = []
spoken (Same d) = d ∷ []
spoken (Both d e) = d ∷ e ∷ []
spoken (Either d e) = d ∷ e ∷ []
spoken (Cases a b c d) = a ∷ b ∷ c ∷ d ∷ []

-- the demands that a shape speaks of
abbrev pub operands : Shape → List ℕ
operands (Now c) = spoken c
operands (Next d) = d ∷ []
operands (Fix goal keep strong) = spoken goal ++ spoken keep

-- a demand is needed for another: it is that one, or a demand that is needed speaks of it
pub data IsNeeded (shapes : List Shape) (root : ℕ) : ℕ → Type 0 where
  needed_root : IsNeeded shapes root root
  needed_operand : (d e : ℕ) → IsNeeded shapes root d → Contains (operands (shape_at shapes d)) e
      → IsNeeded shapes root e

-- strong demands that are needed have sets, and one lacks a set only if as many have one as may
pub record HaveSets (shapes : List Shape) (root : ℕ) (strongs : List ℕ) : Type 0 where
  pub needed : (set : ℕ) → set < length strongs → IsNeeded shapes root (slice_index strongs set)
  pub enough : (d : ℕ) → IsNeeded shapes root d → LacksSet shapes strongs d → most_sets ≤ length strongs
