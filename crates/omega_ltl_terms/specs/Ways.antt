-- Ways to meet demands: what an edge fixes if of each choice one side is taken, and no more.
use Rattle.std.specs.Prelude.{◌≡◌, ℕ, Bool, true, List, [], ◌∷◌, Contains}
use Rattle.omega_ltl_shapes.specs.Shapes.{shape_at}
use Rattle.omega_ltl_shapes.specs.Terms.{AreContradictory, IsLiteralCube, IsOfBoth, no_literals}
use Rattle.omega_ltl_shapes.specs.declared.combination.Combination.{Combination}
use Rattle.omega_ltl_shapes.specs.declared.combination.Combination.TheVariants.{Both, Cases, Constant}
use Rattle.omega_ltl_shapes.specs.declared.combination.Combination.TheVariants.{Either, Literal, Same}
use Rattle.omega_ltl_shapes.specs.declared.shape.Shape.{Shape}
use Rattle.omega_ltl_shapes.specs.declared.shape.Shape.TheVariants.{Fix, Next, Now}
use Rattle.omega_ltl_shapes.specs.declared.term.Term.{Term}

-- a term fixes what two terms fix, which do not contradict each other
pub record IsJoined (one other both : Term) : Type 0 where
  pub agree : AreContradictory one.cube other.cube → ⊥
  pub of_both : IsOfBoth one other both

-- the term that fixes nothing
abbrev pub nothing : Term
nothing = record { cube = no_literals; next = []; late = 0 }

-- the term that fixes one demand on the next index
abbrev pub next_term : ℕ → Term
next_term d = record { cube = no_literals; next = d ∷ []; late = 0 }

-- a term fixes one literal
pub record IsLiteralTerm (name : ℕ) (negated : Bool) (term : Term) : Type 0 where
  pub cube : IsLiteralCube name negated term.cube
  pub next : term.next ≡ []
  pub late : term.late ≡ 0

-- the sides of the choice that a demand leaves: a term, and what is to be met beside it
abbrev pub sides : ℕ → Shape → List (Term × Combination)
sides d (Now c) = (nothing, c) ∷ []
sides d (Next e) = (next_term e, Constant true) ∷ []
sides d (Fix goal keep strong) = (nothing, goal) ∷ (next_term d, keep) ∷ []

-- a term fixes what another fixes, and beside it one way to meet a combination
pub data IsBeside (shapes : List Shape) : Term → Combination → Term → Type 0 where
  beside_constant : (with : Term) → IsBeside shapes with (Constant true) with
  beside_literal : (with one both : Term) (name : ℕ) (negated : Bool) → IsLiteralTerm name negated one
      → IsJoined with one both → IsBeside shapes with (Literal name negated) both
  beside_same : (with way both : Term) (d : ℕ) (side : Term × Combination)
      → Contains (sides d (shape_at shapes d)) side → IsBeside shapes side.0 side.1 way → IsJoined with way both → IsBeside shapes with (Same d) both
  beside_both : (with middle both : Term) (d e : ℕ) → IsBeside shapes with (Same d) middle
      → IsBeside shapes middle (Same e) both → IsBeside shapes with (Both d e) both
  beside_left : (with both : Term) (d e : ℕ) → IsBeside shapes with (Same d) both
      → IsBeside shapes with (Either d e) both
  beside_right : (with both : Term) (d e : ℕ) → IsBeside shapes with (Same e) both
      → IsBeside shapes with (Either d e) both
  beside_first : (with both : Term) (c d e f : ℕ) → IsBeside shapes with (Both c d) both
      → IsBeside shapes with (Cases c d e f) both
  beside_second : (with both : Term) (c d e f : ℕ) → IsBeside shapes with (Both e f) both
      → IsBeside shapes with (Cases c d e f) both

-- a way to meet a demand: one side of its choice
pub record IsWay (shapes : List Shape) (d : ℕ) (way : Term) : Type 0 where
  pub side : Term × Combination
  pub taken : Contains (sides d (shape_at shapes d)) side
  pub besides : IsBeside shapes side.0 side.1 way
