-- Graphs whose states are sets of demands: which edges are right, and when they are enough.
use Rattle.std.specs.Prelude.{◌≡◌, ◌⊎◌, ◌<◌, ◌≤◌, ◌+◌, ℕ, Bool, false, IsTrue, List, length, slice_index}
use Rattle.std.specs.Prelude.{Contains}
use Rattle.omega_ltl_shapes.specs.Covers.{CoversAll, CoversCombination, HasLiteral, is_set}
use Rattle.omega_ltl_shapes.specs.Demands.{AreTrue, IsLiteralTrue, IsTrueAt, SaysAt, Valuation}
use Rattle.omega_ltl_shapes.specs.Shapes.{goal_of, is_strong, shape_at}
use Rattle.omega_ltl_shapes.specs.declared.cube.Cube.{Cube}
use Rattle.omega_ltl_shapes.specs.declared.shape.Shape.{Shape}
use Rattle.omega_ltl_shapes.specs.declared.term.Term.{Term}

-- a demand is strong
abbrev pub IsStrong : List Shape → ℕ → Type 0
IsStrong shapes d = IsTrue (is_strong (shape_at shapes d))

-- the set with this number is that of a strong demand: `strongs` has the demands of the sets in order
pub record IsSetOf (strongs : List ℕ) (set d : ℕ) : Type 0 where
  pub below : set < length strongs
  pub is : slice_index strongs set ≡ d

-- a strong demand has its goal covered, or is postponed: it is late in its set, and demanded of the next index
abbrev pub IsPostponed : List Shape → (strongs : List ℕ) → Cube → (next : List ℕ) → (late d : ℕ) → Type 0
IsPostponed shapes strongs cube next late d =
    CoversCombination shapes cube next (goal_of (shape_at shapes d))
    ⊎ ((set : ℕ) × IsSetOf strongs set d × IsTrue (is_set late set) × Contains next d)

-- demands on the next index are closed by others: what covers the others covers them, and strong ones are among the
-- others
pub record IsClosedBy (shapes : List Shape) (next closed : List ℕ) : Type 0 where
  pub covered : (cube : Cube) (after : List ℕ) → CoversAll shapes cube after closed
      → CoversAll shapes cube after next
  pub kept : (d : ℕ) → Contains next d → IsStrong shapes d → Contains closed d

-- an edge from a state to another, which is `next` of the term, is right: with some demands on the next index, which
-- the other state closes, it covers each demand of its state, and each strong one has its goal covered or is postponed
pub record IsRight (shapes : List Shape) (strongs state : List ℕ) (edge : Term) : Type 0 where
  pub next : List ℕ
  pub covers : CoversAll shapes edge.cube next state
  pub closed : IsClosedBy shapes next edge.next
  pub below : (d : ℕ) → Contains edge.next d → d < length shapes
  pub postponed : (d : ℕ) → Contains state d → IsStrong shapes d
      → IsPostponed shapes strongs edge.cube next edge.late d

-- all edges of a state are right
abbrev pub AreRight : List Shape → (strongs state : List ℕ) → List Term → Type 0
AreRight shapes strongs state edges =
    (edge : Term) → Contains edges edge → IsRight shapes strongs state edge

-- a term is good at an index: its literals are true, its demands on the next index are true there, and it is late at
-- true strong demands alone, whose goals do not hold now
pub record IsGood {shapes : List Shape} (strongs : List ℕ) (v : Valuation shapes) (i : ℕ) (term : Term)
    : Type 0 where
  pub literals : (name : ℕ) (negated : Bool) → HasLiteral term.cube name negated
      → IsLiteralTrue (v.held i) name negated
  pub next : AreTrue v term.next (i + 1)
  pub strong : (set : ℕ) → IsTrue (is_set term.late set) → IsStrong shapes (slice_index strongs set)
  pub late : (set : ℕ) → IsTrue (is_set term.late set) → IsTrue (v.truth (slice_index strongs set) i)
  pub no_goal : (set : ℕ) → IsTrue (is_set term.late set)
      → SaysAt v.held (IsTrueAt v.truth) i (goal_of (shape_at shapes (slice_index strongs set))) → ⊥

-- the edges of a state are enough: wherever its demands are true, some edge is good
abbrev pub AreEnough : List Shape → (strongs state : List ℕ) → List Term → Type 0
AreEnough shapes strongs state edges = (v : Valuation shapes) (i : ℕ) → AreTrue v state i
    → (edge : Term) × Contains edges edge × IsGood strongs v i edge

-- a run, index by index: the states, and what the edges fix
pub record Trace : Type 0 where
  pub states : ℕ → List ℕ
  pub cubes : ℕ → Cube
  pub nexts : ℕ → List ℕ
  pub lates : ℕ → ℕ

-- a run whose edges are right, and each set of a strong demand is not late infinitely often
pub record IsTrace (shapes : List Shape) (strongs : List ℕ) (held : ℕ → ℕ → Bool) (t : Trace)
    : Type 0 where
  pub allowed : (i name : ℕ) (negated : Bool) → HasLiteral (t.cubes i) name negated
      → IsLiteralTrue (held i) name negated
  pub covers : (i : ℕ) → CoversAll shapes (t.cubes i) (t.nexts i) (t.states i)
  pub goes : (i : ℕ) → CoversAll shapes (t.cubes (i + 1)) (t.nexts (i + 1)) (t.nexts i)
  pub kept : (i d : ℕ) → Contains (t.nexts i) d → IsStrong shapes d → Contains (t.states (i + 1)) d
  pub postponed : (i d : ℕ) → Contains (t.states i) d → IsStrong shapes d
      → IsPostponed shapes strongs (t.cubes i) (t.nexts i) (t.lates i) d
  pub once : (d one other : ℕ) → IsSetOf strongs one d → IsSetOf strongs other d → one ≡ other
  pub ever : (set i : ℕ) → set < length strongs
      → (j : ℕ) × (i ≤ j) × (is_set (t.lates j) set ≡ false)
