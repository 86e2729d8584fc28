-- Edges that meet demands.
use Rattle.std.specs.Prelude.{◌⊎◌, ◌≡◌, ◌<◌, ◌≤◌, ◌+◌, ℕ, IsTrue, List, length}
use Rattle.std.specs.Prelude.{Contains, IsPermutation, slice_index}
use Rattle.omega_ltl_shapes.specs.Covers.{CoversCombination, is_set}
use Rattle.omega_ltl_shapes.specs.Demands.{AreTrue, Valuation}
use Rattle.omega_ltl_shapes.specs.Graphs.{IsGood}
use Rattle.omega_ltl_shapes.specs.Shapes.{goal_of, shape_at}
use Rattle.omega_ltl_shapes.specs.Terms.{HasBits, IsWithin}
use Rattle.omega_ltl_shapes.specs.declared.shape.Shape.{Shape}
use Rattle.omega_ltl_shapes.specs.declared.term.Term.{Term}
use Rattle.omega_ltl_terms.specs.Adding.{AddsOnly, AreApart, HasGood, HasRoom, Keeps}
use Rattle.omega_ltl_terms.specs.Closing.{Closes, IsClosedSet}
use Rattle.omega_ltl_terms.specs.Meeting.{AreMet, IsMetBeside, Meets}

-- terms are added that meet a demand beside an edge; wherever the edge is good and the demand true, one is good
pub record AddsMet (shapes : List Shape) (strongs : List ℕ) (edge : Term) (d : ℕ) (old new : List Term)
    : Type 0 where
  pub keeps : Keeps old new
  pub only : AddsOnly (λ added. IsWithin edge added × Meets shapes strongs d added) old new
  pub ways : AddsOnly (IsMetBeside shapes strongs edge d) old new
  pub good : HasRoom new → (v : Valuation shapes) (i : ℕ) → IsGood strongs v i edge → IsTrue (v.truth d i)
      → HasGood strongs v i new

-- a term meets a demand beside one of some edges
abbrev pub MeetsBesideOne : List Shape → (strongs : List ℕ) (d : ℕ) → List Term → Term → Type 0
MeetsBesideOne shapes strongs d edges met =
    (edge : Term) × Contains edges edge × IsMetBeside shapes strongs edge d met

-- terms within the limit meet a demand beside edges, none of them within another
pub record MeetsAll (shapes : List Shape) (strongs : List ℕ) (d : ℕ) (edges new : List Term)
    : Type 0 where
  pub room : HasRoom new
  pub apart : AreApart new
  pub only : (added : Term) → Contains new added
      → ((edge : Term) × Contains edges edge × IsWithin edge added) × Meets shapes strongs d added
  pub ways : (added : Term) → Contains new added → MeetsBesideOne shapes strongs d edges added
  pub good : (v : Valuation shapes) (i : ℕ) → HasGood strongs v i edges → IsTrue (v.truth d i)
      → HasGood strongs v i new

-- the edges so far meet the demands so far, and where these are true one is good
pub record AreMeeting (shapes : List Shape) (strongs : List ℕ) (demands : List ℕ) (edges : List Term)
    : Type 0 where
  pub room : HasRoom edges
  pub meet : (edge : Term) → Contains edges edge → (d : ℕ) → Contains demands d
      → Meets shapes strongs d edge
  pub good : (v : Valuation shapes) (i : ℕ) → AreTrue v demands i → HasGood strongs v i edges

-- each edge meets the demands one after the other
abbrev pub AreAllMet : List Shape → (strongs demands : List ℕ) → List Term → Type 0
AreAllMet shapes strongs demands edges =
    (edge : Term) → Contains edges edge → AreMet shapes strongs demands edge

-- so it is with the demands of a state in some order
pub record AreMetInOrder (shapes : List Shape) (strongs state : List ℕ) (edges : List Term) : Type 0 where
  pub order : List ℕ
  pub same : IsPermutation state order
  pub met : AreAllMet shapes strongs order edges

-- the sets in which an edge is late and whose goals it does not cover
pub record IsLateLeft (shapes : List Shape) (strongs : List ℕ) (edge : Term) (left : ℕ) : Type 0 where
  pub only : HasBits left edge.late
  pub rest : (set : ℕ) → set < length strongs → IsTrue (is_set edge.late set)
      → IsTrue (is_set left set)
      ⊎ CoversCombination shapes edge.cube edge.next (goal_of (shape_at shapes (slice_index strongs set)))

-- an edge with its demands on the next index closed
pub record IsClosedEdge (shapes : List Shape) (strongs : List ℕ) (edge closed : Term) : Type 0 where
  pub cube : closed.cube ≡ edge.cube
  pub closes : Closes shapes edge.next closed.next
  pub exact : IsClosedSet shapes edge.next closed.next
  pub late : IsLateLeft shapes strongs edge closed.late

-- an edge is added with its demands closed, unless they are not true together anywhere
pub record AddsClosed (shapes : List Shape) (strongs : List ℕ) (edge : Term) (old new : List Term)
    : Type 0 where
  pub keeps : Keeps old new
  pub short : length new ≤ length old + 1
  pub only : AddsOnly (IsClosedEdge shapes strongs edge) old new
  pub good : HasRoom new → (v : Valuation shapes) (i : ℕ) → IsGood strongs v i edge → HasGood strongs v i new

-- each of some edges is
pub record ClosesAll (shapes : List Shape) (strongs : List ℕ) (edges new : List Term) : Type 0 where
  pub short : length new ≤ length edges
  pub apart : AreApart new
  pub only : (added : Term) → Contains new added
      → (edge : Term) × Contains edges edge × IsClosedEdge shapes strongs edge added
  pub good : HasRoom edges → (v : Valuation shapes) (i : ℕ) → HasGood strongs v i edges
      → HasGood strongs v i new

-- the sets below a number in which an edge is late and whose goals it does not cover
pub record IsLateSoFar (shapes : List Shape) (strongs : List ℕ) (edge : Term) (count left : ℕ) : Type 0 where
  pub only : HasBits left edge.late
  pub rest : (set : ℕ) → set < count → IsTrue (is_set edge.late set)
      → IsTrue (is_set left set)
      ⊎ CoversCombination shapes edge.cube edge.next (goal_of (shape_at shapes (slice_index strongs set)))
