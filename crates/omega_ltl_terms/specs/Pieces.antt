-- Edges whose letters are split into pieces.
use Rattle.std.specs.Prelude.{◌≡◌, ℕ, Bool, IsTrue, List, AllPairs, Contains, IsPermutation}
use Rattle.std.specs.List.{AllZip, flat_map}
use Rattle.omega_ltl_shapes.specs.Covers.{HasLiteral}
use Rattle.omega_ltl_shapes.specs.Terms.{AreContradictory, HasBits, HasLiterals}
use Rattle.omega_ltl_shapes.specs.declared.cube.Cube.{Cube}
use Rattle.omega_ltl_shapes.specs.declared.shape.Shape.{Shape}
use Rattle.omega_ltl_shapes.specs.declared.term.Term.{Term}
use Rattle.omega_ltl_terms.specs.Adding.{AreApart, HasRoom}
use Rattle.omega_ltl_terms.specs.Closing.{IsClosedSet}
use Rattle.omega_ltl_terms.specs.Meeting.{AreMet}

-- a cube is true at some letter: it does not contradict itself
abbrev pub IsPossible : Cube → Type 0
IsPossible cube = AreContradictory cube cube → ⊥

-- a cube has literals on names alone that pass a test
abbrev pub IsOver : (ℕ → Bool) → Cube → Type 0
IsOver test cube = (name : ℕ) (negated : Bool) → HasLiteral cube name negated → IsTrue (test name)

-- a piece of an edge: some of its letters, and the same else
pub record IsPieceOf (edge piece : Term) : Type 0 where
  pub literals : HasLiterals edge.cube piece.cube
  pub next : piece.next ≡ edge.next
  pub late : piece.late ≡ edge.late

-- pieces of an edge, each with a letter, and no two with one in common
pub record ArePieces (edge : Term) (pieces : List Term) : Type 0 where
  pub each : (piece : Term) → Contains pieces piece → IsPieceOf edge piece
  pub possible : (piece : Term) → Contains pieces piece → IsPossible piece.cube
  pub disjoint : AllPairs (λ one other. AreContradictory one.cube other.cube) pieces

-- edges are pieces of some wholes, whole by whole in some order, and name no more than the wholes do
pub record AreInPieces (wholes edges : List Term) : Type 0 where
  pub sorted : List Term
  pub same : IsPermutation wholes sorted
  pub pieces : List (List Term)
  pub each : AllZip ArePieces sorted pieces
  pub all : edges ≡ flat_map (λ (row : List Term). row) pieces
  pub names : (test : ℕ → Bool) → ((whole : Term) → Contains wholes whole → IsOver test whole.cube)
      → (edge : Term) → Contains edges edge → IsOver test edge.cube

-- an edge that meets demands, with those on the next index closed, and late in no more sets
pub record IsWhole (shapes : List Shape) (strongs demands : List ℕ) (whole : Term) : Type 0 where
  pub edge : Term
  pub met : AreMet shapes strongs demands edge
  pub cube : whole.cube ≡ edge.cube
  pub closed : IsClosedSet shapes edge.next whole.next
  pub late : HasBits whole.late edge.late

-- the edges of a state: pieces of edges that meet its demands in some order, within the limit and none of them within
-- another
pub record AreEdges (shapes : List Shape) (strongs state : List ℕ) (edges : List Term) : Type 0 where
  pub order : List ℕ
  pub same : IsPermutation state order
  pub wholes : List Term
  pub are : (whole : Term) → Contains wholes whole → IsWhole shapes strongs order whole
  pub apart : AreApart wholes
  pub room : HasRoom wholes
  pub split : AreInPieces wholes edges
