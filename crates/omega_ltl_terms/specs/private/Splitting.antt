-- Cubes without the letters of others, and edges whose letters are split.
use Rattle.std.specs.Prelude.{◌≡◌, ◌⊎◌, ℕ, Bool, List, ◌++◌, AllPairs, Contains}
use Rattle.std.specs.List.{AllZip, flat_map}
use Rattle.omega_ltl_shapes.specs.Covers.{HasLiteral}
use Rattle.omega_ltl_shapes.specs.Demands.{IsLiteralTrue, Valuation}
use Rattle.omega_ltl_shapes.specs.Graphs.{IsGood}
use Rattle.omega_ltl_shapes.specs.Terms.{AreContradictory, HasBits, HasItems, HasLiterals}
use Rattle.omega_ltl_shapes.specs.declared.cube.Cube.{Cube}
use Rattle.omega_ltl_shapes.specs.declared.shape.Shape.{Shape}
use Rattle.omega_ltl_shapes.specs.declared.term.Term.{Term}
use Rattle.omega_ltl_terms.specs.Adding.{HasGood}
use Rattle.omega_ltl_terms.specs.Pieces.{ArePieces, IsOver, IsPieceOf, IsPossible}

-- a cube is true at a letter
abbrev pub IsCubeTrue : (ℕ → Bool) → Cube → Type 0
IsCubeTrue letter cube =
    (name : ℕ) (negated : Bool) → HasLiteral cube name negated → IsLiteralTrue letter name negated

-- some cube of a list is true at a letter
abbrev pub SomeCubeTrue : (ℕ → Bool) → List Cube → Type 0
SomeCubeTrue letter cubes = (cube : Cube) × Contains cubes cube × IsCubeTrue letter cube

-- each cube of a list has the literals of a cube
abbrev pub AllHaveLiterals : Cube → List Cube → Type 0
AllHaveLiterals cube cubes = (part : Cube) → Contains cubes part → HasLiterals cube part

-- each cube of a list has literals on names alone that pass a test
abbrev pub AllOver : (ℕ → Bool) → List Cube → Type 0
AllOver P cubes = (cube : Cube) → Contains cubes cube → IsOver P cube

-- each cube of a list contradicts a cube
abbrev pub AllAgainst : Cube → List Cube → Type 0
AllAgainst cube cubes = (part : Cube) → Contains cubes part → AreContradictory part cube

-- no two cubes of a list have a letter in common, and each has one
pub record AreDisjoint (cubes : List Cube) : Type 0 where
  pub apart : AllPairs AreContradictory cubes
  pub possible : (cube : Cube) → Contains cubes cube → IsPossible cube

-- so it is, and none of them has a letter in common with a cube, which has one in common with another
pub record IsSplitting (other base : Cube) (cubes : List Cube) : Type 0 where
  pub disjoint : AreDisjoint cubes
  pub against : AllAgainst base cubes
  pub base_possible : IsPossible base
  pub agree : AreContradictory base other → ⊥

-- cubes are added for the letters of a cube without those of another
pub record AddsWithout (cube other : Cube) (old new : List Cube) : Type 0 where
  pub keeps : (part : Cube) → Contains old part → Contains new part
  pub only : (part : Cube) → Contains new part → Contains old part ⊎ HasLiterals cube part
  pub covers : (letter : ℕ → Bool) → IsCubeTrue letter cube
      → IsCubeTrue letter other ⊎ SomeCubeTrue letter new
  pub split : IsPossible other → IsPossible cube → AreDisjoint old → AllAgainst cube old → AreDisjoint new
  pub names : (P : ℕ → Bool) → IsOver P other → IsOver P cube → AllOver P old → AllOver P new

-- cubes for the letters of some cubes without those of another
pub record AreWithout (cubes : List Cube) (other : Cube) (left : List Cube) : Type 0 where
  pub only : (part : Cube) → Contains left part → (cube : Cube) × Contains cubes cube × HasLiterals cube part
  pub covers : (letter : ℕ → Bool) → SomeCubeTrue letter cubes
      → IsCubeTrue letter other ⊎ SomeCubeTrue letter left
  pub split : IsPossible other → AreDisjoint cubes → AreDisjoint left
  pub names : (P : ℕ → Bool) → IsOver P other → AllOver P cubes → AllOver P left

-- a step of it for one literal: the cube that goes on has the literal if the other has it
pub record AddsNegation (base other : Cube) (name : ℕ) (negated : Bool) (more : Cube)
    (old new : List Cube) : Type 0 where
  pub keeps : (part : Cube) → Contains old part → Contains new part
  pub only : (part : Cube) → Contains new part → Contains old part ⊎ HasLiterals base part
  pub grows : HasLiterals base more
  pub has : HasLiteral other name negated → HasLiteral more name negated
  pub covers : (letter : ℕ → Bool) → IsCubeTrue letter base
      → IsCubeTrue letter more ⊎ SomeCubeTrue letter new
  pub split : IsPossible other → IsSplitting other base old → IsSplitting other more new
  pub names : (P : ℕ → Bool) → IsOver P other → IsOver P base → AllOver P old
      → IsOver P more × AllOver P new

-- the same for both literals of a name
pub record AddsNegations (base other : Cube) (name : ℕ) (more : Cube) (old new : List Cube) : Type 0 where
  pub keeps : (part : Cube) → Contains old part → Contains new part
  pub only : (part : Cube) → Contains new part → Contains old part ⊎ HasLiterals base part
  pub grows : HasLiterals base more
  pub has : (negated : Bool) → HasLiteral other name negated → HasLiteral more name negated
  pub covers : (letter : ℕ → Bool) → IsCubeTrue letter base
      → IsCubeTrue letter more ⊎ SomeCubeTrue letter new
  pub split : IsPossible other → IsSplitting other base old → IsSplitting other more new
  pub names : (P : ℕ → Bool) → IsOver P other → IsOver P base → AllOver P old
      → IsOver P more × AllOver P new

-- an edge asks for no more of the next index than another, and postpones no more
pub record AsksNoMore (less edge : Term) : Type 0 where
  pub next : HasItems less.next edge.next
  pub late : HasBits less.late edge.late

-- the same, but not the other way round
pub record IsLesser (less edge : Term) : Type 0 where
  pub no_more : AsksNoMore less edge
  pub unlike : AsksNoMore edge less → ⊥

-- each term of a list has a letter
abbrev pub AllPossible : List Term → Type 0
AllPossible terms = (term : Term) → Contains terms term → IsPossible term.cube

-- each term of a list has literals on names alone that pass a test
abbrev pub AllTermsOver : (ℕ → Bool) → List Term → Type 0
AllTermsOver P terms = (term : Term) → Contains terms term → IsOver P term.cube

-- cubes for the letters of an edge at which no lesser one can be taken
pub record AreLeft (before : List Term) (edge : Term) (cubes : List Cube) : Type 0 where
  pub only : AllHaveLiterals edge.cube cubes
  pub covers : (letter : ℕ → Bool) → IsCubeTrue letter edge.cube
      → ((less : Term) × Contains before less × AsksNoMore less edge × IsCubeTrue letter less.cube)
      ⊎ SomeCubeTrue letter cubes
  pub split : AllPossible before → IsPossible edge.cube → AreDisjoint cubes
  pub names : (P : ℕ → Bool) → AllTermsOver P before → IsOver P edge.cube → AllOver P cubes

-- edges for the letters of one at which none of others is taken
pub record AddsParts (before : List Term) (edge : Term) (old new : List Term) : Type 0 where
  pub keeps : (part : Term) → Contains old part → Contains new part
  pub only : (part : Term) → Contains new part → Contains old part ⊎ IsPieceOf edge part
  pub good : (shapes : List Shape) (strongs : List ℕ) (v : Valuation shapes) (i : ℕ)
      → IsGood strongs v i edge → HasGood strongs v i before ⊎ HasGood strongs v i new
  pub pieces : List Term
  pub behind : new ≡ old ++ pieces
  pub split : AllPossible before → IsPossible edge.cube → ArePieces edge pieces
  pub names : (P : ℕ → Bool) → AllTermsOver P before → IsOver P edge.cube → AllTermsOver P pieces

-- edges split: each is a part of one of them, and where one of them is good, so is a part
pub record AreSplit (edges parts : List Term) : Type 0 where
  pub only : (part : Term) → Contains parts part → (edge : Term) × Contains edges edge × IsPieceOf edge part
  pub good : (shapes : List Shape) (strongs : List ℕ) (v : Valuation shapes) (i : ℕ)
      → HasGood strongs v i edges → HasGood strongs v i parts

-- edges split in their order: the pieces of each, which name no more than the edges do
pub record AreSplitInOrder (edges parts : List Term) : Type 0 where
  pub pieces : List (List Term)
  pub split : AllPossible edges → AllZip ArePieces edges pieces
  pub all : parts ≡ flat_map (λ (row : List Term). row) pieces
  pub names : (P : ℕ → Bool) → AllTermsOver P edges → AllTermsOver P parts

-- the part of an edge with a cube
pub record IsPart (edge : Term) (cube : Cube) (part : Term) : Type 0 where
  pub cube_is : part.cube ≡ cube
  pub next : part.next ≡ edge.next
  pub late : part.late ≡ edge.late

-- parts are pushed cube by cube
pub record ArePushed (edge : Term) (cubes : List Cube) (old new : List Term) : Type 0 where
  pub keeps : (part : Term) → Contains old part → Contains new part
  pub only : (part : Term) → Contains new part
      → Contains old part ⊎ ((cube : Cube) × Contains cubes cube × IsPart edge cube part)
  pub each : (cube : Cube) → Contains cubes cube → (part : Term) × Contains new part × IsPart edge cube part
  pub more : List Term
  pub behind : new ≡ old ++ more
  pub zipped : AllZip (IsPart edge) cubes more
