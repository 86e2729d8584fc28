-- Terms: one within another, and two together.
use Rattle.std.specs.Prelude.{◌≡◌, ◌↔◌, ◌⊎◌, ℕ, Bool, true, false, IsTrue, List, Contains}
use Rattle.omega_ltl_shapes.specs.Covers.{HasLiteral, is_set}
use Rattle.omega_ltl_shapes.specs.declared.cube.Cube.{Cube}
use Rattle.omega_ltl_shapes.specs.declared.term.Term.{Term}

-- one cube has the literals of another
abbrev pub HasLiterals : Cube → Cube → Type 0
HasLiterals cube more =
    (name : ℕ) (negated : Bool) → HasLiteral cube name negated → HasLiteral more name negated

-- one list has the items of another
abbrev pub HasItems : List ℕ → List ℕ → Type 0
HasItems items more = (d : ℕ) → Contains items d → Contains more d

-- one word has the bits of another
abbrev pub HasBits : ℕ → ℕ → Type 0
HasBits word more = (place : ℕ) → IsTrue (is_set word place) → IsTrue (is_set more place)

-- a term fixes what another fixes, and perhaps more
pub record IsWithin (term more : Term) : Type 0 where
  pub literals : HasLiterals term.cube more.cube
  pub next : HasItems term.next more.next
  pub late : HasBits term.late more.late

-- a literal of one cube contradicts one of another
abbrev pub AreContradictory : Cube → Cube → Type 0
AreContradictory one other = (name : ℕ) × ((HasLiteral one name false × HasLiteral other name true)
    ⊎ (HasLiteral one name true × HasLiteral other name false))

-- a cube has the literals of two
abbrev pub IsCubeOfBoth : Cube → Cube → Cube → Type 0
IsCubeOfBoth one other both = (name : ℕ) (negated : Bool)
    → HasLiteral both name negated ↔ (HasLiteral one name negated ⊎ HasLiteral other name negated)

-- a list has the items of two
abbrev pub HasItemsOfBoth : List ℕ → List ℕ → List ℕ → Type 0
HasItemsOfBoth one other both = (d : ℕ) → Contains both d ↔ (Contains one d ⊎ Contains other d)

-- a word has the bits of two
abbrev pub HasBitsOfBoth : ℕ → ℕ → ℕ → Type 0
HasBitsOfBoth one other both = (place : ℕ)
    → IsTrue (is_set both place) ↔ (IsTrue (is_set one place) ⊎ IsTrue (is_set other place))

-- a term fixes what two terms fix, and no more
pub record IsOfBoth (one other both : Term) : Type 0 where
  pub literals : IsCubeOfBoth one.cube other.cube both.cube
  pub next : HasItemsOfBoth one.next other.next both.next
  pub late : HasBitsOfBoth one.late other.late both.late

-- the cube without literals
abbrev pub no_literals : Cube
no_literals = record { positive = 0; negative = 0 }

-- the cube of one literal
abbrev pub IsLiteralCube : ℕ → Bool → Cube → Type 0
IsLiteralCube name negated cube = (other : ℕ) (sign : Bool)
    → HasLiteral cube other sign ↔ ((other ≡ name) × (sign ≡ negated))

-- two words have a bit in common
abbrev pub HaveCommonBit : ℕ → ℕ → Type 0
HaveCommonBit one other = (place : ℕ) × IsTrue (is_set one place) × IsTrue (is_set other place)

-- a word has the bits of another and one more
abbrev pub HasOneMore : ℕ → ℕ → ℕ → Type 0
HasOneMore word place more = (other : ℕ)
    → IsTrue (is_set more other) ↔ (IsTrue (is_set word other) ⊎ (other ≡ place))

-- a cube with one literal more
abbrev pub IsCubeWith : Cube → ℕ → Bool → Cube → Type 0
IsCubeWith cube name negated more = (other : ℕ) (sign : Bool)
    → HasLiteral more other sign ↔ (HasLiteral cube other sign ⊎ ((other ≡ name) × (sign ≡ negated)))
