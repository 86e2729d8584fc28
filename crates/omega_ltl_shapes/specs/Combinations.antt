-- What combinations of literals and demands say.
use Rattle.std.specs.Prelude.{◌⊎◌, ◌<◌, ℕ, Bool, true, false, not, ◌&&◌, ◌||◌, IsTrue}
use Rattle.omega_ltl_shapes.specs.declared.combination.Combination.{Combination}
use Rattle.omega_ltl_shapes.specs.declared.combination.Combination.TheVariants.{Both, Cases, Constant}
use Rattle.omega_ltl_shapes.specs.declared.combination.Combination.TheVariants.{Either, Literal, Same}

-- what a combination says, if literals and demands say these things
abbrev pub Says : (ℕ → Bool → Type 0) → (ℕ → Type 0) → Combination → Type 0
Says L P (Constant value) = IsTrue value
Says L P (Literal name negated) = L name negated
Says L P (Same d) = P d
Says L P (Both d e) = P d × P e
Says L P (Either d e) = P d ⊎ P e
Says L P (Cases a b c d) = (P a × P b) ⊎ (P c × P d)

-- the same of truth values
abbrev pub combined : (ℕ → Bool → Bool) → (ℕ → Bool) → Combination → Bool
combined literal demand (Constant value) = value
combined literal demand (Literal name negated) = literal name negated
combined literal demand (Same d) = demand d
combined literal demand (Both d e) = demand d && demand e
combined literal demand (Either d e) = demand d || demand e
combined literal demand (Cases a b c d) = (demand a && demand b) || (demand c && demand d)

-- its demands are below a number, and its propositions among those of a cube
abbrev pub SpeaksBelow : ℕ → Combination → Type 0
SpeaksBelow n (Constant value) = Unit {0}
SpeaksBelow n (Literal name negated) = name < 64
SpeaksBelow n (Same d) = d < n
SpeaksBelow n (Both d e) = (d < n) × (e < n)
SpeaksBelow n (Either d e) = (d < n) × (e < n)
SpeaksBelow n (Cases a b c d) = (a < n) × (b < n) × (c < n) × (d < n)

-- whether a literal is true where this says which propositions hold
abbrev pub literal_value : (ℕ → Bool) → ℕ → Bool → Bool
literal_value held name false = held name
literal_value held name true = not (held name)
