-- What a term covers: what its literals say of now, and its demands of the next index.
use Rattle.std.specs.Prelude.{◌⊎◌, ℕ, suc, zero, ◌==◌, Bool, true, false, IsTrue, List, Contains}
use Rattle.std.specs.Int.{bit_at}
use Rattle.omega_ltl_shapes.specs.Combinations.{Says}
use Rattle.omega_ltl_shapes.specs.Shapes.{shape_at}
use Rattle.omega_ltl_shapes.specs.declared.combination.Combination.{Combination}
use Rattle.omega_ltl_shapes.specs.declared.cube.Cube.{Cube}
use Rattle.omega_ltl_shapes.specs.declared.shape.Shape.{Shape}
use Rattle.omega_ltl_shapes.specs.declared.shape.Shape.TheVariants.{Fix, Next, Now}

-- whether a bit of a word is set
abbrev pub is_set : ℕ → ℕ → Bool
is_set word place = bit_at word place == 1

-- whether a cube has a literal
abbrev pub has_literal : Cube → ℕ → Bool → Bool
has_literal cube name false = is_set cube.positive name
has_literal cube name true = is_set cube.negative name

-- a cube has a literal
abbrev pub HasLiteral : Cube → ℕ → Bool → Type 0
HasLiteral cube name negated = IsTrue (has_literal cube name negated)

-- one step of covering a demand with a shape: a combination by what is covered, or by a demand on the next index
abbrev pub Step : Cube → List ℕ → (ℕ → Type 0) → ℕ → Shape → Type 0
Step cube next P d (Now c) = Says (HasLiteral cube) P c
Step cube next P d (Next e) = Contains next e
Step cube next P d (Fix goal keep strong) =
    Says (HasLiteral cube) P goal ⊎ (Says (HasLiteral cube) P keep × Contains next d)

-- a demand is covered in at most so many steps
abbrev pub CoversWithin : List Shape → Cube → List ℕ → ℕ → ℕ → Type 0
CoversWithin shapes cube next zero d = ⊥
CoversWithin shapes cube next (suc n) d =
    Step cube next (CoversWithin shapes cube next n) d (shape_at shapes d)

-- a cube and demands on the next index cover a demand. Since shapes speak of smaller demands, so many steps are enough
abbrev pub Covers : List Shape → Cube → List ℕ → ℕ → Type 0
Covers shapes cube next d = CoversWithin shapes cube next (suc d) d

-- they cover each demand of a list
abbrev pub CoversAll : List Shape → Cube → List ℕ → List ℕ → Type 0
CoversAll shapes cube next demands = (d : ℕ) → Contains demands d → Covers shapes cube next d

-- they cover what a combination says
abbrev pub CoversCombination : List Shape → Cube → List ℕ → Combination → Type 0
CoversCombination shapes cube next c = Says (HasLiteral cube) (Covers shapes cube next) c
