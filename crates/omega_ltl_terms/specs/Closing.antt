-- Closing demands: their conjunctions are taken apart, and what they say of now in any case stands beside them.
use Rattle.std.specs.Prelude.{◌<◌, ℕ, ◌==◌, ◌||◌, Bool, true, false, if◌then◌else◌, List, [], ◌∷◌, length}
use Rattle.std.specs.Prelude.{◌↔◌, AllPairs, Contains, IsTrue}
use Rattle.omega_ltl_shapes.specs.Demands.{AreTrue, Valuation}
use Rattle.omega_ltl_shapes.specs.Graphs.{IsClosedBy}
use Rattle.omega_ltl_shapes.specs.Shapes.{shape_at}
use Rattle.omega_ltl_shapes.specs.declared.combination.Combination.{Combination}
use Rattle.omega_ltl_shapes.specs.declared.combination.Combination.TheVariants.{Both, Cases, Constant}
use Rattle.omega_ltl_shapes.specs.declared.combination.Combination.TheVariants.{Either, Literal, Same}
use Rattle.omega_ltl_shapes.specs.declared.shape.Shape.{Shape}
use Rattle.omega_ltl_shapes.specs.declared.shape.Shape.TheVariants.{Fix, Next, Now}

-- whether a goal brings a demand: it never comes, or the demand is one of it
abbrev pub brings : Combination → ℕ → Bool
brings (Constant value) d = if value then false else true
brings (Literal name negated) d = false
brings (Same e) d = e == d
brings (Both e f) d = (e == d) || (f == d)
brings (Either e f) d = false
brings (Cases e f g h) d = false

-- the demand to keep, if it holds now whether the goal does or not
abbrev pub kept_part : Combination → Combination → List ℕ
kept_part goal (Constant value) = []
kept_part goal (Literal name negated) = []
kept_part goal (Same d) = if brings goal d then d ∷ [] else []
kept_part goal (Both d e) = []
kept_part goal (Either d e) = []
kept_part goal (Cases a b c d) = []

-- the demands that hold now wherever a combination does, if it is no more than these
abbrev pub combination_parts : Combination → List ℕ
combination_parts (Constant value) = []
combination_parts (Literal name negated) = []
combination_parts (Same d) = d ∷ []
combination_parts (Both d e) = d ∷ e ∷ []
combination_parts (Either d e) = []
combination_parts (Cases a b c d) = []

-- the smaller demands that hold now wherever a demand with a shape does
abbrev pub parts_of : Shape → List ℕ
parts_of (Now c) = combination_parts c
parts_of (Next d) = []
parts_of (Fix goal keep strong) = kept_part goal keep

-- whether a combination is more than its parts
abbrev pub combination_stays : Combination → Bool
combination_stays (Constant value) = false
combination_stays (Literal name negated) = true
combination_stays (Same d) = false
combination_stays (Both d e) = false
combination_stays (Either d e) = true
combination_stays (Cases a b c d) = true

-- whether a demand with a shape stays in a closed set
abbrev pub stays_closed : Shape → Bool
stays_closed (Now c) = combination_stays c
stays_closed (Next d) = true
stays_closed (Fix goal keep strong) = true

-- whether a shape is false
abbrev pub is_false : Shape → Bool
is_false (Now (Constant value)) = if value then false else true
is_false (Now (Literal name negated)) = false
is_false (Now (Same d)) = false
is_false (Now (Both d e)) = false
is_false (Now (Either d e)) = false
is_false (Now (Cases a b c d)) = false
is_false (Next d) = false
is_false (Fix goal keep strong) = false

-- a demand is a part of some demands: one of them, or a part of such a part
pub data IsPart (shapes : List Shape) (demands : List ℕ) : ℕ → Type 0 where
  given_part : (d : ℕ) → Contains demands d → IsPart shapes demands d
  part_of_part : (d e : ℕ) → IsPart shapes demands d → Contains (parts_of (shape_at shapes d)) e
      → IsPart shapes demands e

-- the closed set of some demands: those of their parts that stay, in ascending order
pub record IsClosedSet (shapes : List Shape) (demands closed : List ℕ) : Type 0 where
  pub exact : (d : ℕ) → Contains closed d
      ↔ (IsPart shapes demands d × IsTrue (stays_closed (shape_at shapes d)))
  pub ascending : AllPairs (λ one other. one < other) closed

-- demands close others: they cover what these cover, keep the strong ones, and are true wherever these are
pub record Closes (shapes : List Shape) (demands closed : List ℕ) : Type 0 where
  pub closing : IsClosedBy shapes demands closed
  pub true_then : (v : Valuation shapes) (i : ℕ) → AreTrue v demands i → AreTrue v closed i
  pub below : (d : ℕ) → Contains closed d → d < length shapes

-- demands are not true together anywhere
abbrev pub AreNeverTrue : List Shape → List ℕ → Type 0
AreNeverTrue shapes demands = (v : Valuation shapes) (i : ℕ) → AreTrue v demands i → ⊥
