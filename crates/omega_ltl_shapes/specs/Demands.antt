-- When demands are met, what their shapes show, and how they unfold.
use Rattle.std.specs.Prelude.{◌⊎◌, ◌<◌, ◌≤◌, ◌+◌, ◌/◌, ℕ, Bool, true, false, IsTrue, List, Contains}
use Rattle.omega_text.specs.NamedWords.{NamedWord}
use Rattle.omega_ltl_formula.specs.Meaning.{Holds}
use Rattle.omega_ltl_formula.specs.Table.{FormulaTable, name_at, tree_at}
use Rattle.omega_ltl_shapes.specs.Combinations.{Says, literal_value}
use Rattle.omega_ltl_shapes.specs.Shapes.{is_negated, shape_at, shape_of}
use Rattle.omega_ltl_shapes.specs.declared.combination.Combination.{Combination}
use Rattle.omega_ltl_shapes.specs.declared.shape.Shape.{Shape}
use Rattle.omega_ltl_shapes.specs.declared.shape.Shape.TheVariants.{Fix, Next, Now}

-- a fact, or, if `negated`, that it does not hold
abbrev pub Signed : Bool → Type 0 → Type 0
Signed false P = P
Signed true P = P → ⊥

-- a demand is met at an index of a word
abbrev pub IsMet : FormulaTable → NamedWord → ℕ → ℕ → Type 0
IsMet table word d i = Signed (is_negated d) (Holds (tree_at table (d / 2)) word i)

-- the propositions that hold at each index of a word, by the numbers of their names
abbrev pub seen_of : List (List ℕ) → NamedWord → ℕ → ℕ → Bool
seen_of names word i name = word i (name_at names name)

-- a literal is true
abbrev pub IsLiteralTrue : (ℕ → Bool) → ℕ → Bool → Type 0
IsLiteralTrue held name negated = IsTrue (literal_value held name negated)

-- a combination says at an index what it says, where demands mean this at indices of these propositions
abbrev pub SaysAt : (ℕ → ℕ → Bool) → (ℕ → ℕ → Type 0) → ℕ → Combination → Type 0
SaysAt held P i c = Says (IsLiteralTrue (held i)) (λ d. P d i) c

-- the goal comes, and `keep` holds before
abbrev pub Comes : (goal keep : ℕ → Type 0) → ℕ → Type 0
Comes goal keep i = (k : ℕ) × (i ≤ k) × goal k × ((j : ℕ) → i ≤ j → j < k → keep j)

-- `keep` holds as long as the goal has not come
abbrev pub Stays : (goal keep : ℕ → Type 0) → ℕ → Type 0
Stays goal keep i = (k : ℕ) → i ≤ k → ((j : ℕ) → i ≤ j → j ≤ k → keep j)
    ⊎ ((j : ℕ) × (i ≤ j) × (j ≤ k) × goal j × ((m : ℕ) → i ≤ m → m < j → keep m))

-- what a shape says at an index, where smaller demands mean this
abbrev pub Shows : (ℕ → ℕ → Bool) → (ℕ → ℕ → Type 0) → ℕ → Shape → Type 0
Shows held P i (Now c) = SaysAt held P i c
Shows held P i (Next d) = P d (i + 1)
Shows held P i (Fix goal keep true) =
    Comes (λ k. SaysAt held P k goal) (λ k. SaysAt held P k keep) i
Shows held P i (Fix goal keep false) =
    Stays (λ k. SaysAt held P k goal) (λ k. SaysAt held P k keep) i

-- a demand of a formula is met if what its shape says is shown by met demands
abbrev pub ShowingMeets : FormulaTable → NamedWord → ℕ → ℕ → Type 0
ShowingMeets table word d i =
    Shows (seen_of table.names word) (IsMet table word) i (shape_of table.nodes d) → IsMet table word d i

-- how a demand with a shape unfolds: what holds now, and what holds next; and the goal of a strong one comes
abbrev pub Unfolds : (ℕ → ℕ → Bool) → (ℕ → ℕ → Type 0) → ℕ → ℕ → Shape → Type 0
Unfolds held P d i (Now c) = SaysAt held P i c
Unfolds held P d i (Next e) = P e (i + 1)
Unfolds held P d i (Fix goal keep strong) =
    (SaysAt held P i goal ⊎ (SaysAt held P i keep × P d (i + 1)))
    × (IsTrue strong → (k : ℕ) × (i ≤ k) × SaysAt held P k goal)

-- truth values of demands at indices
abbrev pub Truth : Type 0
Truth = ℕ → ℕ → Bool

-- a demand is true at an index
abbrev pub IsTrueAt : Truth → ℕ → ℕ → Type 0
IsTrueAt truth d i = IsTrue (truth d i)

-- truth values of the demands of a table of shapes, with the propositions that hold: what is true unfolds
pub record Valuation (shapes : List Shape) : Type 0 where
  pub held : ℕ → ℕ → Bool
  pub truth : Truth
  pub unfolds : (d i : ℕ) → IsTrue (truth d i) → Unfolds held (IsTrueAt truth) d i (shape_at shapes d)

-- the demands of a list are true at an index
abbrev pub AreTrue : {shapes : List Shape} → Valuation shapes → List ℕ → ℕ → Type 0
AreTrue v demands i = (d : ℕ) → Contains demands d → IsTrue (v.truth d i)
