-- What formulas mean (Pnueli 1977; `W`, `R` and `M` as in Spot's tl.pdf).
use Rattle.std.specs.Prelude.{◌≡◌, ◌<◌, ◌≤◌, ◌+◌, ℕ, ◌⊎◌, IsTrue, List}
use Rattle.omega_text.specs.NamedWords.{NamedWord}
use Rattle.omega_ltl_formula.specs.Formula.{FormulaTree, binary, constant, name, unary}
use Rattle.omega_ltl_formula.specs.declared.operators.BinaryOperator.TheVariants.{And, Iff, Implies, Or, Release}
use Rattle.omega_ltl_formula.specs.declared.operators.BinaryOperator.TheVariants.{StrongRelease, Until, WeakUntil, Xor}
use Rattle.omega_ltl_formula.specs.declared.operators.UnaryOperator.TheVariants.{Finally, Globally, Next, Not}

-- a formula holds at an index of a word
abbrev pub Holds : FormulaTree → NamedWord → ℕ → Type 0
Holds (constant value) word i = IsTrue value
Holds (name bytes) word i = IsTrue (word i bytes)
Holds (unary Not f) word i = Holds f word i → ⊥
Holds (unary Next f) word i = Holds f word (i + 1)
Holds (unary Finally f) word i = (k : ℕ) × (i ≤ k) × Holds f word k
Holds (unary Globally f) word i = (k : ℕ) → i ≤ k → Holds f word k
Holds (binary And f g) word i = Holds f word i × Holds g word i
Holds (binary Or f g) word i = Holds f word i ⊎ Holds g word i
Holds (binary Xor f g) word i =
    (Holds f word i × (Holds g word i → ⊥)) ⊎ ((Holds f word i → ⊥) × Holds g word i)
Holds (binary Implies f g) word i = Holds f word i → Holds g word i
Holds (binary Iff f g) word i = (Holds f word i → Holds g word i) × (Holds g word i → Holds f word i)
Holds (binary Until f g) word i =
    (k : ℕ) × (i ≤ k) × Holds g word k × ((j : ℕ) → i ≤ j → j < k → Holds f word j)
Holds (binary StrongRelease f g) word i =
    (k : ℕ) × (i ≤ k) × Holds f word k × ((j : ℕ) → i ≤ j → j ≤ k → Holds g word j)
Holds (binary Release f g) word i = (k : ℕ) → i ≤ k
    → Holds g word k ⊎ ((j : ℕ) × (i ≤ j) × (j < k) × Holds f word j)
Holds (binary WeakUntil f g) word i = (k : ℕ) → i ≤ k
    → ((j : ℕ) → i ≤ j → j ≤ k → Holds f word j)
    ⊎ ((j : ℕ) × (i ≤ j) × (j ≤ k) × Holds g word j × ((m : ℕ) → i ≤ m → m < j → Holds f word m))

-- a word satisfies a formula: it holds at the first index
abbrev pub Satisfies : FormulaTree → NamedWord → Type 0
Satisfies f word = Holds f word 0
