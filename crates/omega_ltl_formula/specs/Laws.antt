-- Laws of the meaning of formulas. Those that say which of two things holds need a premise.
use Rattle.std.specs.Prelude.{◌↔◌, ℕ, Bool, false, true, IsTrue}
use Rattle.omega_text.specs.NamedWords.{NamedWord}
use Rattle.omega_text.specs.Omniscience.{LimitedPrincipleOfOmniscience}
use Rattle.omega_ltl_formula.specs.Formula.{FormulaTree, binary, constant, unary}
use Rattle.omega_ltl_formula.specs.Meaning.{Holds}
use Rattle.omega_ltl_formula.specs.declared.operators.BinaryOperator.TheVariants.{And, Or, Release}
use Rattle.omega_ltl_formula.specs.declared.operators.BinaryOperator.TheVariants.{StrongRelease, Until, WeakUntil}
use Rattle.omega_ltl_formula.specs.declared.operators.UnaryOperator.TheVariants.{Finally, Globally, Next, Not}

-- two formulas hold at the same indices of each word
abbrev pub HoldAlike : (f g : FormulaTree) → Type 0
HoldAlike f g = (word : NamedWord) (i : ℕ) → Holds f word i ↔ Holds g word i

-- each formula has a truth value at each index of a word
abbrev pub FormulasAreDecided : Type 0
FormulasAreDecided = LimitedPrincipleOfOmniscience → (f : FormulaTree) (word : NamedWord)
    → (truth : ℕ → Bool) × ((i : ℕ) → Holds f word i ↔ IsTrue (truth i))

-- operators by others
pub record OperatorsByOthers (f g : FormulaTree) : Type 0 where
  pub finally_is_until : HoldAlike (unary Finally f) (binary Until (constant true) f)
  pub globally_is_release : HoldAlike (unary Globally f) (binary Release (constant false) f)
  pub globally_is_not_finally_not : LimitedPrincipleOfOmniscience
      → HoldAlike (unary Globally f) (unary Not (unary Finally (unary Not f)))
  pub release_is_not_until_not : LimitedPrincipleOfOmniscience
      → HoldAlike (binary Release f g) (unary Not (binary Until (unary Not f) (unary Not g)))
  pub weak_until_is_until_or_globally : LimitedPrincipleOfOmniscience
      → HoldAlike (binary WeakUntil f g) (binary Or (binary Until f g) (unary Globally f))
  pub strong_release_is_until : HoldAlike (binary StrongRelease f g) (binary Until g (binary And f g))

-- negations move inwards, and each operator becomes its dual
pub record DualsHold (f g : FormulaTree) : Type 0 where
  pub next : HoldAlike (unary Not (unary Next f)) (unary Next (unary Not f))
  pub finally : HoldAlike (unary Not (unary Finally f)) (unary Globally (unary Not f))
  pub globally : LimitedPrincipleOfOmniscience
      → HoldAlike (unary Not (unary Globally f)) (unary Finally (unary Not f))
  pub until : LimitedPrincipleOfOmniscience
      → HoldAlike (unary Not (binary Until f g)) (binary Release (unary Not f) (unary Not g))
  pub release : LimitedPrincipleOfOmniscience
      → HoldAlike (unary Not (binary Release f g)) (binary Until (unary Not f) (unary Not g))
  pub weak_until : LimitedPrincipleOfOmniscience
      → HoldAlike (unary Not (binary WeakUntil f g)) (binary StrongRelease (unary Not f) (unary Not g))
  pub strong_release : LimitedPrincipleOfOmniscience
      → HoldAlike (unary Not (binary StrongRelease f g)) (binary WeakUntil (unary Not f) (unary Not g))

-- what an operator says now, and what it says of the next index
pub record OperatorsUnfold (f g : FormulaTree) : Type 0 where
  pub finally : HoldAlike (unary Finally f) (binary Or f (unary Next (unary Finally f)))
  pub globally : HoldAlike (unary Globally f) (binary And f (unary Next (unary Globally f)))
  pub until : HoldAlike (binary Until f g)
      (binary Or g (binary And f (unary Next (binary Until f g))))
  pub strong_release : HoldAlike (binary StrongRelease f g)
      (binary And g (binary Or f (unary Next (binary StrongRelease f g))))
  pub release : LimitedPrincipleOfOmniscience → HoldAlike (binary Release f g)
      (binary And g (binary Or f (unary Next (binary Release f g))))
  pub weak_until : LimitedPrincipleOfOmniscience → HoldAlike (binary WeakUntil f g)
      (binary Or g (binary And f (unary Next (binary WeakUntil f g))))
