-- Each formula is decided at each index, by the limited principle of omniscience.
use Rattle.std.proofs.Common.{◌≡◌, ℕ, ◌+◌, ◌↔◌, Bool, IsTrue}
use Rattle.omega_text.specs.NamedWords.{NamedWord}
use Rattle.omega_text.specs.Omniscience.{LimitedPrincipleOfOmniscience}
use Rattle.omega_ltl_formula.specs.Formula.{FormulaTree, binary, constant, name, unary}
use Rattle.omega_ltl_formula.specs.Meaning.{Holds}
use Rattle.omega_ltl_formula.specs.declared.operators.BinaryOperator.TheVariants.{And, Iff, Implies, Or, Release, StrongRelease, Until, WeakUntil, Xor}
use Rattle.omega_ltl_formula.specs.declared.operators.UnaryOperator.TheVariants.{Finally, Globally, Next, Not}
use Rattle.omega_ltl_formula.proofs.Decisions.{Decides, decided_both, decided_either, decided_implied, decided_not, decided_test, verdict, verdict_says}
use Rattle.omega_ltl_formula.proofs.Temporal.{decided_finally, decided_globally, decided_release, decided_strong, decided_until, decided_weak}

module _ (omniscience : LimitedPrincipleOfOmniscience) where
  pub decides : (f : FormulaTree) (word : NamedWord) → Decides (Holds f word)
  decides (constant value) word i = decided_test value
  decides (name bytes) word i = decided_test (word i bytes)
  decides (unary Not f) word i = decided_not (decides f word i)
  decides (unary Next f) word i = decides f word (i + 1)
  decides (unary Finally f) word i = decided_finally omniscience (Holds f word) (decides f word) i
  decides (unary Globally f) word i = decided_globally omniscience (Holds f word) (decides f word) i
  decides (binary And f g) word i = decided_both (decides f word i) (decides g word i)
  decides (binary Or f g) word i = decided_either (decides f word i) (decides g word i)
  decides (binary Xor f g) word i =
      decided_either (decided_both (decides f word i) (decided_not (decides g word i)))
      (decided_both (decided_not (decides f word i)) (decides g word i))
  decides (binary Implies f g) word i = decided_implied (decides f word i) (decides g word i)
  decides (binary Iff f g) word i =
      decided_both (decided_implied (decides f word i) (decides g word i)) (decided_implied (decides g word i) (decides f word i))
  decides (binary Until f g) word i = decided_until omniscience (Holds f word) (Holds g word) (decides f word) (decides g word) i
  decides (binary StrongRelease f g) word i = decided_strong omniscience (Holds f word) (Holds g word) (decides f word) (decides g word) i
  decides (binary Release f g) word i = decided_release omniscience (Holds f word) (Holds g word) (decides f word) (decides g word) i
  decides (binary WeakUntil f g) word i = decided_weak omniscience (Holds f word) (Holds g word) (decides f word) (decides g word) i

  pub truth : (f : FormulaTree) (word : NamedWord) → (test : ℕ → Bool) × ((i : ℕ) → Holds f word i ↔ IsTrue (test i))
  truth f word = (λ i. verdict (decides f word i), λ i. verdict_says (decides f word i))
