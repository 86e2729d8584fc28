-- Operators by others, as facts of numbers.
use Rattle.std.proofs.Common.{◌≡◌, ◌⊎◌, inl, inr, ℕ, ◌<◌, ◌≤◌, ◌↔◌, le_refl, true, false, refl, arith}
use Rattle.std.proofs.lemmas.Bool.{cases_lt}
use Rattle.omega_text.specs.Omniscience.{LimitedPrincipleOfOmniscience}
use Rattle.omega_ltl_formula.specs.Formula.{FormulaTree}
use Rattle.omega_ltl_formula.specs.Meaning.{Holds}
use Rattle.omega_ltl_formula.specs.Laws.{OperatorsByOthers}
use Rattle.omega_ltl_formula.proofs.Decisions.{Decided, Decides, stable}
use Rattle.omega_ltl_formula.proofs.Deciding.{decides}
use Rattle.omega_ltl_formula.proofs.Temporal.{Fails, Globally, Release, Until, WeakUntil, decided_until, release_unbroken}
use Rattle.omega_ltl_formula.proofs.Temporal.{strong_until, until_breaks_release, until_strong}

-- `0 R f` says `f` at each index
release_of_false : (P : ℕ → Type 0) (i : ℕ) → Release (λ n. false ≡ true) P i → Globally P i
release_of_false P i r k after = go (r k after)
  where
    go : P k ⊎ ((j : ℕ) × (i ≤ j) × (j < k) × (false ≡ true)) → P k
    go (inl holds) = holds
    go (inr found) = absurd (let e = found.3 in cc)

module _ (omniscience : LimitedPrincipleOfOmniscience) (P Q : ℕ → Type 0) (left : Decides P) (right : Decides Q) where
  until_or_globally : (i : ℕ) → WeakUntil P Q i → Until P Q i ⊎ Globally P i
  until_or_globally i w = go (decided_until omniscience P Q left right i)
    where
      stays : (Until P Q i → ⊥) → (k : ℕ) → ((j : ℕ) → i ≤ j → j ≤ k → P j)
          ⊎ ((j : ℕ) × (i ≤ j) × (j ≤ k) × Q j × ((m : ℕ) → i ≤ m → m < j → P m)) → i ≤ k → P k
      stays none k (inl all) after = all k after (le_refl k)
      stays none k (inr found) after = absurd (none (found.0, found.1, found.3, found.4))

      go : Decided (Until P Q i) → Until P Q i ⊎ Globally P i
      go (inl comes) = inl comes
      go (inr none) = inr (λ k after. stays none k (w k after) after)

weak_of_until : (P Q : ℕ → Type 0) (i : ℕ) → Until P Q i → WeakUntil P Q i
weak_of_until P Q i u k after = go (cases_lt k u.0)
  where
    go : (k < u.0) ⊎ (u.0 ≤ k) → ((j : ℕ) → i ≤ j → j ≤ k → P j)
        ⊎ ((j : ℕ) × (i ≤ j) × (j ≤ k) × Q j × ((m : ℕ) → i ≤ m → m < j → P m))
    go (inl before) = inl (λ j from till. u.3 j from (omega (arith, before, till)))
    go (inr past) = inr (u.0, u.1, past, u.2, u.3)

weak_of_either : (P Q : ℕ → Type 0) (i : ℕ) → Until P Q i ⊎ Globally P i → WeakUntil P Q i
weak_of_either P Q i (inl comes) = weak_of_until P Q i comes
weak_of_either P Q i (inr stays) = λ k after. inl (λ j from till. stays j from)

pub by_others : (f g : FormulaTree) → OperatorsByOthers f g
by_others f g = record {
  finally_is_until = λ word i. (λ found. (found.0, found.1, found.2, λ j from till. refl), λ u. (u.0, u.1, u.2));
  globally_is_release = λ word i. (λ always k after. inl (always k after), release_of_false (Holds f word) i);
  globally_is_not_finally_not = λ omniscience word i. (
    λ always found. found.2 (always found.0 found.1),
    λ none k after. stable (decides omniscience f word k) (λ fails. none (k, after, fails)),
  );
  release_is_not_until_not = λ omniscience word i. (
    λ releases broken. until_breaks_release (Holds f word) (Holds g word) i broken releases,
    release_unbroken (Holds f word) (Holds g word) (decides omniscience f word) (decides omniscience g word) i,
  );
  weak_until_is_until_or_globally = λ omniscience word i. (
    until_or_globally omniscience (Holds f word) (Holds g word) (decides omniscience f word) (decides omniscience g word) i,
    weak_of_either (Holds f word) (Holds g word) i,
  );
  strong_release_is_until =
      λ word i. (strong_until (Holds f word) (Holds g word) i, until_strong (Holds f word) (Holds g word) i);
}
