-- Negations move inwards.
use Rattle.std.proofs.Common.{◌≡◌, ◌⊎◌, inl, inr, ℕ, ◌<◌, ◌≤◌}
use Rattle.omega_text.specs.NamedWords.{NamedWord}
use Rattle.omega_text.specs.Omniscience.{LimitedPrincipleOfOmniscience}
use Rattle.omega_ltl_formula.specs.Formula.{FormulaTree}
use Rattle.omega_ltl_formula.specs.Meaning.{Holds}
use Rattle.omega_ltl_formula.specs.Laws.{DualsHold}
use Rattle.omega_ltl_formula.proofs.Decisions.{Decided, Decides, all_between, stable}
use Rattle.omega_ltl_formula.proofs.Deciding.{decides}
use Rattle.omega_ltl_formula.proofs.Temporal.{Fails, Finally, Globally, Release, StrongRelease, Until, WeakUntil}
use Rattle.omega_ltl_formula.proofs.Temporal.{fails_decided, globally_or_fails, release_breaks_until, release_or_until}
use Rattle.omega_ltl_formula.proofs.Temporal.{strong_breaks_weak, until_breaks_release, weak_breaks_strong, weak_or_strong}
use Rattle.omega_ltl_formula.proofs.Temporal.{weak_unbroken}

module _ (omniscience : LimitedPrincipleOfOmniscience) (P Q : ℕ → Type 0) (left : Decides P) (right : Decides Q) where
  not_globally : (i : ℕ) → (Globally P i → ⊥) → Finally (Fails P) i
  not_globally i none = go (globally_or_fails omniscience P left i)
    where
      go : Globally P i ⊎ Finally (Fails P) i → Finally (Fails P) i
      go (inl always) = absurd (none always)
      go (inr found) = found

  not_until : (i : ℕ) → (Until P Q i → ⊥) → Release (Fails P) (Fails Q) i
  not_until i none k after = go (right k) (all_between P left i k)
    where
      go : Decided (Q k) → ((j : ℕ) → i ≤ j → j < k → P j) ⊎ ((j : ℕ) × (i ≤ j) × (j < k) × (P j → ⊥))
          → Fails Q k ⊎ ((j : ℕ) × (i ≤ j) × (j < k) × Fails P j)
      go (inr fails) looked = inl fails
      go (inl holds) (inl all) = absurd (none (k, after, holds, all))
      go (inl holds) (inr gap) = inr gap

  not_release : (i : ℕ) → (Release P Q i → ⊥) → Until (Fails P) (Fails Q) i
  not_release i none = go (release_or_until omniscience P Q left right i)
    where
      go : Release P Q i ⊎ Until (Fails P) (Fails Q) i → Until (Fails P) (Fails Q) i
      go (inl holds) = absurd (none holds)
      go (inr broken) = broken

  not_weak : (i : ℕ) → (WeakUntil P Q i → ⊥) → StrongRelease (Fails P) (Fails Q) i
  not_weak i none = go (weak_or_strong omniscience P Q left right i)
    where
      go : WeakUntil P Q i ⊎ StrongRelease (Fails P) (Fails Q) i → StrongRelease (Fails P) (Fails Q) i
      go (inl holds) = absurd (none holds)
      go (inr broken) = broken

  not_strong : (i : ℕ) → (StrongRelease P Q i → ⊥) → WeakUntil (Fails P) (Fails Q) i
  not_strong i none = weak_unbroken (Fails P) (Fails Q) (fails_decided P left) (fails_decided Q right) i (λ m.
      none (m.0, m.1, stable (left m.0) m.2, λ j from till. stable (right j) (m.3 j from till)))

pub duals : (f g : FormulaTree) → DualsHold f g
duals f g = record {
  next = λ word i. (λ none. none, λ none. none);
  finally = λ word i. (λ none k after holds. none (k, after, holds), λ never found. never found.0 found.1 found.2);
  globally = λ omniscience word i. (
    not_globally omniscience (Holds f word) (Holds f word) (decides omniscience f word) (decides omniscience f word) i,
    λ found always. found.2 (always found.0 found.1),
  );
  until = λ omniscience word i. (
    not_until omniscience (Holds f word) (Holds g word) (decides omniscience f word) (decides omniscience g word) i,
    release_breaks_until (Holds f word) (Holds g word) i,
  );
  release = λ omniscience word i. (
    not_release omniscience (Holds f word) (Holds g word) (decides omniscience f word) (decides omniscience g word) i,
    until_breaks_release (Holds f word) (Holds g word) i,
  );
  weak_until = λ omniscience word i. (
    not_weak omniscience (Holds f word) (Holds g word) (decides omniscience f word) (decides omniscience g word) i,
    strong_breaks_weak (Holds f word) (Holds g word) i,
  );
  strong_release = λ omniscience word i. (
    not_strong omniscience (Holds f word) (Holds g word) (decides omniscience f word) (decides omniscience g word) i,
    weak_breaks_strong (Holds f word) (Holds g word) i,
  );
}
