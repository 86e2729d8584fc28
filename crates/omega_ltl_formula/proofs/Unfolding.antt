-- What each temporal operator says of its index and of the next one.
use Rattle.std.proofs.Common.{◌≡◌, ◌⊎◌, inl, inr, ℕ, ◌+◌, ◌<◌, ◌≤◌, le_refl, subst, arith}
use Rattle.std.proofs.lemmas.Bool.{cases_lt}
use Rattle.omega_text.specs.Omniscience.{LimitedPrincipleOfOmniscience}
use Rattle.omega_ltl_formula.specs.Formula.{FormulaTree}
use Rattle.omega_ltl_formula.specs.Meaning.{Holds}
use Rattle.omega_ltl_formula.specs.Laws.{OperatorsUnfold}
use Rattle.omega_ltl_formula.proofs.Decisions.{Decided}
use Rattle.omega_ltl_formula.proofs.Deciding.{decides}
use Rattle.omega_ltl_formula.proofs.Temporal.{Finally, Globally, Release, StrongRelease, Until, WeakUntil, WeaklyHolds}

-- what holds at an index and from the next one on holds from the index on
first_and_rest : (P : ℕ → Type 0) (i : ℕ) → P i → (k : ℕ) → i ≤ k → (i + 1 ≤ k → P k) → P k
first_and_rest P i here k after rest = go (cases_lt i k)
  where
    go : (i < k) ⊎ (k ≤ i) → P k
    go (inl later) = rest (omega (arith, later))
    go (inr there) = let e : i ≡ k = omega (arith, after, there) in subst P e here

module _ (P Q : ℕ → Type 0) (i : ℕ) where
  finally_parted : Finally P i → P i ⊎ Finally P (i + 1)
  finally_parted found = go (cases_lt i found.0)
    where
      go : (i < found.0) ⊎ (found.0 ≤ i) → P i ⊎ Finally P (i + 1)
      go (inl later) = inr (found.0, omega (arith, later), found.2)
      go (inr there) = let e : found.0 ≡ i = omega (arith, there, found.1) in inl (subst P e found.2)

  finally_joined : P i ⊎ Finally P (i + 1) → Finally P i
  finally_joined (inl here) = (i, le_refl i, here)
  finally_joined (inr found) = (found.0, omega (arith, found.1), found.2)

  globally_parted : Globally P i → P i × Globally P (i + 1)
  globally_parted always = (always i (le_refl i), λ k after. always k (omega (arith, after)))

  globally_joined : P i × Globally P (i + 1) → Globally P i
  globally_joined both k after = first_and_rest P i both.0 k after (both.1 k)

  until_parted : Until P Q i → Q i ⊎ (P i × Until P Q (i + 1))
  until_parted u = go (cases_lt i u.0)
    where
      go : (i < u.0) ⊎ (u.0 ≤ i) → Q i ⊎ (P i × Until P Q (i + 1))
      go (inl later) = inr (
        u.3 i (le_refl i) later,
        (u.0, omega (arith, later), u.2, λ j from till. u.3 j (omega (arith, from)) till),
      )
      go (inr there) = let e : u.0 ≡ i = omega (arith, there, u.1) in inl (subst Q e u.2)

  until_joined : Q i ⊎ (P i × Until P Q (i + 1)) → Until P Q i
  until_joined (inl here) = (i, le_refl i, here, λ j from till. absurd (omega (arith, from, till)))
  until_joined (inr both) = (
    both.1.0,
    omega (arith, both.1.1),
    both.1.2,
    λ j from till. first_and_rest P i both.0 j from (λ later. both.1.3 j later till),
  )

  strong_parted : StrongRelease P Q i → Q i × (P i ⊎ StrongRelease P Q (i + 1))
  strong_parted m = (m.3 i (le_refl i) m.1, go (cases_lt i m.0))
    where
      go : (i < m.0) ⊎ (m.0 ≤ i) → P i ⊎ StrongRelease P Q (i + 1)
      go (inl later) = inr (m.0, omega (arith, later), m.2, λ j from till. m.3 j (omega (arith, from)) till)
      go (inr there) = let e : m.0 ≡ i = omega (arith, there, m.1) in inl (subst P e m.2)

  strong_joined : Q i → P i ⊎ StrongRelease P Q (i + 1) → StrongRelease P Q i
  strong_joined here (inl ends) =
      (i, le_refl i, ends, λ j from till. first_and_rest Q i here j from (λ later. absurd (omega (arith, later, till))))
  strong_joined here (inr m) = (
    m.0,
    omega (arith, m.1),
    m.2,
    λ j from till. first_and_rest Q i here j from (λ later. m.3 j later till),
  )

  release_parted : Decided (P i) → Release P Q i → Q i × (P i ⊎ Release P Q (i + 1))
  release_parted decided r = (now (r i (le_refl i)), later decided)
    where
      now : Q i ⊎ ((j : ℕ) × (i ≤ j) × (j < i) × P j) → Q i
      now (inl holds) = holds
      now (inr found) = absurd (omega (arith, found.1, found.2))

      released : (P i → ⊥) → (k j : ℕ) → i ≤ j → j < k → P j → (i < j) ⊎ (j ≤ i)
          → (n : ℕ) × (i + 1 ≤ n) × (n < k) × P n
      released fails k j from till holds (inl past) = (j, omega (arith, past), till, holds)
      released fails k j from till holds (inr there) =
          let e : j ≡ i = omega (arith, from, there) in absurd (fails (subst P e holds))

      moved : (P i → ⊥) → (k : ℕ) → Q k ⊎ ((j : ℕ) × (i ≤ j) × (j < k) × P j) → Q k ⊎ ((j : ℕ) × (i + 1 ≤ j) × (j < k) × P j)
      moved fails k (inl holds) = inl holds
      moved fails k (inr found) = inr (released fails k found.0 found.1 found.2 found.3 (cases_lt i found.0))

      later : Decided (P i) → P i ⊎ Release P Q (i + 1)
      later (inl holds) = inl holds
      later (inr fails) = inr (λ k after. moved fails k (r k (omega (arith, after))))

  release_joined : Q i → P i ⊎ Release P Q (i + 1) → Release P Q i
  release_joined here either k after = go (cases_lt i k)
    where
      rest : i < k → P i ⊎ Release P Q (i + 1) → Q k ⊎ ((j : ℕ) × (i ≤ j) × (j < k) × P j)
      rest past (inl ends) = inr (i, le_refl i, past, ends)
      rest past (inr r) = widened (r k (omega (arith, past)))
        where
          widened : Q k ⊎ ((j : ℕ) × (i + 1 ≤ j) × (j < k) × P j) → Q k ⊎ ((j : ℕ) × (i ≤ j) × (j < k) × P j)
          widened (inl holds) = inl holds
          widened (inr found) = inr (found.0, omega (arith, found.1), found.2, found.3)

      go : (i < k) ⊎ (k ≤ i) → Q k ⊎ ((j : ℕ) × (i ≤ j) × (j < k) × P j)
      go (inl past) = rest past either
      go (inr there) = let e : i ≡ k = omega (arith, after, there) in inl (subst Q e here)

  weak_parted : Decided (Q i) → WeakUntil P Q i → Q i ⊎ (P i × WeakUntil P Q (i + 1))
  weak_parted (inl holds) w = inl holds
  weak_parted (inr fails) w = inr (now (w i (le_refl i)), λ k after. moved k (w k (omega (arith, after))))
    where
      now : ((j : ℕ) → i ≤ j → j ≤ i → P j)
          ⊎ ((j : ℕ) × (i ≤ j) × (j ≤ i) × Q j × ((m : ℕ) → i ≤ m → m < j → P m)) → P i
      now (inl all) = all i (le_refl i) (le_refl i)
      now (inr found) = let e : found.0 ≡ i = omega (arith, found.1, found.2) in absurd (fails (subst Q e found.3))

      come : (k j : ℕ) → i ≤ j → j ≤ k → Q j → ((m : ℕ) → i ≤ m → m < j → P m) → (i < j) ⊎ (j ≤ i)
          → (n : ℕ) × (i + 1 ≤ n) × (n ≤ k) × Q n × ((m : ℕ) → i + 1 ≤ m → m < n → P m)
      come k j from till holds before (inl past) =
          (j, omega (arith, past), till, holds, λ m after below. before m (omega (arith, after)) below)
      come k j from till holds before (inr there) =
          let e : j ≡ i = omega (arith, from, there) in absurd (fails (subst Q e holds))

      moved : (k : ℕ) → ((j : ℕ) → i ≤ j → j ≤ k → P j)
          ⊎ ((j : ℕ) × (i ≤ j) × (j ≤ k) × Q j × ((m : ℕ) → i ≤ m → m < j → P m))
          → ((j : ℕ) → i + 1 ≤ j → j ≤ k → P j)
          ⊎ ((j : ℕ) × (i + 1 ≤ j) × (j ≤ k) × Q j × ((m : ℕ) → i + 1 ≤ m → m < j → P m))
      moved k (inl all) = inl (λ j from till. all j (omega (arith, from)) till)
      moved k (inr found) = inr (come k found.0 found.1 found.2 found.3 found.4 (cases_lt i found.0))

  weak_joined : Q i ⊎ (P i × WeakUntil P Q (i + 1)) → WeakUntil P Q i
  weak_joined (inl here) k after = inr (i, le_refl i, after, here, λ m from till. absurd (omega (arith, from, till)))
  weak_joined (inr both) k after = go (cases_lt i k)
    where
      widened : ((j : ℕ) → i + 1 ≤ j → j ≤ k → P j)
          ⊎ ((j : ℕ) × (i + 1 ≤ j) × (j ≤ k) × Q j × ((m : ℕ) → i + 1 ≤ m → m < j → P m)) → WeaklyHolds P Q i k
      widened (inl all) = inl (λ j from till. first_and_rest P i both.0 j from (λ later. all j later till))
      widened (inr found) = inr (
        found.0,
        omega (arith, found.1),
        found.2,
        found.3,
        λ m from till. first_and_rest P i both.0 m from (λ later. found.4 m later till),
      )

      go : (i < k) ⊎ (k ≤ i) → WeaklyHolds P Q i k
      go (inl past) = widened (both.1 k (omega (arith, past)))
      go (inr there) =
          inl (λ j from till. first_and_rest P i both.0 j from (λ later. absurd (omega (arith, later, till, there))))

pub unfolding_laws : (f g : FormulaTree) → OperatorsUnfold f g
unfolding_laws f g = record {
  finally = λ word i. (finally_parted (Holds f word) (Holds g word) i, finally_joined (Holds f word) (Holds g word) i);
  globally = λ word i. (globally_parted (Holds f word) (Holds g word) i, globally_joined (Holds f word) (Holds g word) i);
  until = λ word i. (until_parted (Holds f word) (Holds g word) i, until_joined (Holds f word) (Holds g word) i);
  strong_release = λ word i. (
    strong_parted (Holds f word) (Holds g word) i,
    λ both. strong_joined (Holds f word) (Holds g word) i both.0 both.1,
  );
  release = λ omniscience word i. (
    release_parted (Holds f word) (Holds g word) i (decides omniscience f word i),
    λ both. release_joined (Holds f word) (Holds g word) i both.0 both.1,
  );
  weak_until = λ omniscience word i. (
    weak_parted (Holds f word) (Holds g word) i (decides omniscience g word i),
    weak_joined (Holds f word) (Holds g word) i,
  );
}
