-- The temporal operators over decided facts of numbers: each is decided by the limited principle of omniscience.
use Rattle.std.proofs.Common.{◌≡◌, ◌⊎◌, inl, inr, ℕ, suc, ◌+◌, ◌<◌, ◌≤◌, le_refl, subst, arith}
use Rattle.std.proofs.lemmas.Bool.{cases_lt}
use Rattle.omega_text.specs.Omniscience.{LimitedPrincipleOfOmniscience}
use Rattle.omega_ltl_formula.proofs.Decisions.{Decided, Decides, all_between, decided_alike, decided_both, decided_not}
use Rattle.omega_ltl_formula.proofs.Decisions.{first_between, first_from, some_from, stable}

abbrev pub Finally : (ℕ → Type 0) → ℕ → Type 0
Finally P i = (k : ℕ) × (i ≤ k) × P k

abbrev pub Globally : (ℕ → Type 0) → ℕ → Type 0
Globally P i = (k : ℕ) → i ≤ k → P k

abbrev pub Until : (P Q : ℕ → Type 0) → ℕ → Type 0
Until P Q i = (k : ℕ) × (i ≤ k) × Q k × ((j : ℕ) → i ≤ j → j < k → P j)

abbrev pub StrongRelease : (P Q : ℕ → Type 0) → ℕ → Type 0
StrongRelease P Q i = (k : ℕ) × (i ≤ k) × P k × ((j : ℕ) → i ≤ j → j ≤ k → Q j)

abbrev pub Release : (P Q : ℕ → Type 0) → ℕ → Type 0
Release P Q i = (k : ℕ) → i ≤ k → Q k ⊎ ((j : ℕ) × (i ≤ j) × (j < k) × P j)

-- `f W g` as far as one number
abbrev pub WeaklyHolds : (P Q : ℕ → Type 0) (i k : ℕ) → Type 0
WeaklyHolds P Q i k = ((j : ℕ) → i ≤ j → j ≤ k → P j)
    ⊎ ((j : ℕ) × (i ≤ j) × (j ≤ k) × Q j × ((m : ℕ) → i ≤ m → m < j → P m))

abbrev pub WeakUntil : (P Q : ℕ → Type 0) → ℕ → Type 0
WeakUntil P Q i = (k : ℕ) → i ≤ k → WeaklyHolds P Q i k

-- where a fact does not hold
abbrev pub Fails : (ℕ → Type 0) → ℕ → Type 0
Fails P n = P n → ⊥

-- `Fails` of a decided fact is decided
pub fails_decided : (P : ℕ → Type 0) → Decides P → Decides (Fails P)
fails_decided P decide n = decided_not (decide n)

-- `f M g` is `g U (f & g)`
pub strong_until : (P Q : ℕ → Type 0) (i : ℕ) → StrongRelease P Q i → Until Q (λ n. P n × Q n) i
strong_until P Q i m = (m.0, m.1, (m.2, m.3 m.0 m.1 (le_refl m.0)), λ j after below. m.3 j after (omega arith))

pub until_strong : (P Q : ℕ → Type 0) (i : ℕ) → Until Q (λ n. P n × Q n) i → StrongRelease P Q i
until_strong P Q i u = (u.0, u.1, u.2.0, λ j after within. go j after within (cases_lt j u.0))
  where
    go : (j : ℕ) → i ≤ j → j ≤ u.0 → (j < u.0) ⊎ (u.0 ≤ j) → Q j
    go j after within (inl below) = u.3 j after below
    go j after within (inr there) = let e : u.0 ≡ j = omega arith in subst Q e u.2.1

-- what holds up to a place and fails there contradicts what an operator says
pub until_breaks_release : (P Q : ℕ → Type 0) (i : ℕ) → Until (Fails P) (Fails Q) i → Release P Q i → ⊥
until_breaks_release P Q i u r = go (r u.0 u.1)
  where
    go : Q u.0 ⊎ ((j : ℕ) × (i ≤ j) × (j < u.0) × P j) → ⊥
    go (inl holds) = u.2 holds
    go (inr found) = u.3 found.0 found.1 found.2 found.3

pub release_breaks_until : (P Q : ℕ → Type 0) (i : ℕ) → Release (Fails P) (Fails Q) i → Until P Q i → ⊥
release_breaks_until P Q i r u = go (r u.0 u.1)
  where
    go : Fails Q u.0 ⊎ ((j : ℕ) × (i ≤ j) × (j < u.0) × Fails P j) → ⊥
    go (inl fails) = fails u.2
    go (inr found) = found.3 (u.3 found.0 found.1 found.2)

pub strong_breaks_weak : (P Q : ℕ → Type 0) (i : ℕ) → StrongRelease (Fails P) (Fails Q) i → WeakUntil P Q i → ⊥
strong_breaks_weak P Q i m w = go (w m.0 m.1)
  where
    go : ((j : ℕ) → i ≤ j → j ≤ m.0 → P j)
        ⊎ ((j : ℕ) × (i ≤ j) × (j ≤ m.0) × Q j × ((n : ℕ) → i ≤ n → n < j → P n)) → ⊥
    go (inl all) = m.2 (all m.0 m.1 (le_refl m.0))
    go (inr found) = m.3 found.0 found.1 found.2 found.3

pub weak_breaks_strong : (P Q : ℕ → Type 0) (i : ℕ) → WeakUntil (Fails P) (Fails Q) i → StrongRelease P Q i → ⊥
weak_breaks_strong P Q i w m = go (w m.0 m.1)
  where
    go : ((j : ℕ) → i ≤ j → j ≤ m.0 → Fails P j)
        ⊎ ((j : ℕ) × (i ≤ j) × (j ≤ m.0) × Fails Q j × ((n : ℕ) → i ≤ n → n < j → Fails P n)) → ⊥
    go (inl none) = none m.0 m.1 (le_refl m.0) m.2
    go (inr found) = found.3 (m.3 found.0 found.1 found.2)

module _ (P Q : ℕ → Type 0) (left : Decides P) (right : Decides Q) where
  -- what is never broken holds
  pub release_unbroken : (i : ℕ) → (Until (Fails P) (Fails Q) i → ⊥) → Release P Q i
  release_unbroken i none k after = go (right k) (first_between P left i k)
    where
      go : Decided (Q k) → ((j : ℕ) × (i ≤ j) × (j < k) × P j × ((n : ℕ) → i ≤ n → n < j → P n → ⊥))
          ⊎ ((j : ℕ) → i ≤ j → j < k → P j → ⊥) → Q k ⊎ ((j : ℕ) × (i ≤ j) × (j < k) × P j)
      go (inl holds) looked = inl holds
      go (inr fails) (inl found) = inr (found.0, found.1, found.2, found.3)
      go (inr fails) (inr never) = absurd (none (k, after, fails, never))

  pub weak_unbroken : (i : ℕ) → (StrongRelease (Fails P) (Fails Q) i → ⊥) → WeakUntil P Q i
  weak_unbroken i none k after = go (first_between (Fails P) (fails_decided P left) i (suc k))
    where
      up_to : (n : ℕ) → i ≤ n → n < suc k → Fails P n → ((j : ℕ) → i ≤ j → j < n → Fails P j → ⊥)
          → ((j : ℕ) × (i ≤ j) × (j < suc n) × Q j × ((m : ℕ) → i ≤ m → m < j → Q m → ⊥))
          ⊎ ((j : ℕ) → i ≤ j → j < suc n → Q j → ⊥) → WeaklyHolds P Q i k
      up_to n past below fails before (inl found) = inr (
        found.0,
        found.1,
        omega (arith, found.2, below),
        found.3,
        λ m from till. stable (left m) (before m from (omega (arith, found.2, till))),
      )
      up_to n past below fails before (inr never) =
          absurd (none (n, past, fails, λ j from till. never j from (omega (arith, till))))

      go : ((n : ℕ) × (i ≤ n) × (n < suc k) × Fails P n × ((j : ℕ) → i ≤ j → j < n → Fails P j → ⊥))
          ⊎ ((j : ℕ) → i ≤ j → j < suc k → Fails P j → ⊥) → WeaklyHolds P Q i k
      go (inl gap) = up_to gap.0 gap.1 gap.2 gap.3 gap.4 (first_between Q right i (suc gap.0))
      go (inr never) = inl (λ j from till. stable (left j) (never j from (omega (arith, till))))

module _ (omniscience : LimitedPrincipleOfOmniscience) (P : ℕ → Type 0) (decide : Decides P) where
  pub decided_finally : Decides (Finally P)
  decided_finally i = go (some_from P decide omniscience i)
    where
      go : ((k : ℕ) × (i ≤ k) × P k) ⊎ ((k : ℕ) → i ≤ k → P k → ⊥) → Decided (Finally P i)
      go (inl found) = inl found
      go (inr none) = inr (λ found. none found.0 found.1 found.2)

  -- it holds at each number from one on, or fails at some
  pub globally_or_fails : (i : ℕ) → Globally P i ⊎ Finally (Fails P) i
  globally_or_fails i = go (some_from (Fails P) (fails_decided P decide) omniscience i)
    where
      go : ((k : ℕ) × (i ≤ k) × Fails P k) ⊎ ((k : ℕ) → i ≤ k → Fails P k → ⊥) → Globally P i ⊎ Finally (Fails P) i
      go (inl found) = inr found
      go (inr none) = inl (λ k after. stable (decide k) (none k after))

  pub decided_globally : Decides (Globally P)
  decided_globally i = go (globally_or_fails i)
    where
      go : Globally P i ⊎ Finally (Fails P) i → Decided (Globally P i)
      go (inl always) = inl always
      go (inr found) = inr (λ always. found.2 (always found.0 found.1))

module _ (omniscience : LimitedPrincipleOfOmniscience) (P Q : ℕ → Type 0) (left : Decides P) (right : Decides Q) where
  pub decided_until : Decides (Until P Q)
  decided_until i = go (first_from Q right omniscience i)
    where
      stops : (k : ℕ) → ((j : ℕ) → i ≤ j → j < k → Q j → ⊥) → (gap : ℕ) → i ≤ gap → gap < k → Fails P gap → Until P Q i → ⊥
      stops k before gap past below fails u = judge (cases_lt u.0 k)
        where
          judge : (u.0 < k) ⊎ (k ≤ u.0) → ⊥
          judge (inl earlier) = before u.0 u.1 earlier u.2
          judge (inr later) = fails (u.3 gap past (omega (arith, below, later)))

      from_first : (k : ℕ) → i ≤ k → Q k → ((j : ℕ) → i ≤ j → j < k → Q j → ⊥)
          → ((j : ℕ) → i ≤ j → j < k → P j) ⊎ ((j : ℕ) × (i ≤ j) × (j < k) × (P j → ⊥)) → Decided (Until P Q i)
      from_first k after holds before (inl all) = inl (k, after, holds, all)
      from_first k after holds before (inr gap) = inr (stops k before gap.0 gap.1 gap.2 gap.3)

      go : ((k : ℕ) × (i ≤ k) × Q k × ((j : ℕ) → i ≤ j → j < k → Q j → ⊥)) ⊎ ((k : ℕ) → i ≤ k → Q k → ⊥) → Decided (Until P Q i)
      go (inl found) = from_first found.0 found.1 found.2 found.3 (all_between P left i found.0)
      go (inr none) = inr (λ u. none u.0 u.1 u.2)

module _ (omniscience : LimitedPrincipleOfOmniscience) (P Q : ℕ → Type 0) (left : Decides P) (right : Decides Q) where
  pub decided_strong : Decides (StrongRelease P Q)
  decided_strong i = decided_alike (until_strong P Q i) (strong_until P Q i)
      (decided_until omniscience Q (λ n. P n × Q n) right (λ n. decided_both (left n) (right n)) i)

module _ (omniscience : LimitedPrincipleOfOmniscience) (P Q : ℕ → Type 0) (left : Decides P) (right : Decides Q) where
  -- an operator, or what breaks it
  pub release_or_until : (i : ℕ) → Release P Q i ⊎ Until (Fails P) (Fails Q) i
  release_or_until i = go (decided_until omniscience (Fails P) (Fails Q) (fails_decided P left) (fails_decided Q right) i)
    where
      go : Decided (Until (Fails P) (Fails Q) i) → Release P Q i ⊎ Until (Fails P) (Fails Q) i
      go (inl broken) = inr broken
      go (inr none) = inl (release_unbroken P Q left right i none)

  pub weak_or_strong : (i : ℕ) → WeakUntil P Q i ⊎ StrongRelease (Fails P) (Fails Q) i
  weak_or_strong i = go (decided_strong omniscience (Fails P) (Fails Q) (fails_decided P left) (fails_decided Q right) i)
    where
      go : Decided (StrongRelease (Fails P) (Fails Q) i) → WeakUntil P Q i ⊎ StrongRelease (Fails P) (Fails Q) i
      go (inl broken) = inr broken
      go (inr none) = inl (weak_unbroken P Q left right i none)

  pub decided_release : Decides (Release P Q)
  decided_release i = go (release_or_until i)
    where
      go : Release P Q i ⊎ Until (Fails P) (Fails Q) i → Decided (Release P Q i)
      go (inl holds) = inl holds
      go (inr broken) = inr (until_breaks_release P Q i broken)

  pub decided_weak : Decides (WeakUntil P Q)
  decided_weak i = go (weak_or_strong i)
    where
      go : WeakUntil P Q i ⊎ StrongRelease (Fails P) (Fails Q) i → Decided (WeakUntil P Q i)
      go (inl holds) = inl holds
      go (inr broken) = inr (strong_breaks_weak P Q i broken)
