-- With the limited principle of omniscience each play has a limit.
use Rattle.std.proofs.Common.{◌≡◌, ◌≢◌, ◌==◌, ℕ, zero, suc, ◌-◌, ◌<◌, ◌≤◌, ◌⊎◌, inl, inr, true, false, List, length, max, Option, sym, ◌∙◌, arith, eq-eqb, eqb-true}
use Rattle.std.proofs.lemmas.Bool.{cases_lt, false≢true}
use Rattle.omega_game_values.specs.declared.player.Player.{Player}
use Rattle.omega_game_values.specs.Game.{Node, priority_at}
use Rattle.omega_game_region_laws.specs.Plays.{IsPlay, IsLimit}
use Rattle.omega_text.specs.Omniscience.{LimitedPrincipleOfOmniscience}
use Rattle.omega_text.proofs.Omniscience.{RecursOrCeases, recurs_or_ceases}
use Rattle.omega_game_region_laws.proofs.Stretches.{inside}

-- the number comes at or after every index, or from some index on it does not come
abbrev Settled : (ℕ → ℕ) → ℕ → Type 0
Settled f p = ((i : ℕ) → (j : ℕ) × (i ≤ j) × (f j ≡ p)) ⊎ ((i : ℕ) × ((j : ℕ) → i ≤ j → f j ≢ p))

-- a greatest number among those that recur, from some index on the greatest of all
record Greatest (f : ℕ → ℕ) : Type 0 where
  number : ℕ
  recurring : (i : ℕ) → (j : ℕ) × (i ≤ j) × (f j ≡ number)
  from : ℕ
  none_greater : (i : ℕ) → from ≤ i → f i ≤ number

module _ (middle : LimitedPrincipleOfOmniscience) (f : ℕ → ℕ) where
  settled : (p : ℕ) → Settled f p
  settled p = go (recurs_or_ceases middle (λ j. f j == p))
    where
      go : RecursOrCeases (λ j. f j == p) → Settled f p
      go (inl recurs) = inl (λ i. let at = recurs i in (at.0, at.1, eqb-true _ _ at.2))
      go (inr ends) = inr (ends.0, λ j following is. false≢true (sym (ends.1 j following) ∙ eq-eqb _ _ is))

  -- what is bounded from some index on has a greatest number that recurs
  below_bound : (b from : ℕ) → ((j : ℕ) → from ≤ j → f j ≤ b) → Greatest f
  below_bound zero from most = record {
    number = 0;
    recurring = λ i. (max i from, omega arith, omega (arith, most (max i from) (omega arith)));
    from = from;
    none_greater = most;
  }
  below_bound (suc b) from most = go (below_bound b) (settled (suc b))
    where
      go : ((from : ℕ) → ((j : ℕ) → from ≤ j → f j ≤ b) → Greatest f) → Settled f (suc b) → Greatest f
      go lower (inl recurs) = record { number = suc b; recurring = recurs; from = from; none_greater = most }
      go lower (inr end) = lower (max from end.0) (λ j following. omega (arith, most j (omega arith), end.1 j (omega arith)))

-- a bound of the first numbers
bound : (f : ℕ → ℕ) (n : ℕ) → (b : ℕ) × ((v : ℕ) → v < n → f v ≤ b)
bound f zero = (0, λ v below. absurd (omega arith))
bound f (suc n) = go (bound f n)
  where
    go : (b : ℕ) × ((v : ℕ) → v < n → f v ≤ b) → (b : ℕ) × ((v : ℕ) → v < suc n → f v ≤ b)
    go rest = (max (f n) rest.0, λ v below. at v below (cases_lt v n))
      where
        at : (v : ℕ) → v < suc n → (v < n) ⊎ (n ≤ v) → f v ≤ max (f n) rest.0
        at v below (inl earlier) = omega (arith, rest.1 v earlier)
        at v below (inr from) = let e : v ≡ n = omega arith in rw e (omega arith)

-- the greatest priority that recurs
pub limits : LimitedPrincipleOfOmniscience → (nodes : List Node) (player : Player) (choices : List (Option ℕ)) (v : ℕ) (play : ℕ → ℕ)
    → IsPlay nodes player choices v play → (p : ℕ) × IsLimit nodes play p
limits middle nodes player choices v play is_play =
    let most = bound (priority_at nodes) (length nodes) in
    let top = below_bound middle (λ i. priority_at nodes (play i)) most.0 0
    (λ j following. most.1 (play j) (inside nodes player choices v play is_play j)) in
    (top.number, record { recurring = top.recurring; from = top.from; none_greater = top.none_greater })
