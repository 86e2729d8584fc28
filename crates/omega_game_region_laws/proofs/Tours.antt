-- Tours: lists of places of a set, neighbours joined by steps.
-- A closed tour meets the target of an attractor or stays outside it.
use Rattle.std.proofs.Common.{◌≡◌, ℕ, ◌+◌, ◌<◌, ◌≤◌, ◌⊎◌, inl, inr, Bool, true, false, List, [], ◌∷◌, length, sym, ◌∙◌, subst, arith}
use Rattle.std.proofs.lemmas.Bool.{cases_Bool, false≢true}
use Rattle.omega_game_values.specs.Game.{Node, priority_at}
use Rattle.omega_game_values.specs.Winning.{end_of, greatest_on}

-- v and the places after it are in S, neighbours joined by steps
abbrev pub IsTour : (ℕ → Bool) → (ℕ → ℕ → Type 0) → ℕ → List ℕ → Type 0
IsTour S Step v [] = S v ≡ true
IsTour S Step v (w ∷ ws) = (S v ≡ true) × Step v w × IsTour S Step w ws

-- some place among v and those after it is in T
abbrev pub Meets : (ℕ → Bool) → ℕ → List ℕ → Type 0
Meets T v [] = T v ≡ true
Meets T v (w ∷ ws) = (T v ≡ true) ⊎ Meets T w ws

-- P holds of v and of each place after it
abbrev pub Along : (ℕ → Type 0) → ℕ → List ℕ → Type 0
Along P v [] = P v
Along P v (w ∷ ws) = P v × Along P w ws

-- the greatest priority of a tour that meets T, if q is that of T's places and no other is above it
pub greatest_le : (nodes : List Node) (q v : ℕ) (ws : List ℕ) → Along (λ u. priority_at nodes u ≤ q) v ws → greatest_on nodes v ws ≤ q
greatest_le nodes q v [] along = along
greatest_le nodes q v (w ∷ ws) along = omega (arith, along.0, greatest_le nodes q w ws along.1)

-- no less than the priority of the places that it meets
pub le-greatest : (nodes : List Node) (T : ℕ → Bool) (q v : ℕ) (ws : List ℕ)
    → ((u : ℕ) → T u ≡ true → q ≤ priority_at nodes u) → Meets T v ws → q ≤ greatest_on nodes v ws
le-greatest nodes T q v [] least meets = least v meets
le-greatest nodes T q v (w ∷ ws) least (inl here) = omega (arith, least v here)
le-greatest nodes T q v (w ∷ ws) least (inr later) = omega (arith, le-greatest nodes T q w ws least later)

module _ (S : ℕ → Bool) (Step : ℕ → ℕ → Type 0) where
  -- a tour starts in the set
  pub tour_start : (v : ℕ) (ws : List ℕ) → IsTour S Step v ws → S v ≡ true
  tour_start v [] tour = tour
  tour_start v (w ∷ ws) tour = tour.0

  -- what holds in S holds along a tour
  pub along_tour : (P : ℕ → Type 0) → ((u : ℕ) → S u ≡ true → P u) → (v : ℕ) (ws : List ℕ) → IsTour S Step v ws → Along P v ws
  along_tour P holds v [] tour = holds v tour
  along_tour P holds v (w ∷ ws) tour = (holds v tour.0, along_tour P holds w ws tour.2)

  -- what holds at the start and is kept by steps holds along a tour, and at its end
  pub kept_along : (P : ℕ → Type 0) → ((u w : ℕ) → P u → Step u w → S w ≡ true → P w)
      → (v : ℕ) (ws : List ℕ) → P v → IsTour S Step v ws → Along P v ws
  kept_along P kept v [] here tour = here
  kept_along P kept v (w ∷ ws) here tour = (here, kept_along P kept w ws (kept v w here tour.1 (tour_start w ws tour.2)) tour.2)

  -- and at its end
  kept_to_end : (P : ℕ → Type 0) → ((u w : ℕ) → P u → Step u w → S w ≡ true → P w)
      → (v : ℕ) (ws : List ℕ) → P v → IsTour S Step v ws → P (end_of v ws)
  kept_to_end P kept v [] here tour = here
  kept_to_end P kept v (w ∷ ws) here tour = kept_to_end P kept w ws (kept v w here tour.1 (tour_start w ws tour.2)) tour.2

  -- a tour that meets a set which steps keep ends in it
  pub met_at_end : (T : ℕ → Bool) → ((u w : ℕ) → T u ≡ true → Step u w → S w ≡ true → T w ≡ true)
      → (v : ℕ) (ws : List ℕ) → Meets T v ws → IsTour S Step v ws → T (end_of v ws) ≡ true
  met_at_end T kept v [] meets tour = meets
  met_at_end T kept v (w ∷ ws) (inl here) tour = kept_to_end (λ u. T u ≡ true) kept v (w ∷ ws) here tour
  met_at_end T kept v (w ∷ ws) (inr later) tour = met_at_end T kept w ws later tour.2

  -- a tour along which P holds is one in another set and by other steps
  pub retour : (P : ℕ → Type 0) (R : ℕ → Bool) (Onward : ℕ → ℕ → Type 0) → ((u : ℕ) → P u → S u ≡ true → R u ≡ true)
      → ((u w : ℕ) → P u → S u ≡ true → Step u w → Onward u w)
      → (v : ℕ) (ws : List ℕ) → Along P v ws → IsTour S Step v ws → IsTour R Onward v ws
  retour P R Onward place step v [] along tour = place v along tour
  retour P R Onward place step v (w ∷ ws) along tour =
      (place v along.0 tour.0, step v w along.0 tour.0 tour.1, retour P R Onward place step w ws along.1 tour.2)

  module _ (T A : ℕ → Bool) (rank : ℕ → ℕ)
      (falls : (u w : ℕ) → A u ≡ true → T u ≡ false → Step u w → S w ≡ true → (A w ≡ true) × (rank w < rank u)) where
    -- a tour within A whose ranks fell at each step
    abbrev Fell : ℕ → List ℕ → Type 0
    Fell v ws = (A (end_of v ws) ≡ true) × (rank (end_of v ws) + length ws ≤ rank v)

    fell_further : (v w : ℕ) (ws : List ℕ) → rank w < rank v → Meets T w ws ⊎ Fell w ws → Meets T v (w ∷ ws) ⊎ Fell v (w ∷ ws)
    fell_further v w ws lower (inl meets) = inl (inr meets)
    fell_further v w ws lower (inr fell) = inr (fell.0, omega (arith, fell.1))

    met_or_fell : (v : ℕ) (ws : List ℕ) → A v ≡ true → IsTour S Step v ws → Meets T v ws ⊎ Fell v ws
    met_or_fell v [] here tour = inr (here, omega arith)
    met_or_fell v (w ∷ ws) here tour = go (λ next. met_or_fell w ws next tour.2) (cases_Bool (T v))
      where
        go : (A w ≡ true → Meets T w ws ⊎ Fell w ws) → (T v ≡ true) ⊎ (T v ≡ false) → Meets T v (w ∷ ws) ⊎ Fell v (w ∷ ws)
        go onward (inl aim) = inl (inl aim)
        go onward (inr aside) =
            let next = falls v w here aside tour.1 (tour_start w ws tour.2) in
            fell_further v w ws next.1 (onward next.0)

    met_if_entered : (v : ℕ) (ws : List ℕ) → A (end_of v ws) ≡ false → Meets T v ws ⊎ Fell v ws → Meets T v ws
    met_if_entered v ws out (inl meets) = meets
    met_if_entered v ws out (inr fell) = absurd (false≢true (sym out ∙ fell.0))

    met_or_outside_to : (v : ℕ) (ws : List ℕ) → A (end_of v ws) ≡ false → IsTour S Step v ws → Meets T v ws ⊎ Along (λ u. A u ≡ false) v ws
    met_or_outside_to v [] out tour = inr out
    met_or_outside_to v (w ∷ ws) out tour = go (met_or_outside_to w ws out tour.2) (cases_Bool (A v))
      where
        go : Meets T w ws ⊎ Along (λ u. A u ≡ false) w ws → (A v ≡ true) ⊎ (A v ≡ false) → Meets T v (w ∷ ws) ⊎ Along (λ u. A u ≡ false) v (w ∷ ws)
        go later (inl here) = inl (met_if_entered v (w ∷ ws) out (met_or_fell v (w ∷ ws) here tour))
        go (inl meets) (inr off) = inl (inr meets)
        go (inr along) (inr off) = inr (off, along)

    -- a closed tour meets the target or stays outside the attractor
    pub met_or_outside : (v : ℕ) (ws : List ℕ) → 0 < length ws → end_of v ws ≡ v → IsTour S Step v ws → Meets T v ws ⊎ Along (λ u. A u ≡ false) v ws
    met_or_outside v ws longer closed tour = go (cases_Bool (A v))
      where
        fell_round : Meets T v ws ⊎ Fell v ws → Meets T v ws ⊎ Along (λ u. A u ≡ false) v ws
        fell_round (inl meets) = inl meets
        fell_round (inr fell) =
            let lower : rank v + length ws ≤ rank v = subst (λ u. rank u + length ws ≤ rank v) closed fell.1 in
            absurd (omega arith)

        go : (A v ≡ true) ⊎ (A v ≡ false) → Meets T v ws ⊎ Along (λ u. A u ≡ false) v ws
        go (inl here) = fell_round (met_or_fell v ws here tour)
        go (inr off) = met_or_outside_to v ws (subst (λ u. A u ≡ false) (sym closed) off) tour
