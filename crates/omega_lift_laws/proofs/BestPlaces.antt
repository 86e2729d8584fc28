-- Places of a list at which a value is greatest, or first least.
use Rattle.std.proofs.Common.{◌≢◌, ◌≡◌, ℕ, zero, suc, ◌<◌, List, [], ◌∷◌, length, get_or, Greater, ◌⊎◌, inl, inr, arith}
use Rattle.omega_lift_laws.specs.Measure.{Measure, compare}
use Rattle.omega_lift_laws.proofs.Order.{at_most_from_above, at_most_itself, at_most_trans, cases_greater, compare_total}

-- the value at the place k of a list
abbrev pub value_at : (ℕ → Measure) → List ℕ → ℕ → Measure
value_at f us k = f (get_or us k 0)

-- k is a place of a list at which a value is greatest
pub record IsGreatestPlace (f : ℕ → Measure) (us : List ℕ) (k : ℕ) : Type 0 where
  pub within : k < length us
  pub greatest : (j : ℕ) → j < length us → compare (value_at f us j) (value_at f us k) ≢ Greater

-- a list that is not empty has one
pub greatest_place : (f : ℕ → Measure) (u : ℕ) (us : List ℕ) → (k : ℕ) × IsGreatestPlace f (u ∷ us) k
greatest_place f u [] = (0, record { within = omega arith; greatest = greatest })
  where
    greatest : (j : ℕ) → j < 1 → compare (value_at f (u ∷ []) j) (f u) ≢ Greater
    greatest zero lt = at_most_itself compare_total (f u)
    greatest (suc j) lt = absurd (omega arith)
greatest_place f u (w ∷ us) = go (greatest_place f w us)
  where
    go : (k : ℕ) × IsGreatestPlace f (w ∷ us) k → (k : ℕ) × IsGreatestPlace f (u ∷ w ∷ us) k
    go r = pick (cases_greater (compare (f u) best))
      where
        best : Measure
        best = value_at f (w ∷ us) r.0

        pick : (compare (f u) best ≡ Greater) ⊎ (compare (f u) best ≢ Greater) → (k : ℕ) × IsGreatestPlace f (u ∷ w ∷ us) k
        pick (inl e) = (0, record { within = omega arith; greatest = greatest })
          where
            greatest : (j : ℕ) → j < length (u ∷ w ∷ us) → compare (value_at f (u ∷ w ∷ us) j) (f u) ≢ Greater
            greatest zero lt = at_most_itself compare_total (f u)
            greatest (suc j) lt =
                at_most_trans compare_total (value_at f (w ∷ us) j) best (f u) (r.1.greatest j (omega arith))
                (at_most_from_above compare_total (f u) best e)
        pick (inr n) = (suc r.0, record { within = omega (arith, r.1.within); greatest = greatest })
          where
            greatest : (j : ℕ) → j < length (u ∷ w ∷ us) → compare (value_at f (u ∷ w ∷ us) j) best ≢ Greater
            greatest zero lt = n
            greatest (suc j) lt = r.1.greatest j (omega arith)

-- k is the first of the places of a list at which a value is least
pub record IsFirstLeastPlace (f : ℕ → Measure) (us : List ℕ) (k : ℕ) : Type 0 where
  pub within : k < length us
  pub least : (j : ℕ) → j < length us → compare (value_at f us k) (value_at f us j) ≢ Greater
  pub first : (j : ℕ) → j < k → compare (value_at f us j) (value_at f us k) ≡ Greater

-- a list that is not empty has one
pub first_least_place : (f : ℕ → Measure) (u : ℕ) (us : List ℕ) → (k : ℕ) × IsFirstLeastPlace f (u ∷ us) k
first_least_place f u [] = (0, record { within = omega arith; least = least; first = λ j lt. absurd (omega arith) })
  where
    least : (j : ℕ) → j < 1 → compare (f u) (value_at f (u ∷ []) j) ≢ Greater
    least zero lt = at_most_itself compare_total (f u)
    least (suc j) lt = absurd (omega arith)
first_least_place f u (w ∷ us) = go (first_least_place f w us)
  where
    go : (k : ℕ) × IsFirstLeastPlace f (w ∷ us) k → (k : ℕ) × IsFirstLeastPlace f (u ∷ w ∷ us) k
    go r = pick (cases_greater (compare (f u) best))
      where
        best : Measure
        best = value_at f (w ∷ us) r.0

        pick : (compare (f u) best ≡ Greater) ⊎ (compare (f u) best ≢ Greater) → (k : ℕ) × IsFirstLeastPlace f (u ∷ w ∷ us) k
        pick (inl e) = (suc r.0, record { within = omega (arith, r.1.within); least = least; first = first })
          where
            least : (j : ℕ) → j < length (u ∷ w ∷ us) → compare best (value_at f (u ∷ w ∷ us) j) ≢ Greater
            least zero lt = at_most_from_above compare_total (f u) best e
            least (suc j) lt = r.1.least j (omega arith)

            first : (j : ℕ) → j < suc r.0 → compare (value_at f (u ∷ w ∷ us) j) best ≡ Greater
            first zero lt = e
            first (suc j) lt = r.1.first j (omega arith)
        pick (inr n) = (0, record { within = omega arith; least = least; first = λ j lt. absurd (omega arith) })
          where
            least : (j : ℕ) → j < length (u ∷ w ∷ us) → compare (f u) (value_at f (u ∷ w ∷ us) j) ≢ Greater
            least zero lt = at_most_itself compare_total (f u)
            least (suc j) lt = at_most_trans compare_total (f u) best (value_at f (w ∷ us) j) n (r.1.least j (omega arith))
