-- Each place of a table has a lift value, so that it can be decided whether a lift is due.
use Rattle.std.proofs.Common.{◌≡◌, ◌≢◌, ℕ, ◌<◌, ◌⊎◌, inl, inr, List, [], ◌∷◌, length, get_or, Contains, refl, sym, ap, ◌∙◌, subst, arith}
use Rattle.std.proofs.lemmas.List.{get_or_default}
use Rattle.omega_game_values.specs.declared.player.Player.{Player}
use Rattle.omega_game_values.specs.Game.{Node, IsGame, owner_at, priority_at, priorities, successors_at}
use Rattle.omega_lift_laws.specs.Measure.{Measure, IsAtMost, compare}
use Rattle.omega_lift_laws.specs.Allowance.{IsAllowanceOf, IsLiftValue, measure_at}
use Rattle.omega_lift_laws.specs.Run.{IsDue, IsTable}
use Rattle.omega_lift_laws.proofs.BestPlaces.{first_least_place, greatest_place}
use Rattle.omega_lift_laws.proofs.Choosing.{allowance_towards, allowance_towards_is, cases_player}
use Rattle.omega_lift_laws.proofs.LeastMeasure.{allowance_is_unique}
use Rattle.omega_lift_laws.proofs.Order.{at_most_trans, cases_greater, compare_total}

module _ (nodes : List Node) (player : Player) (table : List Measure) (v : ℕ) (is : IsTable player (priorities nodes) table) where
  abbrev towards : ℕ → Measure
  towards w = allowance_towards nodes player table v w

  -- the allowance towards a successor is that of a place of the list
  at_place : (us : List ℕ) (w : ℕ) (y : Measure) → IsAllowanceOf nodes player table v w y → (c : Contains us w) → y ≡ towards (get_or us c.0 0)
  at_place us w y allows c =
      let here : get_or us c.0 0 ≡ w = get_or_default us c.0 0 w c.1 ∙ c.2 in
      allowance_is_unique player (priorities nodes) (priority_at nodes v) (measure_at table w) y (towards w) allows
      (allowance_towards_is nodes player table v w is)
      ∙ ap towards (sym here)

  -- a place that the player owns has its least allowance
  own_value : (us : List ℕ) → us ≡ successors_at nodes v → 0 < length us → owner_at nodes v ≡ player → (x : Measure) × IsLiftValue nodes player table v x
  own_value [] e some own = absurd (omega arith)
  own_value (u ∷ us) e some own =
      let r = first_least_place towards u us in
      let best = get_or (u ∷ us) r.0 0 in (
        towards best,
        record {
          successor = best;
          listed = subst (λ ws. Contains ws best) e (r.0, r.1.within, get_or_default (u ∷ us) r.0 best 0 r.1.within);
          allowance = allowance_towards_is nodes player table v best is;
          least = λ o w y edge allows.
              let c : Contains (u ∷ us) w = subst (λ ws. Contains ws w) (sym e) edge in
              subst (λ z. IsAtMost (towards best) z) (sym (at_place (u ∷ us) w y allows c)) (r.1.least c.0 c.1);
          greatest = λ other w y edge allows. absurd (other own);
        },
      )

  -- and another its greatest
  other_value : (us : List ℕ) → us ≡ successors_at nodes v → 0 < length us → owner_at nodes v ≢ player → (x : Measure) × IsLiftValue nodes player table v x
  other_value [] e some other = absurd (omega arith)
  other_value (u ∷ us) e some other =
      let r = greatest_place towards u us in
      let best = get_or (u ∷ us) r.0 0 in (
        towards best,
        record {
          successor = best;
          listed = subst (λ ws. Contains ws best) e (r.0, r.1.within, get_or_default (u ∷ us) r.0 best 0 r.1.within);
          allowance = allowance_towards_is nodes player table v best is;
          least = λ own w y edge allows. absurd (other own);
          greatest = λ o w y edge allows.
              let c : Contains (u ∷ us) w = subst (λ ws. Contains ws w) (sym e) edge in
              subst (λ z. IsAtMost z (towards best)) (sym (at_place (u ∷ us) w y allows c)) (r.1.greatest c.0 c.1);
        },
      )

  pub value_exists : IsGame nodes → v < length nodes → (x : Measure) × IsLiftValue nodes player table v x
  value_exists game lt = elim (cases_player (owner_at nodes v) player) [
    | inl own ↦ own_value (successors_at nodes v) refl (game.continued v lt) own
    | inr other ↦ other_value (successors_at nodes v) refl (game.continued v lt) other
  ]

  -- no lift value is above another
  pub value_at_most : (x y : Measure) → IsLiftValue nodes player table v x → IsLiftValue nodes player table v y → IsAtMost x y
  value_at_most x y one two = elim (cases_player (owner_at nodes v) player) [
    | inl own ↦ one.least own two.successor y two.listed two.allowance
    | inr other ↦ two.greatest other one.successor x one.listed one.allowance
  ]

  -- a lift is due or not
  pub due_or_not : IsGame nodes → v < length nodes → IsDue nodes player table v ⊎ ¬ IsDue nodes player table v
  due_or_not game lt =
      let value = value_exists game lt in
      elim (cases_greater (compare value.0 (measure_at table v))) [
        | inl above ↦ inl (value.0, record { value = value.1; above = above })
        | inr at_most ↦ inr (λ due.
            at_most_trans compare_total due.0 value.0 (measure_at table v) (value_at_most due.0 value.0 due.1.value value.1) at_most due.1.above)
      ]
