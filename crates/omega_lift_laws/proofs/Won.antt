-- If no lift is due, a place below top is in the player's region.
use Rattle.std.proofs.Common.{◌≡◌, ◌≢◌, ℕ, zero, suc, ◌<◌, ◌≤◌, IsSome, is_some, Option, None, Some, List, [], ◌∷◌, length, get_or, slice_get, ◌⊎◌, inl, inr, refl, sym, ap, ◌∙◌, subst, arith}
use Rattle.std.proofs.lemmas.Option.{get_or_from_slice_get, slice_get-get_or, slice_get_within}
use Rattle.std.proofs.lemmas.Bool.{cases_lt}
use Rattle.std.proofs.lemmas.List.{length-map}
use Rattle.omega_game_values.specs.declared.player.Player.{Player}
use Rattle.omega_game_values.specs.Game.{Node, IsGame, owner_at, priority_at, priorities, successors_at}
use Rattle.omega_game_values.specs.Winning.{Chooses}
use Rattle.omega_lift_laws.specs.Measure.{Measure, IsAbove, IsAtMost}
use Rattle.omega_lift_laws.specs.Allowance.{IsAllowanceOf, measure_at}
use Rattle.omega_lift_laws.specs.Run.{IsTable}
use Rattle.omega_lift_laws.specs.Answer.{AreChoices, IsFirstLeast}
use Rattle.omega_lift_laws.specs.Laws.{WonPlacesAreInRegions}
use Rattle.omega_lift_laws.proofs.BestPlaces.{IsFirstLeastPlace, first_least_place}
use Rattle.omega_lift_laws.proofs.LeastMeasure.{allowance_is_unique}
use Rattle.omega_lift_laws.proofs.Choosing.{allowance_towards, allowance_towards_is, cases_player, cases_top, choices_strategy, choices_winning, place_below_top}

-- the values of a function at the numbers below n
abbrev values : (ℕ → Option ℕ) → ℕ → List (Option ℕ)
values f zero = []
values f (suc n) = f 0 ∷ values (λ k. f (suc k)) n

length-values : (f : ℕ → Option ℕ) (n : ℕ) → length (values f n) ≡ n
length-values f zero = refl
length-values f (suc n) = ap suc (length-values (λ k. f (suc k)) n)

slice_get-values : (f : ℕ → Option ℕ) (n k : ℕ) → k < n → slice_get (values f n) k ≡ Some (f k)
slice_get-values f zero k lt = absurd (omega arith)
slice_get-values f (suc n) zero lt = refl
slice_get-values f (suc n) (suc k) lt = slice_get-values (λ k. f (suc k)) n k (omega arith)

-- what an answer chooses at a place: a won place of the player its first successor of least allowance, any other none
record IsChoice (nodes : List Node) (player : Player) (table : List Measure) (v : ℕ) (choice : Option ℕ) : Type 0 where
  chosen :
      v < length nodes → owner_at nodes v ≡ player → IsSome (measure_at table v)
      → (w : ℕ) × (choice ≡ Some w) × IsFirstLeast nodes player table v w
  others : owner_at nodes v ≢ player → choice ≡ None
  lost : measure_at table v ≡ None → choice ≡ None

-- the first successor of least allowance
first_least_successor :
    (nodes : List Node) (player : Player) (table : List Measure) (v : ℕ)
    → IsTable player (priorities nodes) table → 0 < length (successors_at nodes v) → (w : ℕ) × IsFirstLeast nodes player table v w
first_least_successor nodes player table v h some = go (successors_at nodes v) refl some
  where
    f : ℕ → Measure
    f w = allowance_towards nodes player table v w

    the_allowance : (u : ℕ) (y : Measure) → IsAllowanceOf nodes player table v u y → f u ≡ y
    the_allowance u y allows =
        allowance_is_unique player (priorities nodes) (priority_at nodes v) (measure_at table u) (f u) y (allowance_towards_is nodes player table v u h) allows

    go :
        (us : List ℕ) → successors_at nodes v ≡ us → 0 < length (successors_at nodes v)
        → (w : ℕ) × IsFirstLeast nodes player table v w
    go [] e lt = absurd (let none = ap length e in omega arith)
    go (u ∷ us) e lt = (
      get_or (u ∷ us) r.0 0,
      record {
        index = r.0;
        listed = ap (λ ws. slice_get ws r.0) e ∙ slice_get-get_or (u ∷ us) r.0 0 r.1.within;
        allowance = f (get_or (u ∷ us) r.0 0);
        allows = allowance_towards_is nodes player table v (get_or (u ∷ us) r.0 0) h;
        least = λ j w y listed allows.
            subst (λ z. IsAtMost (f (get_or (u ∷ us) r.0 0)) z) (at j w y listed allows).1 (r.1.least j (at j w y listed allows).0);
        first = λ j w y below listed allows.
            subst (λ z. IsAbove z (f (get_or (u ∷ us) r.0 0))) (at j w y listed allows).1 (r.1.first j below);
      },
    )
      where
        r : (k : ℕ) × IsFirstLeastPlace f (u ∷ us) k
        r = first_least_place f u us

        at :
            (j w : ℕ) (y : Measure) → slice_get (successors_at nodes v) j ≡ Some w → IsAllowanceOf nodes player table v w y
            → (j < length (u ∷ us)) × (f (get_or (u ∷ us) j 0) ≡ y)
        at j w y listed allows =
            let here : slice_get (u ∷ us) j ≡ Some w = ap (λ ws. slice_get ws j) (sym e) ∙ listed in
            (slice_get_within (u ∷ us) j w here, ap f (get_or_from_slice_get (u ∷ us) j w 0 here) ∙ the_allowance w y allows)

choice_at :
    (nodes : List Node) (player : Player) (table : List Measure) (v : ℕ)
    → IsGame nodes → IsTable player (priorities nodes) table → (choice : Option ℕ) × IsChoice nodes player table v choice
choice_at nodes player table v game h = go (cases_lt v (length nodes)) (cases_player (owner_at nodes v) player) (cases_top (measure_at table v))
  where
    go :
        (v < length nodes) ⊎ (length nodes ≤ v) → (owner_at nodes v ≡ player) ⊎ (owner_at nodes v ≢ player) → (measure_at table v ≡ None) ⊎ IsSome (measure_at table v)
        → (choice : Option ℕ) × IsChoice nodes player table v choice
    go (inr le) o m = (None, record { chosen = λ lt own s. absurd (omega arith); others = λ n. refl; lost = λ e. refl })
    go (inl lt) (inr n) m = (None, record { chosen = λ lt own s. absurd (n own); others = λ n. refl; lost = λ e. refl })
    go (inl lt) (inl o) (inl e) = (None, record { chosen = λ lt own s. absurd (let f = sym s ∙ ap is_some e in cc); others = λ n. refl; lost = λ e. refl })
    go (inl lt) (inl o) (inr s) =
        let best = first_least_successor nodes player table v h (game.continued v lt) in (
          Some best.0,
          record {
            chosen = λ lt own s. (best.0, refl, best.1);
            others = λ n. absurd (n o);
            lost = λ e. absurd (let f = sym s ∙ ap is_some e in cc);
          },
        )

-- the choices of a table
pub choices_of :
    (nodes : List Node) (player : Player) (table : List Measure) → IsGame nodes → IsTable player (priorities nodes) table
    → (choices : List (Option ℕ)) × AreChoices nodes player table choices
choices_of nodes player table game h = (
  values f (length nodes),
  record {
    entries = length-values f (length nodes);
    chosen = chosen;
    others = λ v lt n. slice_get-values f (length nodes) v lt ∙ ap Some ((at v).1.others n);
    lost = λ v lt e. slice_get-values f (length nodes) v lt ∙ ap Some ((at v).1.lost e);
  },
)
  where
    at : (v : ℕ) → (choice : Option ℕ) × IsChoice nodes player table v choice
    at v = choice_at nodes player table v game h

    f : ℕ → Option ℕ
    f v = (at v).0

    chosen :
        (v : ℕ) → v < length nodes → owner_at nodes v ≡ player → IsSome (measure_at table v)
        → (w : ℕ) × Chooses (values f (length nodes)) v w × IsFirstLeast nodes player table v w
    chosen v lt own s =
        let c = (at v).1.chosen lt own s in
        (c.0, slice_get-values f (length nodes) v lt ∙ ap Some c.1, c.2)

-- if no lift is due, a place below top is in the player's region
pub won_in_region : WonPlacesAreInRegions
won_in_region nodes player table v game h stable s =
    let choices = choices_of nodes player table game h in
    record {
      node = place_below_top nodes player table v (h.entries ∙ length-map nodes (λ node. node.priority)) s;
      choices = choices.0;
      strategy = choices_strategy nodes player table choices.0 choices.1;
      wins = choices_winning nodes player table choices.0 v game h stable choices.1 s;
    }
