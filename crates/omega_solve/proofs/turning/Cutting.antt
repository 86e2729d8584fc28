-- Places that stand alone are won: no lift is due in the table that has their measures, and top everywhere else.
use Rattle.std.proofs.Common.{◌≡◌, ℕ, ◌<◌, inl, inr, Bool, true, false, cond, List, Some, None, IsSome, length, map, get_or, slice_index, refl, sym, ap, ◌∙◌, subst, arith}
use Rattle.std.specs.List.{range_with_len}
use Rattle.std.proofs.lemmas.Bool.{false≢true}
use Rattle.std.proofs.lemmas.List.{length-map}
use Rattle.std.proofs.lemmas.List.FromFn.{length-map-range_with_len, get_or-map-range_with_len}
use Rattle.std.proofs.lemmas.Option.{get_or_from_slice_get, slice_get-get_or, slice_get_within}
use Rattle.omega_game_values.specs.declared.player.Player.{Player}
use Rattle.omega_game_values.specs.Game.{Node, IsGame, owner_at, priorities}
use Rattle.omega_lift_laws.specs.Measure.{Measure, IsAbove, IsMeasure}
use Rattle.omega_lift_laws.specs.Allowance.{IsAllowance, measure_at}
use Rattle.omega_lift_laws.specs.Laws.{AllowancesExist, MeasuresAreOrdered, WonPlacesAreInRegions}
use Rattle.omega_lift_laws.specs.Run.{IsDue}
use Rattle.omega_lift_laws.proofs.Choosing.{cases_player}
use Rattle.omega_lift_laws.proofs.Lifting.{measure_at_is}
use Rattle.omega_measure.specs.Table.{Content, Exceeds}
use Rattle.omega_solve.specs.private.solving.Successor.{IsTableOf}
use Rattle.omega_solve.specs.private.turning.Handing.{AreWon, IsKept, Rests, StandsAlone}
use Rattle.omega_solve.proofs.lifting.Due.{allowance_in, owned_not_due}
use Rattle.omega_solve.proofs.lifting.Lifting.{due_below_top}

-- top, or a measure
measure_or_top : (player : Player) (bearing : List ℕ) (lost : Bool) (x : Measure) → IsMeasure player bearing x
    → IsMeasure player bearing (cond {A = Measure} lost None x)
measure_or_top player bearing true x is = tt
measure_or_top player bearing false x is = is

module _
    (nodes : List Node) (player : Player) (content : Content) (lost : List Bool) (game : IsGame nodes) (table : IsTableOf nodes player content)
    (entries : length lost ≡ length nodes) where
  abbrev cut_at : ℕ → Measure
  cut_at v = cond {A = Measure} (get_or lost v true) None (measure_at content.measures v)

  -- the table that has the measures of the kept places, and top everywhere else
  abbrev cut : List Measure
  cut = map cut_at (range_with_len 0 (length nodes))

  abbrev cut_content : Content
  cut_content = record content { measures = cut }

  cut_is : (v : ℕ) → v < length nodes → measure_at cut v ≡ cut_at v
  cut_is v lt = get_or-map-range_with_len cut_at 0 (length nodes) v v None lt (omega arith)

  kept_inside : (v : ℕ) → IsKept lost v → v < length nodes
  kept_inside v kept = omega (arith, slice_get_within lost v false kept, entries)

  -- a kept place has its measure
  kept_there : (v : ℕ) → IsKept lost v → measure_at cut v ≡ measure_at content.measures v
  kept_there v kept =
      cut_is v (kept_inside v kept)
      ∙ ap (λ (b : Bool). cond {A = Measure} b None (measure_at content.measures v)) (get_or_from_slice_get lost v false true kept)

  cut_length : length cut ≡ length nodes
  cut_length = length-map-range_with_len cut_at 0 (length nodes)

  cut_table : IsTableOf nodes player cut_content
  cut_table = record {
    same_player = table.same_player;
    same_priorities = table.same_priorities;
    is_table = record {
      entries = cut_length ∙ sym (length-map nodes (λ (node : Node). node.priority));
      measures = λ v lt.
          let inside : v < length nodes = omega (arith, lt, cut_length) in
          subst (IsMeasure player (priorities nodes)) (sym (cut_is v inside))
          (measure_or_top player (priorities nodes) (get_or lost v true) (measure_at content.measures v)
          (measure_at_is player (priorities nodes) content.measures table.is_table v));
    };
  }

  -- between kept places allowances exceed measures as before
  exceeds_back : (v w : ℕ) → IsKept lost v → IsKept lost w → Exceeds cut_content v w → Exceeds content v w
  exceeds_back v w kept_v kept_w exceeds = record {
    allowance = exceeds.allowance;
    is = subst (λ (m : Measure). IsAllowance content.player content.priorities (slice_index content.priorities v) m exceeds.allowance)
        (kept_there w kept_w) exceeds.is;
    above = subst (λ (m : Measure). IsAbove exceeds.allowance m) (kept_there v kept_v) exceeds.above;
  }

  -- no lift is due at a kept place that rests on kept ones
  none_due : (v : ℕ) → MeasuresAreOrdered → AllowancesExist → IsKept lost v → Rests nodes player content lost v → ¬ IsDue nodes player cut v
  none_due v order exist kept rests = elim (cases_player (owner_at nodes v) player) [
    | inl own ↦
        let on = rests.own own in
        owned_not_due nodes player cut_content v game cut_table (kept_inside v kept) cut_length order exist own
        (on.0, on.1, λ exceeds. on.2.enough (exceeds_back v on.0 kept on.2.kept exceeds))
    | inr other ↦ λ due.
        let w = due.1.value.successor in
        let on = rests.other other w due.1.value.listed in
        on.enough (exceeds_back v w kept on.kept (record {
          allowance = due.0;
          is = allowance_in nodes player cut_content v w due.0 cut_table (kept_inside v kept) due.1.value.allowance;
          above = due.1.above;
        }))
  ]

  -- nor at one that is at top
  none_at_top : (v : ℕ) → v < length nodes → get_or lost v true ≡ true → ¬ IsDue nodes player cut v
  none_at_top v lt flag due =
      let some : IsSome (measure_at cut v) = due_below_top due.0 (measure_at cut v) due.1.above in
      let top : measure_at cut v ≡ None =
      cut_is v lt ∙ ap (λ (b : Bool). cond {A = Measure} b None (measure_at content.measures v)) flag in
      false≢true (rw top at some)

  none_by_flag : (v : ℕ) (flag : Bool) → MeasuresAreOrdered → AllowancesExist → StandsAlone nodes player content lost → v < length nodes
      → get_or lost v true ≡ flag → ¬ IsDue nodes player cut v
  none_by_flag v true order exist stands lt is = none_at_top v lt is
  none_by_flag v false order exist stands lt is =
      let inside : v < length lost = omega (arith, entries) in
      let kept : IsKept lost v = slice_get-get_or lost v true inside ∙ ap Some is in
      none_due v order exist kept (stands.rests v kept)

  -- places that stand alone are in the player's region
  pub standing_won : MeasuresAreOrdered → AllowancesExist → WonPlacesAreInRegions → StandsAlone nodes player content lost
      → AreWon nodes player lost
  standing_won order exist won stands v kept =
      won nodes player cut v game cut_table.is_table
      (λ u lt. none_by_flag u (get_or lost u true) order exist stands lt refl)
      (subst (λ (x : Measure). IsSome x) (sym (kept_there v kept)) (stands.below_top v kept))
