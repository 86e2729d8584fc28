-- The answer that a solver for the reordered game gives, read by place, is exact.
use Rattle.std.proofs.Common.{◌≡◌, ℕ, ◌<◌, ◌≤◌, ◌⊎◌, inl, inr, Bool, true, false, List, [], ◌∷◌, None, Some, Option, Contains, IfSome, IsSome, is_some, length, map, get_or, slice_get, option_map, refl, sym, ap, ap₂, subst, ◌∙◌, arith}
use Rattle.std.proofs.lemmas.Bool.{cases_lt}
use Rattle.std.proofs.lemmas.List.{get_or-map, get_or_past, length-map}
use Rattle.std.proofs.lemmas.Option.{get_or_from_slice_get, slice_get-get_or, slice_get_past}
use Rattle.omega_game_values.specs.declared.player.Player.{Player}
use Rattle.omega_game_values.specs.Game.{Node, HasEdge, IsGame, successors_at}
use Rattle.omega_game_values.specs.Winning.{Chooses, IsStrategy}
use Rattle.omega_lift_laws.specs.Allowance.{IsAllowanceOf, measure_at}
use Rattle.omega_lift_laws.specs.Answer.{AreChoices, IsFirstLeast, won_in}
use Rattle.omega_lift_laws.specs.Measure.{Measure}
use Rattle.omega_solve.specs.Headline.{DealsOut, Headline, IsExact}
use Rattle.omega_solve.specs.Solver.{SolverState, IsFinished, IsReached, start_of}
use Rattle.omega_solve.specs.budget.Laws.{HasSameLifts}
use Rattle.omega_solve.specs.budget.Reordering.{IsReordering, flags_by_place, measures_by_place, state_by_place}
use Rattle.omega_solve.specs.budget.private.steps.Reordering.{choices_by_place}
use Rattle.omega_solve.proofs.within_budget.Games.{IsClosed, back_closed, back_reordering, edge_from, place_of_position, position_below, position_of_place}
use Rattle.omega_solve.proofs.within_budget.Lifting.{allowance_here, allowance_there, follows, measure_here}

-- what a list has under a function, and what it has there
entry_under : {X Y : Type 0} (f : X → Y) (xs : List X) (ys : List Y) (i : ℕ) (x : X) → ys ≡ map f xs → slice_get xs i ≡ Some x → slice_get ys i ≡ Some (f x)
entry_under f xs ys i x same found = elim (cases_lt i (length xs)) [
  | inl lt ↦
      slice_get-get_or ys i (f x) (omega (arith, lt, ap length same, length-map xs f))
      ∙ ap Some (ap (λ (zs : List _). get_or zs i (f x)) same ∙ get_or-map f xs i x (f x) lt ∙ ap f (get_or_from_slice_get xs i x x found))
  | inr past ↦ (let none = slice_get_past xs i (omega (arith, past)) in cc)
]

-- what is read at a place is contained
contained_at : {X : Type 0} (xs : List X) (i : ℕ) (x : X) → slice_get xs i ≡ Some x → Contains xs x
contained_at xs i x found = elim (cases_lt i (length xs)) [
  | inl lt ↦ (i, lt, get_or_from_slice_get xs i x x found)
  | inr past ↦ (let none = slice_get_past xs i (omega (arith, past)) in cc)
]

module _ (nodes other : List Node) (positions places : List ℕ) (reordering : IsReordering nodes other positions places) (closed : IsClosed nodes) (player : Player)
    (table : List Measure) (choices : List (Option ℕ)) (chosen : AreChoices other player table choices) where
  -- the choice at a place is the place of the choice at its position
  choice_here : (v : ℕ) (choice : Option ℕ) → v < length nodes → slice_get choices (get_or positions v 0) ≡ Some choice
      → slice_get (choices_by_place positions places choices) v ≡ Some (option_map (λ r. get_or places r 0) choice)
  choice_here v choice lt is =
      entry_under (λ r. option_map (λ r. get_or places r 0) (get_or choices r None)) positions (choices_by_place positions places choices) v (get_or positions v 0) refl
      (slice_get-get_or positions v 0 (omega (arith, lt, reordering.positioned)))
      ∙ ap (λ (c : Option ℕ). Some (option_map (λ r. get_or places r 0) c)) (get_or_from_slice_get choices (get_or positions v 0) choice None is)

  first_here : (v r : ℕ) → v < length nodes → IsFirstLeast other player table (get_or positions v 0) r
      → IsFirstLeast nodes player (measures_by_place positions table) v (get_or places r 0)
  first_here v r lt first = record {
    index = first.index;
    listed = listed;
    allowance = first.allowance;
    allows = allowance_here nodes other positions places reordering closed player table v (get_or places r 0) first.allowance lt below
        (subst (λ (u : ℕ). IsAllowanceOf other player table (get_or positions v 0) u first.allowance) (sym back) first.allows);
    least = λ j u y at allowance. first.least j (get_or positions u 0) y (listed_there j u at) (allowed_there j u y at allowance);
    first = λ j u y before at allowance. first.first j (get_or positions u 0) y before (listed_there j u at) (allowed_there j u y at allowance);
  }
    where
      listed : slice_get (successors_at nodes v) first.index ≡ Some (get_or places r 0)
      listed = entry_under (λ u. get_or places u 0) (successors_at other (get_or positions v 0)) (successors_at nodes v) first.index r
          (subst (λ (i : ℕ). successors_at nodes i ≡ map (λ u. get_or places u 0) (successors_at other (get_or positions v 0)))
          (place_of_position nodes other positions places reordering v lt)
          ((back_reordering nodes other positions places reordering closed).moved (get_or positions v 0) (position_below nodes other positions places reordering v lt)).successors)
          first.listed

      below : get_or places r 0 < length nodes
      below = closed v (get_or places r 0) lt (contained_at (successors_at nodes v) first.index (get_or places r 0) listed)

      back : get_or positions (get_or places r 0) 0 ≡ r
      back = position_of_place nodes other positions places reordering r
          (back_closed nodes other positions places reordering closed (get_or positions v 0) r (position_below nodes other positions places reordering v lt)
          (contained_at (successors_at other (get_or positions v 0)) first.index r first.listed))

      listed_there : (j u : ℕ) → slice_get (successors_at nodes v) j ≡ Some u → slice_get (successors_at other (get_or positions v 0)) j ≡ Some (get_or positions u 0)
      listed_there j u at = entry_under (λ w. get_or positions w 0) (successors_at nodes v) (successors_at other (get_or positions v 0)) j u (reordering.moved v lt).successors at

      allowed_there : (j u : ℕ) (y : Measure) → slice_get (successors_at nodes v) j ≡ Some u → IsAllowanceOf nodes player (measures_by_place positions table) v u y
          → IsAllowanceOf other player table (get_or positions v 0) (get_or positions u 0) y
      allowed_there j u y at allowance =
          allowance_there nodes other positions places reordering closed player table v u y lt (closed v u lt (contained_at (successors_at nodes v) j u at)) allowance

  pub choices_here : AreChoices nodes player (measures_by_place positions table) (choices_by_place positions places choices)
  choices_here = record {
    entries = length-map positions (λ r. option_map (λ r. get_or places r 0) (get_or choices r None)) ∙ reordering.positioned;
    chosen = λ v lt mine won.
        let there = chosen.chosen (get_or positions v 0) (position_below nodes other positions places reordering v lt) ((reordering.moved v lt).owner ∙ mine)
        (subst IsSome (measure_here nodes other positions places reordering closed player table v lt) won) in
        (get_or places there.0 0, choice_here v (Some there.0) lt there.1, first_here v there.0 lt there.2);
    others = λ v lt foreign.
        choice_here v None lt
        (chosen.others (get_or positions v 0) (position_below nodes other positions places reordering v lt) (λ mine. foreign (sym (reordering.moved v lt).owner ∙ mine)));
    lost = λ v lt top.
        choice_here v None lt
        (chosen.lost (get_or positions v 0) (position_below nodes other positions places reordering v lt)
        (sym (measure_here nodes other positions places reordering closed player table v lt) ∙ top));
  }

-- whether a measure is below top, by its flag
flag_at : (table : List Measure) (r : ℕ) → get_or (won_in table) r false ≡ is_some (measure_at table r)
flag_at table r = elim (cases_lt r (length table)) [
  | inl lt ↦ get_or-map is_some table r None false lt
  | inr past ↦
      get_or_past (won_in table) r false (omega (arith, past, length-map table (λ (x : Measure). is_some x)))
      ∙ sym (ap is_some (get_or_past table r None (omega (arith, past))))
]

-- the flags of what is won, by place
pub won_here : (positions : List ℕ) (table : List Measure) → map (λ r. get_or (won_in table) r false) positions ≡ won_in (measures_by_place positions table)
won_here [] table = refl
won_here (r ∷ positions) table = ap₂ (λ (flag : Bool) (flags : List Bool). flag ∷ flags) (flag_at table r) (won_here positions table)

-- flags and choices that were read along a permutation
pub won_by_place_here : (positions : List ℕ) (flags : List Bool) (read : List ℕ) (won : List Bool) (table : List Measure) → flags ≡ flags_by_place read won
    → read ≡ positions → won ≡ won_in table → flags ≡ won_in (measures_by_place positions table)
won_by_place_here positions flags read won table is same_positions same_won =
    is ∙ ap (λ (rs : List ℕ). flags_by_place rs won) same_positions ∙ ap (flags_by_place positions) same_won ∙ won_here positions table

pub choices_by_place_here : (positions places read_positions read_places : List ℕ) (found choices : List (Option ℕ)) → found ≡ choices_by_place read_positions read_places choices
    → read_positions ≡ positions → read_places ≡ places → found ≡ choices_by_place positions places choices
choices_by_place_here positions places read_positions read_places found choices is same_positions same_places =
    is ∙ ap (λ (rs : List ℕ). choices_by_place rs read_places choices) same_positions ∙ ap (λ (ps : List ℕ). choices_by_place positions ps choices) same_places

-- a solver that is done gives an exact answer
pub exact_here : Headline → (nodes : List Node) (positions places : List ℕ) (state : SolverState) (choices : List (Option ℕ)) → IsGame nodes
    → IsReordering nodes state.nodes positions places → IsReached state → IsFinished state → state.done ≡ true
    → AreChoices state.nodes state.player state.table.measures choices
    → IsExact nodes state.player (won_in (measures_by_place positions state.table.measures)) (choices_by_place positions places choices)
exact_here headline nodes positions places state choices game reordering reached finished done chosen =
    (headline nodes state.player (state.lifts ∷ []) here game dealt).exact done _
    (choices_here nodes state.nodes positions places reordering (λ v w lt edge. game.closed v w edge) state.player state.table.measures choices chosen)
  where
    here : SolverState
    here = state_by_place nodes positions state

    there : HasSameLifts state (state_by_place nodes positions state)
    there = follows nodes positions places state game reordering reached

    dealt : DealsOut (start_of nodes state.player) (state.lifts ∷ []) (state_by_place nodes positions state)
    dealt = (
      state_by_place nodes positions state,
      record {
        same_nodes = refl;
        same_player = refl;
        lifted = record {
          places = there.reached.places;
          lifted = there.reached.lifted;
          counted = omega (arith, there.reached.counted);
          within = omega (arith, there.reached.counted);
        };
        done = λ _. there.finished finished;
        spent = λ still. absurd (let e : true ≡ false = sym done ∙ still in cc);
      },
      refl,
    )

-- a choice of a strategy is a place
pub choices_below : (nodes other : List Node) (positions places : List ℕ) (player : Player) (choices : List (Option ℕ)) → IsGame nodes
    → IsReordering nodes other positions places → IsStrategy other player choices → (r : ℕ) → IfSome (get_or choices r None) (λ w. w < length places)
choices_below nodes other positions places player choices game reordering strategy r = go (get_or choices r None) refl
  where
    go : (choice : Option ℕ) → get_or choices r None ≡ choice → IfSome choice (λ w. w < length places)
    go None is = tt
    go (Some w) is =
        let edge : HasEdge other r w = strategy.listed r w (chooses (cases_lt r (length choices))) in
        let below = back_closed nodes other positions places reordering (λ v u lt on. game.closed v u on) r w (edge_from other r w edge) edge in
        omega (arith, below, reordering.entries, reordering.placed)
      where
        chooses : (r < length choices) ⊎ (length choices ≤ r) → Chooses choices r w
        chooses (inl lt) = slice_get-get_or choices r None lt ∙ ap Some is
        chooses (inr past) = (let none : get_or choices r None ≡ None = get_or_past choices r None past in cc)
