-- What a player's side keeps holds at its start, after lifts and takes, and after a place is given up.
use Rattle.std.proofs.Common.{◌≡◌, ℕ, ◌+◌, ◌-◌, ◌<◌, ◌^◌, inl, inr, [], min, Bool, true, false, List, ◌∷◌, Option, None, IsSome, length, set, slice_index, replicate, refl, sym, ap, ◌∙◌, subst, arith}
use Rattle.std.proofs.lemmas.Bool.{cases_eq, false≢true}
use Rattle.std.proofs.lemmas.List.{get_or-set_other, get_or-set_same, get_or_default, length-replicate, length-set}
use Rattle.std.proofs.lemmas.Option.{same_Some}
use Rattle.omega_game_values.specs.declared.player.Player.{Player}
use Rattle.omega_game_values.specs.declared.player.Player.TheVariants.{One, Zero}
use Rattle.omega_game_values.specs.Game.{Node, IsGame, predecessors_of, priorities, successors_at}
use Rattle.omega_game_values.specs.Player.{opponent_of}
use Rattle.omega_game_values.specs.Winning.{InRegion}
use Rattle.omega_game_region_laws.specs.Laws.{RegionsAreApart}
use Rattle.omega_lift_laws.specs.Measure.{Measure, IsAtMost}
use Rattle.omega_lift_laws.specs.Allowance.{measure_at}
use Rattle.omega_lift_laws.specs.Answer.{AreChoices, won_in}
use Rattle.omega_lift_laws.specs.Laws.{AllowancesAreUnique, ChoicesAreAStrategy, ChoicesWin, RegionsStayBelowTop, WonPlacesAreInRegions, ZeroTablesAreTables}
use Rattle.omega_lift_laws.specs.Run.{IsDue, IsLiftingRun, IsStable, IsTable}
use Rattle.omega_lift_laws.proofs.Choosing.{cases_top}
use Rattle.omega_measure.specs.Table.{Content, Raises, with_measure, zero_content}
use Rattle.omega_lift_schedules.specs.Schedule.{IsPending, Pending, all_pending, with_taken}
use Rattle.omega_lift_schedules.proofs.Flags.{pending_all, pending_inside, pending_taken}
use Rattle.omega_solve.specs.LeastTables.{IsLeastStable, RunsLeadToLeastTables}
use Rattle.omega_solve.specs.Turns.{EndsRaised, IsAnswerOfRun}
use Rattle.omega_solve.specs.private.solving.Repeating.{LiftsAgain}
use Rattle.omega_solve.specs.private.solving.Successor.{IsDueTowards, IsTableOf}
use Rattle.omega_solve.specs.private.solving.Wake.{Wakes}
use Rattle.omega_solve.specs.private.turning.Side.{HasEnded, IsSide}
use Rattle.omega_solve.proofs.answers.Exactness.{answer_exact}
use Rattle.omega_solve.proofs.lifting.Due.{table_entries}
use Rattle.omega_solve.proofs.lifting.Edges.{contained, edge_from_predecessor, edge_leaves}
use Rattle.omega_solve.proofs.lifting.Lifting.{due_before, due_below_top, due_pending, raised, run_raised}
use Rattle.omega_solve.proofs.turning.Below.{at_most_set, at_most_top, run_below, zero_below}
use Rattle.omega_solve.proofs.turning.Raising.{lifts_raise, raised_more, raised_start, set_keeps_table}

-- at its start
pub side_start : (nodes : List Node) (player : Player) → ZeroTablesAreTables
    → IsSide nodes player (zero_content player (priorities nodes)) (all_pending (length nodes)) 0
side_start nodes player zero = record {
  table = record { same_player = refl; same_priorities = refl; is_table = zero player (priorities nodes) };
  below = λ other is stable. zero_below nodes player other is;
  raised = raised_start nodes player;
  entries = length-replicate (length nodes) true;
  due = λ v due. pending_all (length nodes) v (edge_leaves nodes v due.1.value.successor due.1.value.listed);
}

-- after lifts of one place, its take, and the waking of its predecessors
pub side_lifted : (nodes : List Node) (player : Player) (old new content : Content) (before again after : Pending) (v w count raises sum : ℕ) → IsGame nodes
    → AllowancesAreUnique → IsSide nodes player old before raises → sum ≡ min (raises + (1 + count)) (2 ^ 64 - 1) → IsDueTowards nodes player old.measures v w → Raises old v w new
    → LiftsAgain nodes player v count new content (with_taken before v) again
    → Wakes content.measures (predecessors_of nodes v) (length (predecessors_of nodes v)) again after
    → IsSide nodes player content after sum
side_lifted nodes player old new content before again after v w count raises sum game unique side counted due raising more wakes =
    let place = edge_leaves nodes v w due.listed in
    let here : v < length old.measures = omega (arith, place, table_entries nodes player old side.table) in
    let now = raised nodes player old new v w unique side.table due raising in
    let from = subst (λ (t : List Measure). IsLiftingRun nodes player t (replicate count v) content.measures)
    (ap (λ (c : Content). c.measures) now) more.lifted in
    let run = run_raised nodes player old new content v w count unique side.table due raising more.lifted in
    record {
      table = more.table;
      below = λ other is stable.
          run_below nodes player old.measures content.measures other (v ∷ replicate count v) game side.table.is_table is stable
          run (side.below other is stable);
      raised = raised_more nodes player old.measures content.measures raises sum (v ∷ replicate count v) side.raised
          (lifts_raise nodes player old.measures content.measures (v ∷ replicate count v) run)
          (omega (arith, counted, length-replicate count v));
      entries = wakes.entries ∙ (ap (λ (marks : List Bool). length marks) more.flags ∙ (length-set before.flags v false ∙ side.entries));
      due = due_pending nodes player old.measures content.measures before again after v count due.value here due.lifts from more.looped
          side.due more.flags wakes;
    }

-- after the take of a place at which no lift is due
pub side_settled : (nodes : List Node) (player : Player) (content : Content) (before : Pending) (v raises : ℕ) → IsSide nodes player content before raises
    → ¬ IsDue nodes player content.measures v → IsSide nodes player content (with_taken before v) raises
side_settled nodes player content before v raises side settled = record {
  table = side.table;
  below = side.below;
  raised = side.raised;
  entries = length-set before.flags v false ∙ side.entries;
  due = λ u due. pending_taken before v u (λ (e : u ≡ v).
      settled (subst (λ (place : ℕ). IsDue nodes player content.measures place) e due)) (side.due u due);
}

-- no place is in the regions of a player and of the opponent
never_both : (nodes : List Node) (player : Player) (v : ℕ) → IsGame nodes → RegionsAreApart → InRegion nodes player v
    → InRegion nodes (opponent_of player) v → ⊥
never_both nodes Zero v game apart mine theirs = apart nodes v game mine theirs
never_both nodes One v game apart mine theirs = apart nodes v game theirs mine

-- a place that the opponent wins is at top in each table in which no lift is due
lost_at_top : (nodes : List Node) (player : Player) (other : List Measure) (v : ℕ) → IsGame nodes → WonPlacesAreInRegions → RegionsAreApart
    → IsTable player (priorities nodes) other → IsStable nodes player other → InRegion nodes (opponent_of player) v
    → IsAtMost None (measure_at other v)
lost_at_top nodes player other v game won apart is stable lost = elim (cases_top (measure_at other v)) [
  | inl top ↦ subst (λ (y : Measure). IsAtMost None y) (sym top) (at_most_top None)
  | inr some ↦ absurd (never_both nodes player v game apart (won nodes player other v game is stable some) lost)
]

-- the table with one measure at top
topped_table : (nodes : List Node) (player : Player) (old : Content) (v : ℕ) → IsTableOf nodes player old
    → IsTableOf nodes player (with_measure old v None)
topped_table nodes player old v table = record {
  same_player = table.same_player;
  same_priorities = table.same_priorities;
  is_table = set_keeps_table player (priorities nodes) old.measures v None table.is_table tt;
}

-- each place at which a lift is due is pending after its successor was given up
topped_due : (nodes : List Node) (player : Player) (table : List Measure) (before after : Pending) (v : ℕ) → v < length table
    → ((u : ℕ) → IsDue nodes player table u → IsPending before u)
    → Wakes (set table v None) (predecessors_of nodes v) (length (predecessors_of nodes v)) before after
    → (u : ℕ) → IsDue nodes player (set table v None) u → IsPending after u
topped_due nodes player table before after v lt pending wakes u due =
    let some : IsSome (measure_at (set table v None) u) = due_below_top due.0 (measure_at (set table v None) u) due.1.above in
    elim (contained (successors_at nodes u) v) [
      | inl edge ↦
          let at = edge_from_predecessor nodes u v edge in
          let here : slice_index (predecessors_of nodes v) at.0 ≡ u = get_or_default (predecessors_of nodes v) at.0 0 u at.1 ∙ at.2 in
          subst (λ (place : ℕ). IsPending after place) here
          (wakes.woken at.0 at.1 (subst (λ (place : ℕ). IsSome (measure_at (set table v None) place)) (sym here) some))
      | inr apart ↦ elim (cases_eq u v) [
        | inl e ↦
            let top : measure_at (set table v None) u ≡ None =
            ap (measure_at (set table v None)) e ∙ get_or-set_same table v None None lt in
            absurd (false≢true (rw top at some))
        | inr ne ↦
            wakes.kept u
            (pending u (due_before nodes player table (set table v None) u v (λ w away. get_or-set_other table v w None None away) apart ne due))
      ]
    ]

-- after a place is given up that the opponent wins, and its predecessors are woken
pub side_topped : (nodes : List Node) (player : Player) (old : Content) (before after : Pending) (v raises sum : ℕ) → IsGame nodes → WonPlacesAreInRegions
    → RegionsAreApart → IsSide nodes player old before raises → sum ≡ min (raises + 1) (2 ^ 64 - 1) → InRegion nodes (opponent_of player) v
    → IsSome (measure_at old.measures v)
    → Wakes (set old.measures v None) (predecessors_of nodes v) (length (predecessors_of nodes v)) before after
    → IsSide nodes player (with_measure old v None) after sum
side_topped nodes player old before after v raises sum game won apart side counted lost some wakes =
    let entries = table_entries nodes player old side.table in
    let here : v < length old.measures = omega (arith, entries, lost.node) in
    record {
      table = topped_table nodes player old v side.table;
      below = λ other is stable.
          at_most_set nodes old.measures other v None entries (side.below other is stable)
          (lost_at_top nodes player other v game won apart is stable lost);
      raised = raised_more nodes player old.measures (set old.measures v None) raises sum (v ∷ []) side.raised
          (None, lost.node, inr (lost, some, refl), refl) counted;
      entries = wakes.entries ∙ side.entries;
      due = topped_due nodes player old.measures before after v here side.due wakes;
    }

-- at which no lift is due any more
pub top_settled : (nodes : List Node) (player : Player) (old : Content) (v : ℕ) → v < length old.measures
    → ¬ IsDue nodes player (with_measure old v None).measures v
top_settled nodes player old v lt due =
    let top : measure_at (set old.measures v None) v ≡ None = get_or-set_same old.measures v None None lt in
    let some : IsSome (measure_at (set old.measures v None) v) = due_below_top due.0 (measure_at (set old.measures v None) v) due.1.above in
    false≢true (rw top at some)

-- once no place is pending, the table is the least in which no lift is due
pub ended_least : (nodes : List Node) (player : Player) (content : Content) (pending : Pending) (raises : ℕ) → HasEnded nodes player content pending raises
    → IsLeastStable nodes player content.measures
ended_least nodes player content pending raises ended = record {
  is_table = ended.side.table.is_table;
  stable = λ v lt due.
      let waiting = ended.side.due v due in
      let not_waiting = ended.idle v (pending_inside pending v waiting) in
      false≢true (same_Some false true (sym not_waiting ∙ waiting));
  least = ended.side.below;
}

-- and its answer is that of a lifting run
pub ended_answer : (nodes : List Node) (player : Player) (content : Content) (pending : Pending) (raises : ℕ) (won : List Bool) (choices : List (Option ℕ))
    → IsGame nodes → RunsLeadToLeastTables → ChoicesAreAStrategy → ChoicesWin → RegionsStayBelowTop
    → HasEnded nodes player content pending raises → won ≡ won_in content.measures
    → AreChoices nodes player content.measures choices → IsAnswerOfRun nodes player won choices
ended_answer nodes player content pending raises won choices game lead strategy win stay ended below_top chosen =
    let least = ended_least nodes player content pending raises ended in
    let led = lead nodes player content.measures game least in
    record {
      exact = rw below_top
          (answer_exact nodes player led.places content.measures choices strategy win stay game least.is_table led.lifted least.stable chosen);
      table = content.measures;
      led_to = led;
      finished = least.stable;
      below_top = below_top;
      chosen = chosen;
    }

-- and so many raises led there
pub ended_raised : (nodes : List Node) (player : Player) (content : Content) (pending : Pending) (raises : ℕ) → HasEnded nodes player content pending raises
    → EndsRaised nodes player raises
ended_raised nodes player content pending raises ended = record {
  table = content.measures;
  raised = ended.side.raised;
  stable = (ended_least nodes player content pending raises ended).stable;
}
