-- The answers of two solvers that are done part the game.
use Rattle.std.proofs.Common.{◌≡◌, ℕ, ◌<◌, ◌⊎◌, Bool, true, false, List, Some, length, refl, subst, sym, ap, ◌∙◌, inl, inr, arith}
use Rattle.std.specs.Option.{IsSome, is_some}
use Rattle.std.proofs.lemmas.Bool.{false≢true}
use Rattle.omega_game_values.specs.declared.player.Player.{Player}
use Rattle.omega_game_values.specs.declared.player.Player.TheVariants.{Zero, One}
use Rattle.omega_game_values.specs.Game.{Node, priorities}
use Rattle.omega_lift_laws.specs.Measure.{Measure}
use Rattle.omega_lift_laws.specs.Allowance.{measure_at}
use Rattle.omega_lift_laws.specs.Answer.{won_in}
use Rattle.omega_lift_laws.specs.Laws.{RegionsStayBelowTop, RunsKeepTables, WonPlacesAreInRegions, ZeroTablesAreTables}
use Rattle.omega_lift_laws.specs.Run.{IsLiftingRun, IsStable, IsTable, zero_table}
use Rattle.omega_game_region_laws.specs.Laws.{RegionsAreApart, RegionsCover}
use Rattle.omega_solve.specs.Determinacy.{AnswersPartTheGame, IsInOne}
use Rattle.omega_solve.specs.Solver.{SolverState, IsFinished, IsReached}
use Rattle.omega_solve.proofs.answers.Exactness.{entries_are, reported_at}

-- a table of the game for the player in which no lift is due, and to which a lifting run leads from the all-zero table
record IsFinal (nodes : List Node) (player : Player) (table : List Measure) : Type 0 where
  pub places : List ℕ
  pub lifted : IsLiftingRun nodes player (zero_table player (priorities nodes)) places table
  pub stable : IsStable nodes player table

-- such is the table of a solver that is done
final : (nodes : List Node) (player : Player) (state : SolverState) → state.nodes ≡ nodes → state.player ≡ player
    → IsReached state → IsFinished state → IsFinal nodes player state.table.measures
final nodes player state same_nodes same_player reached finished =
    subst (λ (n : List Node). IsFinal n player state.table.measures) same_nodes
    (subst (λ (p : Player). IsFinal state.nodes p state.table.measures) same_player
    (record { places = reached.places; lifted = reached.lifted; stable = finished }))

-- what a lifting run leads to is a table
final_table : (nodes : List Node) (player : Player) (table : List Measure) → ZeroTablesAreTables → RunsKeepTables → IsFinal nodes player table
    → IsTable player (priorities nodes) table
final_table nodes player table zero keep is = keep nodes player _ table is.places (zero player (priorities nodes)) is.lifted

-- a place below top in one table or the other, but not in both, is in exactly one answer
in_one : (zero one : List Measure) (v : ℕ) (b c : Bool) → v < length zero → v < length one
    → is_some (measure_at zero v) ≡ b → is_some (measure_at one v) ≡ c
    → (IsSome (measure_at zero v) ⊎ IsSome (measure_at one v)) → (IsSome (measure_at zero v) → IsSome (measure_at one v) → ⊥)
    → IsInOne (won_in zero) (won_in one) v
in_one zero one v true true in_zero in_one_table b c some apart = absurd (apart b c)
in_one zero one v true false in_zero in_one_table b c some apart =
    inl (reported_at zero v in_zero ∙ ap Some b, reported_at one v in_one_table ∙ ap Some c)
in_one zero one v false true in_zero in_one_table b c some apart =
    inr (reported_at zero v in_zero ∙ ap Some b, reported_at one v in_one_table ∙ ap Some c)
in_one zero one v false false in_zero in_one_table b c some apart = elim some [
  | inl here ↦ absurd (false≢true (sym b ∙ here))
  | inr here ↦ absurd (false≢true (sym c ∙ here))
]

-- each node is in exactly one answer
pub parted : ZeroTablesAreTables → RunsKeepTables → RegionsStayBelowTop → WonPlacesAreInRegions → RegionsCover → RegionsAreApart
    → AnswersPartTheGame
parted zeroes keep stay won cover apart nodes zero one v game zero_nodes one_nodes zero_player one_player zero_reached one_reached
    zero_finished one_finished lt =
    let zeros : List Measure = zero.table.measures in
    let ones : List Measure = one.table.measures in
    let zero_final : IsFinal nodes Zero zeros = final nodes Zero zero zero_nodes zero_player zero_reached zero_finished in
    let one_final : IsFinal nodes One ones = final nodes One one one_nodes one_player one_reached one_finished in
    let zero_table = final_table nodes Zero zeros zeroes keep zero_final in
    let one_table = final_table nodes One ones zeroes keep one_final in
    let some : IsSome (measure_at zeros v) ⊎ IsSome (measure_at ones v) = elim (cover nodes v game lt) [
      | inl region ↦ inl (stay nodes Zero zero_final.places zeros v game zero_final.lifted region)
      | inr region ↦ inr (stay nodes One one_final.places ones v game one_final.lifted region)
    ] in
    in_one zeros ones v (is_some (measure_at zeros v)) (is_some (measure_at ones v))
    (omega (arith, entries_are nodes Zero zeros zero_table)) (omega (arith, entries_are nodes One ones one_table)) refl refl some
    (λ zero_won one_won.
    apart nodes v game (won nodes Zero zeros v game zero_table zero_final.stable zero_won)
    (won nodes One ones v game one_table one_final.stable one_won))
