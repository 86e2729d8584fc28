-- `lasso_against`: a lasso that shows why choices that are a strategy of the player do not win, none where they do.
use Rattle.std.proofs.Common.{List, Bool, ℕ, refl, sym, subst, arith}
use Rattle.omega_game_reaching.specs.Reaching.{AreReached}
use Rattle.omega_game_reaching.proofs.Marking.{priorities_low}
use Rattle.omega_game.specs.declared.checking.decision.Decision.{Decision}
use Rattle.omega_game.specs.private.checking.Decision.{IsLosingPlace, IsRightDecision}
use Rattle.omega_game.specs.private.refuting.Ways.{IsCycle, LeadsTo}
use Rattle.omega_game.proofs.walks.Closing.{reached_closed}
use Rattle.omega_game.proofs.walks.Recurrence.{choices_of_strategy, wins_if_none, none_if_wins}
use Rattle.omega_game.proofs.walks.Deciding.{lost_place}
use Rattle.omega_game.proofs.walks.Lassos.{lasso_loses}
use Rattle.omega_game.proofs.refuting.lasso_against.Goals as goal

pub followed_from-requires-clause-choices : goal.followed_from-requires-clause-choices
followed_from-requires-clause-choices c =
    choices_of_strategy c.args.game.now c.args.player c.args.choices.now c.keeps_limits.ensures.game c.requires.strategy

pub decide-requires-clause-choices : goal.decide-requires-clause-choices
decide-requires-clause-choices c =
    choices_of_strategy c.args.game.now c.args.player c.args.choices.now c.keeps_limits.ensures.game c.requires.strategy

pub decide-requires-clause-closed : goal.decide-requires-clause-closed
decide-requires-clause-closed c =
    let low = priorities_low c.args.game.now 4294967295 c.keeps_limits.ensures.limits (omega arith) in
    let reached = subst (λ (m : List Bool). AreReached c.args.game.now c.args.choices.now 4294967295 c.args.places.now m) (sym c.deref.ensures.value) c.in_ok-marks.ensures.reached in
    reached_closed c.args.game.now c.args.choices.now 4294967295 low c.args.places.now c.deref.result.now reached

pub way_to-requires-clause-choices : goal.way_to-requires-clause-choices
way_to-requires-clause-choices c =
    choices_of_strategy c.args.game.now c.args.player c.args.choices.now c.keeps_limits.ensures.game c.requires.strategy

pub cycle_at-requires-clause-choices : goal.cycle_at-requires-clause-choices
cycle_at-requires-clause-choices c =
    choices_of_strategy c.args.game.now c.args.player c.args.choices.now c.keeps_limits.ensures.game c.requires.strategy

pub returns-in-Wins-clause-none : goal.returns-in-Wins-clause-none
returns-in-Wins-clause-none c =
    let low = priorities_low c.args.game.now 4294967295 c.keeps_limits.ensures.limits (omega arith) in
    let reached = subst (λ (m : List Bool). AreReached c.args.game.now c.args.choices.now 4294967295 c.args.places.now m) (sym c.deref.ensures.value) c.in_ok-marks.ensures.reached in
    let none = subst (λ (d : Decision). IsRightDecision c.args.game.now c.args.player c.args.choices.now c.deref.result.now d) c.in-Wins.is c.in_ok-decide.ensures.right in (
      λ no_lasso. wins_if_none c.args.game.now c.args.player c.args.choices.now c.keeps_limits.ensures.game c.requires.strategy 4294967295 low c.args.places.now
          c.deref.result.now reached none,
      λ wins. refl,
    )

pub returns-clause-none : goal.returns-clause-none
returns-clause-none c =
    let low = priorities_low c.args.game.now 4294967295 c.keeps_limits.ensures.limits (omega arith) in
    let reached = subst (λ (m : List Bool). AreReached c.args.game.now c.args.choices.now 4294967295 c.args.places.now m) (sym c.deref.ensures.value) c.in_ok-marks.ensures.reached in
    let lost = subst (λ (d : Decision). IsRightDecision c.args.game.now c.args.player c.args.choices.now c.deref.result.now d) c.in-Loses.is c.in_ok-decide.ensures.right in (
      λ no_lasso. absurd (cc),
      λ wins. absurd (lost_place c.args.game.now c.args.player c.args.choices.now c.deref.result.now c.in-Loses.place lost
          (none_if_wins c.args.game.now c.args.player c.args.choices.now c.keeps_limits.ensures.game c.requires.strategy 4294967295 low c.args.places.now
          c.deref.result.now reached c.requires.places wins)),
    )

pub returns-clause-lasso : goal.returns-clause-lasso
returns-clause-lasso c =
    let lost : IsLosingPlace c.args.game.now c.args.player c.args.choices.now c.deref.result.now c.in-Loses.place =
    subst (λ (d : Decision). IsRightDecision c.args.game.now c.args.player c.args.choices.now c.deref.result.now d) c.in-Loses.is c.in_ok-decide.ensures.right in
    let there = subst (λ (ws : List ℕ). LeadsTo c.args.game.now c.args.choices.now 4294967295 c.args.places.now c.in-Loses.place ws) (sym c.from_vec.ensures) c.in_ok-stem-in-Loses.ensures.way in
    let around = subst (λ (ws : List ℕ). IsCycle c.args.game.now c.args.choices.now c.in-Loses.place ws) (sym c.from_vec-in-Loses.ensures) c.in_ok-cycle-in-Loses.ensures.cycle in
    lasso_loses c.args.game.now c.args.player c.args.choices.now c.keeps_limits.ensures.game c.requires.strategy 4294967295 c.args.places.now c.in-Loses.place
    (record { stem = c.from_vec.result; cycle = c.from_vec-in-Loses.result }) c.requires.places lost.losing there around
