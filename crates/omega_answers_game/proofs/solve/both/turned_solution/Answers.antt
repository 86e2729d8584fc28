-- `turned_solution`: what was found for both players in turns is a right solution, and memory alone refuses it.
use Rattle.std.proofs.Common.{◌≡◌, List, rules, subst}
use Rattle.omega_text.specs.declared.refusal.Refusal.TheVariants.{Memory}
use Rattle.omega_game_values.specs.Game.{Node, priorities}
use Rattle.omega_solve.specs.Turns.{IsTurnsRefusal}
use Rattle.omega_answers_game.proofs.TurningGames.{memory_alone, right_turned}
use Rattle.omega_answers_game.proofs.solve.both.turned_solution.Goals as goal

pub returns-in_err-found-clause-memory : goal.returns-in_err-found-clause-memory
returns-in_err-found-clause-memory c =
    let there = subst (λ (nodes : List Node). IsTurnsRefusal (priorities nodes) c.in_err-found.field-0.0) c.requires.given c.in_err-found.ensures.refused in
    let same : c.in_err-found.field-0.0 ≡ Memory = memory_alone c.args.game.now c.in_err-found.field-0.0 c.requires.narrow there in
    search rules

pub returns-in_ok-solution-in-Some-clause-right : goal.returns-in_ok-solution-in-Some-clause-right
returns-in_ok-solution-in-Some-clause-right c =
    let made = c.in_ok-solution-in-Some in
    right_turned c.args.game.now c.args.reordered.now.given c.in-Some.both made.solution c.requires.given c.keeps_limits.ensures.game
    c.requires.narrow (rw c.in-Some.is at c.in_ok-found.ensures.zero) (rw c.in-Some.is at c.in_ok-found.ensures.one)
    made.ensures.winners made.ensures.zero made.ensures.one c.regions_are_apart.ensures c.regions_cover.ensures
