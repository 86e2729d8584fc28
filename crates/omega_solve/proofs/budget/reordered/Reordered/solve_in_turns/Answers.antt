-- Tables of the reordered game are as wide, and its answers are those of the game that was given.
use Rattle.std.proofs.Common.{List, refl, rules, subst}
use Rattle.omega_game_values.specs.Game.{Node, priorities}
use Rattle.omega_solve.specs.Turns.{IsNarrow, IsTurnsRefusal}
use Rattle.omega_solve.proofs.within_budget.Turning.{narrow_given, turns_refused}
use Rattle.omega_solve.proofs.budget.reordered.Reordered.solve_in_turns.Goals as goal

pub returns-in_err-found-clause-refused : goal.returns-in_err-found-clause-refused
returns-in_err-found-clause-refused c =
    let self = c.args.self.now in
    let there = subst (λ (nodes : List Node). IsTurnsRefusal (priorities nodes) c.in_err-found.field-0.0) c.reordered_game-game.ensures
    c.in_err-found.ensures.refused in
    let refused : IsTurnsRefusal (priorities self.given) c.in_err-found.field-0.0 =
    turns_refused self.given self.reordered self.positions self.places c.keeps_nodes.ensures.reordered c.in_err-found.field-0.0 there in
    search rules

pub returns-in_ok-answers-in-Some-clause-fits : goal.returns-in_ok-answers-in-Some-clause-fits
returns-in_ok-answers-in-Some-clause-fits c _ =
    let self = c.args.self.now in
    narrow_given self.given self.reordered self.positions self.places c.keeps_nodes.ensures.reordered
    (subst IsNarrow c.reordered_game-game.ensures (c.in_ok-found.ensures.fits refl))

pub returns-in-None-clause-fits : goal.returns-in-None-clause-fits
returns-in-None-clause-fits c _ =
    let self = c.args.self.now in
    narrow_given self.given self.reordered self.positions self.places c.keeps_nodes.ensures.reordered
    (subst IsNarrow c.reordered_game-game.ensures (c.in_ok-found.ensures.fits refl))
