-- `solution_in_turns`: what is right for each budget that the bounds are within is exact, and no budget refuses it.
use Rattle.std.proofs.Common.{rules}
use Rattle.std.proofs.lemmas.Option.{IfSome_then}
use Rattle.std.proofs.lemmas.Result.{IfOk-weaker}
use Rattle.omega_answers_game.specs.declared.solve.asked.Asked.TheVariants.{Both}
use Rattle.omega_answers_game.specs.solve.Refusing.{IsWideRefusal}
use Rattle.omega_answers_game.proofs.TurningGames.{exact_by_bounds, wide_refused}
use Rattle.omega_answers_game.proofs.solve.both.solution_in_turns.Goals as goal

pub returns-in_err-fits_both-clause-refused : goal.returns-in_err-fits_both-clause-refused
returns-in_err-fits_both-clause-refused c =
    let refused : IsWideRefusal c.args.game.now Both c.in_err-fits_both.field-0.0 =
    wide_refused c.args.game.now c.in_err-fits_both.field-0.0 c.in_err-fits_both.ensures.refused in
    search rules

pub returns-clause-exact : goal.returns-clause-exact
returns-clause-exact c =
    IfOk-weaker c.turned_solution-turned.result _ _
    (λ found right. IfSome_then found right (λ solution by_bounds. exact_by_bounds c.args.game.now solution by_bounds))
    c.turned_solution-turned.ensures.right
