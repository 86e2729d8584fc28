-- `lifted_uncounted`: what refuses the turns refuses the game, and lifts in turns are not counted.
use Rattle.std.proofs.Common.{inr, rules}
use Rattle.std.proofs.lemmas.Result.{IfOk-weaker}
use Rattle.omega_arrays.specs.Solving.{IsWholeRefusal}
use Rattle.omega_arrays.proofs.Turning.{whole_refused}
use Rattle.omega_arrays.proofs.lifting.lifted_uncounted.Goals as goal

pub returns-in_err-turned-clause-refused : goal.returns-in_err-turned-clause-refused
returns-in_err-turned-clause-refused c =
    let refused : IsWholeRefusal c.args.game.now c.args.budget c.in_err-turned.field-0.0 =
    whole_refused c.args.game.now c.args.budget c.in_err-turned.field-0.0 c.in_err-turned.ensures.refused in
    search rules

pub returns-clause-lifts : goal.returns-clause-lifts
returns-clause-lifts c = IfOk-weaker c.solution_by_lifting.result _ _ (λ found ended. inr ended) c.solution_by_lifting.ensures.lifts
