-- `lifted`: a game that is too wide for a player is refused first.
use Rattle.std.proofs.Common.{None, rules}
use Rattle.omega_answers_game.specs.declared.solve.asked.Asked.TheVariants.{Both}
use Rattle.omega_answers_game.specs.solve.Refusing.{IsSolveGameRefusal}
use Rattle.omega_answers_game.proofs.Solving.{refused-wide}
use Rattle.omega_arrays.proofs.lifting.solution_by_lifting.Goals as goal

pub returns-in_err-fits_both-clause-refused : goal.returns-in_err-fits_both-clause-refused
returns-in_err-fits_both-clause-refused c =
    let refused : IsSolveGameRefusal c.args.game.now Both None c.args.budget c.in_err-fits_both.field-0.0 =
    refused-wide c.args.game.now Both c.args.budget _ c.in_err-fits_both.ensures.refused in
    search rules
