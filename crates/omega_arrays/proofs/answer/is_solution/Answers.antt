-- `is_solution`: strategies that choose exactly where the owner wins are a solution.
use Rattle.omega_game_values.specs.declared.player.Player.TheVariants.{One, Zero}
use Rattle.omega_game_values.specs.Winning.{IsStrategy}
use Rattle.omega_arrays.proofs.Answering.{held_iff}
use Rattle.omega_arrays.proofs.answer.is_solution.Goals as goal

pub returns : goal.returns
returns c =
    let zero : IsStrategy c.args.game.now Zero c.args.solution.now.zero.choice = c.fits.ensures.0 c.if-not-fits.false in
    let one : IsStrategy c.args.game.now One c.args.solution.now.one.choice = c.fits-2.ensures.0 c.if-not-fits-2.false in
    held_iff c.args.game.now c.args.winners.now c.args.choices.now c.args.solution.now c.chooses_where_won.result c.requires.held
    c.requires.winners zero one c.chooses_where_won.ensures
