-- A game that is too wide for neither player is too wide for none.
use Rattle.std.proofs.Common.{refl}
use Rattle.std.proofs.lemmas.Result.{IfErr-weaker}
use Rattle.omega_game_values.specs.declared.player.Player.TheVariants.{One}
use Rattle.omega_answers_game.proofs.Solutions.{by_player}
use Rattle.omega_answers_game.proofs.solve.both.fits_both.Goals as goal

pub returns-clause-narrow : goal.returns-clause-narrow
returns-clause-narrow c = λ ok. by_player c.args.game.now (c.in_ok-fits_for.ensures.narrow refl) (c.fits_for-2.ensures.narrow ok)

pub returns-clause-refused : goal.returns-clause-refused
returns-clause-refused c = IfErr-weaker c.fits_for-2.result _ _ (λ refusal why. (why.0, record { player = One; solved_for = tt; wide = why.1 })) c.fits_for-2.ensures.refused
