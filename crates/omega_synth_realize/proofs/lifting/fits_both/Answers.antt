-- a game that is too wide for neither player
use Rattle.std.proofs.Common.{refl}
use Rattle.omega_synth_realize.proofs.Strategies.{by_player}
use Rattle.omega_synth_realize.proofs.lifting.fits_both.Goals as goal

pub returns-clause-narrow : goal.returns-clause-narrow
returns-clause-narrow c = λ ok. by_player c.args.game.now (c.in_ok-fits_for.ensures.narrow refl) (c.fits_for-2.ensures.narrow ok)
