-- The choices win.
use Rattle.omega_lift_laws.proofs.Choosing.{choices_winning}
use Rattle.omega_lift_laws.proofs.answers.choices_win.Goals as goal

pub returns : goal.returns
returns c = choices_winning
