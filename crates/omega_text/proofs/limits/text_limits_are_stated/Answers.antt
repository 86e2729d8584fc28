-- `text_limits_are_stated`: the limits are the numbers that the definitions state.
use Rattle.std.proofs.Common.{refl}
use Rattle.omega_text.proofs.limits.text_limits_are_stated.Goals as goal

pub returns-clause-text : goal.returns-clause-text
returns-clause-text c = refl

pub returns-clause-number : goal.returns-clause-number
returns-clause-number c = refl
