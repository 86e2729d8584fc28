-- `choices_are_told`: there is one first state of which two edges can be taken together.
use Rattle.omega_hoa_diagnostics.proofs.ChoicesTold.{choices_told}
use Rattle.omega_hoa_diagnostics.proofs.choice_laws.choices_are_told.Goals as goal

pub returns : goal.returns
returns c = choices_told
