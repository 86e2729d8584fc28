-- `plain_options_are_kept`: by cases over what is requested.
use Rattle.omega_cli_command.proofs.Kept.{kept}
use Rattle.omega_cli_command.proofs.laws.plain_options_are_kept.Goals as goal

pub returns : goal.returns
returns c = kept
