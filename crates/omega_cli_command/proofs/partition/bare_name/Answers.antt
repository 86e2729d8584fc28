-- `bare_name`: what is left between the white space.
use Rattle.std.proofs.Common.{refl}
use Rattle.std.proofs.lemmas.Str.Ascii.{trim_ascii_is}
use Rattle.omega_cli_command.specs.Partition.{without_front}
use Rattle.omega_cli_command.proofs.partition.bare_name.Goals as goal

pub returns : goal.returns
returns c = trim_ascii_is c.args.text.now c.trim_ascii.result.now (without_front c.args.text.now) refl c.trim_ascii.ensures.value
