-- Which mistakes are written with the usage of the subcommand.
use Rattle.std.specs.Prelude.{Bool, false, true}
use Rattle.omega_cli_command.specs.declared.mistake.Mistake.{Mistake}
use Rattle.omega_cli_command.specs.declared.mistake.Mistake.TheVariants as mistake

-- those of options that do not go together, and of one that is missing
abbrev pub has_usage : Mistake → Bool
has_usage mistake.Unknown = false
has_usage (mistake.Missing _) = true
has_usage (mistake.Value _ _ _) = false
has_usage (mistake.Conflict _ _) = true
has_usage (mistake.OnlyWith _ _) = true
has_usage mistake.Memory = false
