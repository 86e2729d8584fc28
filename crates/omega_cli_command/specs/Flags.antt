-- What is wrong with the text of a flag.
use Rattle.std.specs.Prelude.{◌≡◌, Bool, List, Option, Some, ℕ}
use Rattle.omega_cli_command.specs.Values.{IsTruthText}
use Rattle.omega_cli_command.specs.declared.mistake.Mistake.{Mistake}
use Rattle.omega_cli_command.specs.declared.mistake.Mistake.TheVariants as mistake
use Rattle.omega_cli_command.specs.declared.mistake.Reason.TheVariants as reason
use Rattle.omega_cli_command.specs.declared.options.OptionName.{OptionName}

-- the mistake is that the text of the option is neither true nor false
abbrev pub IsNoTruth : OptionName → Option (List ℕ) → Mistake → Type 0
IsNoTruth option text (mistake.Value other found why) = (other ≡ option) × (text ≡ Some found.now)
    × ((flag : Bool) → IsTruthText found.now flag → ⊥) × (why ≡ reason.NoTruth)
IsNoTruth option text (mistake.Missing other) = ⊥
IsNoTruth option text mistake.Unknown = ⊥
IsNoTruth option text (mistake.Conflict one other) = ⊥
IsNoTruth option text (mistake.OnlyWith other format) = ⊥
IsNoTruth option text mistake.Memory = ⊥
