-- The format that options imply if it is not given, and what the options mean then.
use Rattle.std.specs.Prelude.{◌≡◌, ◌≢◌, ◌⊎◌, List, Option, Some, None, ℕ}
use Rattle.omega_cli_command.specs.Conflicts.{IsForFormat, IsUsed}
use Rattle.omega_cli_command.specs.Options.{text_of}
use Rattle.omega_cli_command.specs.Values.{format_name}
use Rattle.omega_cli_command.specs.declared.format.Format.{Format}
use Rattle.omega_cli_command.specs.declared.format.Format.TheVariants.{Aiger, Hoa, Pg}
use Rattle.omega_cli_command.specs.declared.options.OptionName.{OptionName}
use Rattle.omega_cli_command.specs.declared.options.OptionName.TheVariants as name
use Rattle.omega_cli_command.specs.declared.options.Options.{Options}
use Rattle.omega_cli_command.specs.declared.subcommand.Subcommand.{Subcommand}

-- an option is given that goes with this format alone
abbrev pub SpeaksOf : Subcommand → Options → Format → Type 0
SpeaksOf subcommand options format =
    (option : OptionName) × IsForFormat subcommand option format × IsUsed option options

-- the format is the first that an option speaks of: games come before automata, and these before circuits
abbrev pub SpeaksFirstOf : Subcommand → Options → Format → Type 0
SpeaksFirstOf subcommand options Pg = SpeaksOf subcommand options Pg
SpeaksFirstOf subcommand options Hoa =
    SpeaksOf subcommand options Hoa × (SpeaksOf subcommand options Pg → ⊥)
SpeaksFirstOf subcommand options Aiger = SpeaksOf subcommand options Aiger
    × (SpeaksOf subcommand options Pg → ⊥) × (SpeaksOf subcommand options Hoa → ⊥)

-- the format that the options imply: none if it is given, or if they speak of none
abbrev pub ImpliesFormat : Subcommand → Options → Option Format → Type 0
ImpliesFormat subcommand options (Some format) =
    (text_of name.Format options ≡ None) × SpeaksFirstOf subcommand options format
ImpliesFormat subcommand options None = (text_of name.Format options ≢ None)
    ⊎ ((format : Format) → SpeaksOf subcommand options format → ⊥)

-- the text that an option has with the format that is implied
abbrev pub text_with : Format → OptionName → Options → Option (List ℕ)
text_with format name.Format options = Some (format_name format)
text_with format option options = text_of option options

-- the options are these with the format that is implied
abbrev pub MeansWith : Option Format → Options → Options → Type 0
MeansWith None options meant = meant ≡ options
MeansWith (Some format) options meant =
    (option : OptionName) → text_of option meant ≡ text_with format option options

-- what the options mean with the subcommand: the same as with the format that they imply
pub record Means (subcommand : Subcommand) (options meant : Options) : Type 0 where
  pub implied : Option Format
  pub is_implied : ImpliesFormat subcommand options implied
  pub is_meant : MeansWith implied options meant
