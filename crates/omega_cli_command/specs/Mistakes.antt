-- What is wrong with a subcommand, or with its options.
use Rattle.std.specs.Prelude.{◌≡◌, ◌⊎◌, List, Some, ℕ}
use Rattle.omega_cli_command.specs.Conflicts.{IsConflict, IsOfOtherFormat, IsWanting}
use Rattle.omega_cli_command.specs.Faulty.{IsFaulty}
use Rattle.omega_cli_command.specs.Formats.{LeavesFormat}
use Rattle.omega_cli_command.specs.Implied.{Means}
use Rattle.omega_cli_command.specs.Options.{text_of}
use Rattle.omega_cli_command.specs.Subcommands.{HasOption}
use Rattle.omega_cli_command.specs.Values.{format_name}
use Rattle.omega_cli_command.specs.declared.format.Format.TheVariants.{Aiger}
use Rattle.omega_cli_command.specs.declared.mistake.Mistake.{Mistake}
use Rattle.omega_cli_command.specs.declared.mistake.Mistake.TheVariants as mistake
use Rattle.omega_cli_command.specs.declared.mistake.Reason.{Reason}
use Rattle.omega_cli_command.specs.declared.mistake.Reason.TheVariants as reason
use Rattle.omega_cli_command.specs.declared.options.OptionName.{OptionName}
use Rattle.omega_cli_command.specs.declared.options.OptionName.TheVariants as name
use Rattle.omega_cli_command.specs.declared.options.Options.{Options}
use Rattle.omega_cli_command.specs.declared.subcommand.Subcommand.{Subcommand}
use Rattle.omega_cli_command.specs.declared.subcommand.Subcommand.TheVariants as sub

-- `draw` is given the format whose texts are not drawn
pub record IsUndrawn (subcommand : Subcommand) (options : Options) (option : OptionName)
    (text : List ℕ) (why : Reason) : Type 0 where
  pub drawn : subcommand ≡ sub.Draw
  pub of_format : option ≡ name.Format
  pub given : text_of name.Format options ≡ Some text
  pub is_circuit : text ≡ format_name Aiger
  pub is_reason : why ≡ reason.NotDrawn

-- what is wrong: memory is wanting, or options are. Then an option is faulty, one lacks another that it needs, two
-- conflict, one is for another format, or the format is of texts that are not drawn. A format is missing only if it is
-- not left to a text, a formula only if it is not that of a file, and a word only if it is not the words of an
-- automaton
abbrev pub IsMistake : Subcommand → Options → Mistake → Type 0
IsMistake subcommand options mistake.Unknown = ⊥
IsMistake subcommand options mistake.Memory = Unit {0}
IsMistake subcommand options (mistake.Conflict one other) = IsConflict subcommand options one other
IsMistake subcommand options (mistake.OnlyWith option format) =
    IsOfOtherFormat subcommand options option format
IsMistake subcommand options (mistake.Missing option) =
    (HasOption subcommand option × IsFaulty option options (mistake.Missing option)
    × (option ≡ name.Format → LeavesFormat options → ⊥)
    × (option ≡ name.Formula → subcommand ≡ sub.Satisfies)
    × (option ≡ name.WordText → subcommand ≡ sub.Accepts))
    ⊎ IsWanting subcommand options option
IsMistake subcommand options (mistake.Value option text reason) = HasOption subcommand option
    × (IsFaulty option options (mistake.Value option text reason)
    ⊎ IsUndrawn subcommand options option text.now reason)

-- what is wrong with what the options mean
abbrev pub IsWrong : Subcommand → Options → Mistake → Type 0
IsWrong subcommand options found =
    (meant : Options) × Means subcommand options meant × IsMistake subcommand meant found
