-- The source of the input.
use Rattle.std.specs.Prelude.{◌≡◌, ◌≢◌, List, Option, Some, None, ℕ, codes, string_bytes}
use Rattle.omega_cli_command.specs.Options.{text_of}
use Rattle.omega_cli_command.specs.declared.options.OptionName.TheVariants as name
use Rattle.omega_cli_command.specs.declared.options.Options.{Options}
use Rattle.omega_cli_command.specs.declared.source.Source.{Source}
use Rattle.omega_cli_command.specs.declared.source.Source.TheVariants as source
use Rattle.omega_cli_command.specs.declared.subcommand.Subcommand.{Subcommand}
use Rattle.omega_cli_command.specs.declared.subcommand.Subcommand.TheVariants as sub

-- the operand: the name of a file; `-`, or no operand, for standard input
abbrev pub GivesOperand : Option (List ℕ) → Source → Type 0
GivesOperand None source.Input = Unit {0}
GivesOperand (Some text) source.Input = text ≡ codes "-"
GivesOperand None (source.File name) = ⊥
GivesOperand (Some text) (source.File name) = (text ≡ string_bytes name) × (text ≢ codes "-")
GivesOperand operand (source.Given text) = ⊥

-- the text that the command line has in place of the input: the formula of `ltl` or of `realize`, or the word of
-- `satisfies`
abbrev pub given_text : Subcommand → Options → Option (List ℕ)
given_text sub.Ltl options = text_of name.Formula options
given_text sub.Realize options = text_of name.Formula options
given_text sub.Satisfies options = text_of name.WordText options
given_text other options = None

-- the text of the command line, if it has one, or else what the operand gives
abbrev pub GivesText : (given operand : Option (List ℕ)) → Source → Type 0
GivesText None operand input = GivesOperand operand input
GivesText (Some text) operand (source.Given string) = text ≡ string_bytes string
GivesText (Some text) operand source.Input = ⊥
GivesText (Some text) operand (source.File name) = ⊥

-- the source of the input of the subcommand
abbrev pub GivesSource : Subcommand → Options → Source → Type 0
GivesSource subcommand options =
    GivesText (given_text subcommand options) (text_of name.File options)

-- the operand names a file
abbrev pub NamesFile : Option (List ℕ) → Type 0
NamesFile None = ⊥
NamesFile (Some text) = text ≢ codes "-"
