-- What a subcommand asks for that reads formulas, and the text of the input.
use Rattle.std.specs.Prelude.{◌≡◌, ◌≢◌, List, None, ℕ}
use Rattle.omega_cli_command.specs.Options.{GivesFormulas, GivesOne, GivesStream, text_of}
use Rattle.omega_cli_command.specs.Values.{GivesFlag}
use Rattle.omega_cli_command.specs.declared.formulas.Formulas.{Formulas}
use Rattle.omega_cli_command.specs.declared.formulas.Formulas.TheVariants as asked
use Rattle.omega_cli_command.specs.declared.options.OptionName.TheVariants as name
use Rattle.omega_cli_command.specs.declared.options.Options.{Options}
use Rattle.omega_cli_command.specs.declared.subcommand.Subcommand.{Subcommand}
use Rattle.omega_cli_command.specs.declared.subcommand.Subcommand.TheVariants as sub

-- the subcommand, with these options, asks for this of the text of the input by these formulas
abbrev pub AsksFormulas : Subcommand → Options → Formulas → List (List ℕ) → Type 0
AsksFormulas subcommand options (asked.Equal explain) formulas = (subcommand ≡ sub.Equal)
    × GivesFormulas options formulas × GivesFlag (text_of name.Explain options) explain
    × (text_of name.To options ≡ None)
AsksFormulas subcommand options (asked.Satisfies explain) formulas = (subcommand ≡ sub.Satisfies)
    × GivesFormulas options formulas × GivesFlag (text_of name.Explain options) explain
    × GivesOne options × (text_of name.WordText options ≡ None)
AsksFormulas subcommand options (asked.SatisfiesStream explain at_least) formulas =
    (subcommand ≡ sub.Satisfies) × GivesFormulas options formulas
    × GivesFlag (text_of name.Explain options) explain
    × GivesStream options at_least × (text_of name.WordText options ≡ None)
AsksFormulas subcommand options (asked.SatisfiesWord explain) formulas =
    (subcommand ≡ sub.Satisfies) × GivesFormulas options formulas
    × GivesFlag (text_of name.Explain options) explain
    × GivesOne options × (text_of name.WordText options ≢ None)
    × (text_of name.File options ≡ None)
