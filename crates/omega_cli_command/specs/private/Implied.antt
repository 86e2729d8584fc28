-- The options of `draw` that go with games alone.
use Rattle.std.specs.Prelude.{◌≡◌, None, true}
use Rattle.omega_cli_command.specs.Options.{text_of}
use Rattle.omega_cli_command.specs.Values.{GivesFlag}
use Rattle.omega_cli_command.specs.declared.options.OptionName.TheVariants as name
use Rattle.omega_cli_command.specs.declared.options.Options.{Options}

-- none of them is given, but for `--lenient`
abbrev pub DrawsNothingOfGame : Options → Type 0
DrawsNothingOfGame options = (text_of name.Solution options ≡ None)
    × (text_of name.Walk options ≡ None) × (GivesFlag (text_of name.Legend options) true → ⊥)
    × (text_of name.From options ≡ None) × (text_of name.Depth options ≡ None)
