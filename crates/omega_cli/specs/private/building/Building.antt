-- How the command line is put together from the options and the subcommands as help shows them.
use Rattle.std.specs.Prelude.{List, [], ◌∷◌, true, codes}
use Rattle.clap.specs.Simple.{new_shape}
use Rattle.clap.specs.Words.{App, Rule, Shape, Text, with_rule, with_subcommand}
use Rattle.omega_cli.specs.Program.{accepts, automaton, canon, check, complement, contained, draw}
use Rattle.omega_cli.specs.Program.{empty, equal, flag, game, join, lettered, ltl, meet, named}
use Rattle.omega_cli.specs.Program.{operand, optional}
use Rattle.omega_cli.specs.Program.{optional_as, optional_lettered, optional_repeated, realize}
use Rattle.omega_cli.specs.Program.{required, required_as, required_repeated, satisfies, show, solve}
use Rattle.omega_cli.specs.Program.{trim, verify}
use Rattle.omega_cli.specs.declared.options.OptionHelp.{OptionHelp}
use Rattle.omega_cli.specs.declared.options.Value.{Value}
use Rattle.omega_cli.specs.declared.options.Value.TheVariants as value
use Rattle.omega_cli_command.specs.declared.subcommand.Subcommand.{Subcommand}
use Rattle.omega_cli_command.specs.declared.subcommand.Subcommand.TheVariants as subcommand

-- the option of this name, by what follows the name
abbrev pub rule_by : Value → Text → Rule
rule_by value.None name = flag name
rule_by (value.Letter letter) name = lettered letter name
rule_by (value.Long shown) name = named shown.now name
rule_by (value.Optional shown) name = optional name
rule_by (value.OptionalLettered letter shown) name = optional_lettered letter name
rule_by (value.OptionalRepeated letter shown) name = optional_repeated letter name
rule_by (value.OptionalAs long shown) name = optional_as long.now name
rule_by (value.Required shown) name = required name
rule_by (value.RequiredRepeated letter shown) name = required_repeated letter name
rule_by (value.RequiredAs long shown) name = required_as long.now name
rule_by (value.Operand shown) name = operand name

-- the option that help shows so
abbrev pub rule_for : OptionHelp → Rule
rule_for option = rule_by option.value option.name.now

-- the subcommand of this variant
abbrev pub shape_for : Subcommand → Shape
shape_for subcommand.Show = show
shape_for subcommand.Check = check
shape_for subcommand.Canon = canon
shape_for subcommand.Solve = solve
shape_for subcommand.Verify = verify
shape_for subcommand.Empty = empty
shape_for subcommand.Game = game
shape_for subcommand.Automaton = automaton
shape_for subcommand.Accepts = accepts
shape_for subcommand.Contained = contained
shape_for subcommand.Equal = equal
shape_for subcommand.Satisfies = satisfies
shape_for subcommand.Meet = meet
shape_for subcommand.Join = join
shape_for subcommand.Complement = complement
shape_for subcommand.Trim = trim
shape_for subcommand.Ltl = ltl
shape_for subcommand.Realize = realize
shape_for subcommand.Draw = draw

-- the command with these options more
abbrev pub with_rules : App → List Rule → App
with_rules app [] = app
with_rules app (rule ∷ rules) = with_rules (with_rule app rule) rules

-- the command with these subcommands more
abbrev pub with_subcommands : App → List Shape → App
with_subcommands app [] = app
with_subcommands app (shape ∷ shapes) = with_subcommands (with_subcommand app shape) shapes

-- what is said of the program as a whole
abbrev pub without_subcommands : App
without_subcommands = record {
  top = record (new_shape (codes "omega")) { has_version = true; subcommand_required = true };
  subs = [];
}
