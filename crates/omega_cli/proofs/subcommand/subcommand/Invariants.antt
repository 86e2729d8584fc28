-- What holds in the loop of `subcommand`: with the options that are left, the command is the subcommand.
use Rattle.std.proofs.Common.{◌≡◌, drop, map}
use Rattle.clap.specs.Words.{app_of}
use Rattle.omega_cli.specs.Program.{with_options}
use Rattle.omega_cli.specs.private.building.Building.{rule_for, with_rules}
use Rattle.omega_cli.proofs.subcommand.subcommand.Given as goal

abbrev pub invariant-loop-option : goal.invariant-loop-option
invariant-loop-option l =
    (with_rules (app_of l.command) (map rule_for (drop l.option-index l.options))).top ≡ with_options l.name (map rule_for l.options)
