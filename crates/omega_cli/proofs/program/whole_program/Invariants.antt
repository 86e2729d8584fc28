-- What holds in the loop of `whole_program`: with the subcommands that are left, the command is the program.
use Rattle.std.proofs.Common.{◌≡◌, drop, map}
use Rattle.clap.specs.Words.{app_of}
use Rattle.omega_cli.specs.Program.{program}
use Rattle.omega_cli.specs.private.building.Building.{shape_for, with_subcommands}
use Rattle.omega_cli.proofs.program.whole_program.Given as goal

abbrev pub invariant-loop-subcommand : goal.invariant-loop-subcommand
invariant-loop-subcommand l = with_subcommands (app_of l.program) (map shape_for (drop l.subcommand-index l.subcommands)) ≡ program
