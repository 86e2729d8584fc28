-- `speaks_of_automata`: an option that is given is one that goes with automata alone.
use Rattle.std.proofs.Common.{inl, inr, refl, sym}
use Rattle.omega_cli_command.specs.declared.options.OptionName.TheVariants as name
use Rattle.omega_cli_command.proofs.Given.{some_read}
use Rattle.omega_cli_command.proofs.implied.speaks_of_automata.Goals as goal

pub returns-in-Draw-clause-given : goal.returns-in-Draw-clause-given
returns-in-Draw-clause-given c given = (name.Lasso, inl (c.in-Draw.is, refl), c.is_on.ensures.set given)

pub returns-in-Check-clause-given : goal.returns-in-Check-clause-given
returns-in-Check-clause-given c given =
    (name.AtLeast, inr (c.in-Check.is, refl), some_read _ c.args.options.now.at_least (rw given at (sym c.is_some.ensures)))
