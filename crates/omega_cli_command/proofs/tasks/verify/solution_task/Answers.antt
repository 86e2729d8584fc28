-- `solution_task`: names need an explanation.
use Rattle.std.proofs.Common.{inr, refl}
use Rattle.omega_cli_command.specs.Options.{text_of}
use Rattle.omega_cli_command.specs.declared.options.OptionName.TheVariants as name
use Rattle.omega_cli_command.proofs.Given.{unset}
use Rattle.omega_cli_command.proofs.tasks.verify.solution_task.Goals as goal

pub returns-then-not-explain-clause-mistaken : goal.returns-then-not-explain-clause-mistaken
returns-then-not-explain-clause-mistaken c =
    inr (record {
      one = name.Names;
      needed = (refl, refl);
      one_used = rw c.if-names-2.true at c.requires.names;
      missing = unset (text_of name.Explain c.args.options.now) (rw c.if-not-explain.true at c.requires.explain);
    })
