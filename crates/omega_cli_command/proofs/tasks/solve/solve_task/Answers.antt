-- `solve_task`: what goes with a search needs it.
use Rattle.std.proofs.Common.{inr, refl, sym}
use Rattle.omega_cli_command.specs.Options.{text_of}
use Rattle.omega_cli_command.specs.declared.options.OptionName.TheVariants as name
use Rattle.omega_cli_command.proofs.Given.{some_read, unset}
use Rattle.omega_cli_command.proofs.tasks.solve.solve_task.Goals.{then-is_some-2-via-then-is_some-2, then-is_some-2-via-else-is_some-2+then-is_some-3}
use Rattle.omega_cli_command.proofs.tasks.solve.solve_task.Goals as goal

pub returns-then-is_some-2-clause-mistaken : goal.returns-then-is_some-2-clause-mistaken
returns-then-is_some-2-clause-mistaken c = inr (elim c.then-is_some-2.branch [
  | then-is_some-2-via-then-is_some-2 w ↦ record {
    one = name.By;
    needed = (refl, refl);
    one_used = some_read _ c.args.options.now.by (sym w.if-is_some-2.ensures);
    missing = unset (text_of name.Search c.args.options.now) (rw c.if-search.false at c.in_ok-search.ensures.given);
  }
  | then-is_some-2-via-else-is_some-2+then-is_some-3 w ↦ record {
    one = name.Effort;
    needed = (refl, refl);
    one_used = some_read _ c.args.options.now.effort (sym w.if-is_some-3.ensures);
    missing = unset (text_of name.Search c.args.options.now) (rw c.if-search.false at c.in_ok-search.ensures.given);
  }
])
