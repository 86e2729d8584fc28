-- `automaton_task`: what goes with lifting needs it, and what is written in binary is a circuit.
use Rattle.std.proofs.Common.{inr, refl, sym}
use Rattle.omega_cli_command.specs.Options.{text_of}
use Rattle.omega_cli_command.specs.declared.options.OptionName.TheVariants as name
use Rattle.omega_cli_command.proofs.Given.{some_read, unset}
use Rattle.omega_cli_command.proofs.tasks.realize.automaton_task.Goals.{then-is_some-via-then-is_some, then-is_some-via-else-is_some+then-progress}
use Rattle.omega_cli_command.proofs.tasks.realize.automaton_task.Goals as goal

pub returns-then-is_some-clause-mistaken : goal.returns-then-is_some-clause-mistaken
returns-then-is_some-clause-mistaken c = inr (elim c.then-is_some.branch [
  | then-is_some-via-then-is_some w ↦ record {
    one = name.Budget;
    needed = (refl, refl);
    one_used = some_read _ c.args.options.now.budget (sym w.if-is_some.ensures);
    missing = unset (text_of name.Lift c.args.options.now) (rw c.if-lift.false at c.in_ok-lift.ensures.given);
  }
  | then-is_some-via-else-is_some+then-progress w ↦ record {
    one = name.Progress;
    needed = (refl, refl);
    one_used = rw w.if-progress.true at c.in_ok-progress.ensures.given;
    missing = unset (text_of name.Lift c.args.options.now) (rw c.if-lift.false at c.in_ok-lift.ensures.given);
  }
])

pub returns-then-binary-clause-mistaken : goal.returns-then-binary-clause-mistaken
returns-then-binary-clause-mistaken c =
    inr (record {
      one = name.Binary;
      needed = (refl, refl);
      one_used = rw c.if-binary.true at c.in_ok-binary.ensures.given;
      missing = unset (text_of name.Aiger c.args.options.now) (rw c.if-aiger.false at c.in_ok-aiger.ensures.given);
    })
