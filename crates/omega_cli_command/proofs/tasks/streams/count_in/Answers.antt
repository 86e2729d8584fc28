-- `count_in`: automata are counted only if there is a stream of them.
use Rattle.std.proofs.Common.{inr, refl, sym}
use Rattle.omega_cli_command.specs.declared.options.OptionName.TheVariants as name
use Rattle.omega_cli_command.proofs.Given.{some_read, unset}
use Rattle.omega_cli_command.proofs.tasks.streams.count_in.Goals as goal

pub returns-then-is_some-clause-mistaken : goal.returns-then-is_some-clause-mistaken
returns-then-is_some-clause-mistaken c = inr (record {
  one = name.AtLeast;
  needed = (c.requires.stream, refl);
  one_used = some_read _ c.args.options.now.at_least (sym c.if-is_some.ensures);
  missing = unset _ (rw c.if-stream.false at c.in_ok-stream.ensures.given);
})
