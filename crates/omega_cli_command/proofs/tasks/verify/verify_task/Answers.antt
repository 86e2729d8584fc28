-- `verify_task`: a counter-strategy needs a specification, or a formula in its place; lists of names need a formula.
use Rattle.std.proofs.Common.{◌≡◌, None, inr, refl, rules, sym}
use Rattle.omega_cli_command.specs.Options.{text_of}
use Rattle.omega_cli_command.specs.declared.options.OptionName.TheVariants as name
use Rattle.omega_cli_command.proofs.Given.{some_read}
use Rattle.omega_cli_command.proofs.tasks.verify.verify_task.Goals.{then-is_some-via-then-is_some, then-is_some-via-else-is_some+then-is_some-2}
use Rattle.omega_cli_command.proofs.tasks.verify.verify_task.Goals as goal

pub returns-then-is_some-clause-mistaken : goal.returns-then-is_some-clause-mistaken
returns-then-is_some-clause-mistaken c =
    let no_formula : text_of name.Formula c.args.options.now ≡ None = search rules in
    inr (elim c.then-is_some.branch [
      | then-is_some-via-then-is_some w ↦ record {
        one = name.Outs;
        needed = (inr refl, refl);
        one_used = some_read _ c.args.options.now.outs (sym w.if-is_some.ensures);
        missing = λ used. used no_formula;
      }
      | then-is_some-via-else-is_some+then-is_some-2 w ↦ record {
        one = name.Ins;
        needed = (inr refl, refl);
        one_used = some_read _ c.args.options.now.ins (sym w.if-is_some-2.ensures);
        missing = λ used. used no_formula;
      }
    ])

pub returns-then-counter_strategy-clause-mistaken : goal.returns-then-counter_strategy-clause-mistaken
returns-then-counter_strategy-clause-mistaken c =
    let no_specification : text_of name.Specification c.args.options.now ≡ None = search rules in
    let no_formula : text_of name.Formula c.args.options.now ≡ None = search rules in
    inr (record {
      one = name.CounterStrategy;
      needed = (refl, refl, no_formula);
      one_used = rw c.if-counter_strategy.true at c.in_ok-counter_strategy.ensures.given;
      missing = λ used. used no_specification;
    })
