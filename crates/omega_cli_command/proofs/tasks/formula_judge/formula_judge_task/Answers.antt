-- `formula_judge_task`: a formula needs one of the lists.
use Rattle.std.proofs.Common.{◌∙◌, inr, refl, sym}
use Rattle.omega_cli_command.specs.declared.options.OptionName.TheVariants as name
use Rattle.omega_cli_command.proofs.Given.{none_read}
use Rattle.omega_cli_command.proofs.tasks.formula_judge.formula_judge_task.Goals as goal

pub returns-then-is_none-2-clause-mistaken : goal.returns-then-is_none-2-clause-mistaken
returns-then-is_none-2-clause-mistaken c =
    inr (record {
      one = name.Formula;
      needed = (inr refl, refl, none_read _ c.args.options.now.ins c.if-is_none-2.ensures);
      one_used = λ none. absurd (cc (sym c.requires.formula ∙ none));
      missing = λ used. used (none_read _ c.args.options.now.outs c.if-is_none.ensures);
    })
