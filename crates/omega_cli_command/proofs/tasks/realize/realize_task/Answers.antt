-- `realize_task`: lists of names need a formula.
use Rattle.std.proofs.Common.{◌≡◌, None, inl, inr, refl, rules, sym}
use Rattle.omega_cli_command.specs.Options.{text_of}
use Rattle.omega_cli_command.specs.declared.options.OptionName.TheVariants as name
use Rattle.omega_cli_command.proofs.Given.{some_read}
use Rattle.omega_cli_command.proofs.tasks.realize.realize_task.Goals.{then-is_some-2-via-then-is_some-2, then-is_some-2-via-else-is_some-2+then-is_some-3}
use Rattle.omega_cli_command.proofs.tasks.realize.realize_task.Goals as goal

pub returns-then-is_some-2-clause-mistaken : goal.returns-then-is_some-2-clause-mistaken
returns-then-is_some-2-clause-mistaken c =
    let no_formula : text_of name.Formula c.args.options.now ≡ None = search rules in
    inr (elim c.then-is_some-2.branch [
      | then-is_some-2-via-then-is_some-2 w ↦ record {
        one = name.Outs;
        needed = (inl refl, refl);
        one_used = some_read _ c.args.options.now.outs (sym w.if-is_some-2.ensures);
        missing = λ used. used no_formula;
      }
      | then-is_some-2-via-else-is_some-2+then-is_some-3 w ↦ record {
        one = name.Ins;
        needed = (inl refl, refl);
        one_used = some_read _ c.args.options.now.ins (sym w.if-is_some-3.ensures);
        missing = λ used. used no_formula;
      }
    ])
