-- `part_task`: a legend needs a solution or a walk.
use Rattle.std.proofs.Common.{inr, refl}
use Rattle.omega_cli_command.specs.declared.options.OptionName.TheVariants as name
use Rattle.omega_cli_command.proofs.tasks.draw.part_task.Goals as goal

pub returns-then-legend-clause-mistaken : goal.returns-then-legend-clause-mistaken
returns-then-legend-clause-mistaken c =
    inr (record {
      one = name.Legend;
      needed = (refl, refl, rw c.in_default-walk.is refl);
      one_used = rw c.if-legend.true at c.requires.legend;
      missing = λ used. used (rw c.in_default.is refl);
    })
