-- `game_task`: a depth needs a node.
use Rattle.std.proofs.Common.{inr, refl, sym}
use Rattle.omega_text.specs.Limits.{most_number}
use Rattle.omega_cli_command.specs.Options.{text_of}
use Rattle.omega_cli_command.specs.Values.{IsNumberText}
use Rattle.omega_cli_command.specs.declared.options.OptionName.TheVariants as name
use Rattle.omega_cli_command.proofs.Given.{given_none, given_some}
use Rattle.omega_cli_command.proofs.tasks.draw.game_task.Goals as goal

pub returns-then-is_none-clause-mistaken : goal.returns-then-is_none-clause-mistaken
returns-then-is_none-clause-mistaken c =
    inr (record {
      one = name.Depth;
      needed = (refl, refl);
      one_used =
          given_some (IsNumberText 0 most_number) (text_of name.Depth c.args.options.now) c.in_ok-depth.depth c.in_ok-depth.ensures.given (sym c.if-is_some.ensures);
      missing = λ used. used
          (given_none (IsNumberText 0 most_number) (text_of name.From c.args.options.now) c.in_ok-from.from c.in_ok-from.ensures.given c.if-is_none.ensures);
    })
