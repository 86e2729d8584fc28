-- `formatted_task`: the format is that of a subcommand that takes several.
use Rattle.std.proofs.Common.{◌≡◌, rules, subst, sym}
use Rattle.std.proofs.lemmas.Result.{err_from_is_err_and}
use Rattle.omega_cli_command.specs.Formats.{for_automata, for_circuits}
use Rattle.omega_cli_command.specs.Task.{AsksFor}
use Rattle.omega_cli_command.specs.declared.command.Command.TheVariants as command
use Rattle.omega_cli_command.specs.declared.task.Task.{Task}
use Rattle.omega_cli_command.specs.private.Tasks.{default_task}
use Rattle.omega_cli_command.proofs.Formats.{format_is_mistaken, others_are_asked}
use Rattle.omega_cli_command.proofs.tasks.formats.formatted_task.Goals as goal

pub returns-in_err-format_in-clause-mistaken : goal.returns-in_err-format_in-clause-mistaken
returns-in_err-format_in-clause-mistaken c subcommand has =
    let p = err_from_is_err_and c.from_residual.result c.from_residual.ensures.1 in
    rw (p.1, p.2) (format_is_mistaken subcommand c.args.options.now c.in_err-format_in.field-0.0 has
    (c.leaves_format.ensures.told c.if-leaves_format.false) c.in_err-format_in.ensures.faulty)

pub returns-in-Hoa-clause-asked : goal.returns-in-Hoa-clause-asked
returns-in-Hoa-clause-asked c subcommand asks other =
    let task : c.of-in-Hoa.result ≡ default_task (for_automata (command.OneText c.args.game)) = search rules in
    subst (λ (task : Task). AsksFor subcommand c.args.options.now task) (sym task)
    ((others_are_asked subcommand c.args.options.now c.args.game asks).0 (rw c.in-Hoa.is at c.in_ok-format_in.ensures.given))

pub returns-in-Aiger-clause-asked : goal.returns-in-Aiger-clause-asked
returns-in-Aiger-clause-asked c subcommand asks other =
    let task : c.of-in-Aiger.result ≡ default_task (for_circuits (command.OneText c.args.game)) = search rules in
    subst (λ (task : Task). AsksFor subcommand c.args.options.now task) (sym task)
    ((others_are_asked subcommand c.args.options.now c.args.game asks).1 (rw c.in-Aiger.is at c.in_ok-format_in.ensures.given) other)
