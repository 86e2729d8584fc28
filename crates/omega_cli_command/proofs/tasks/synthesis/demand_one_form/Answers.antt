-- `demand_one_form`: what is written in binary is a circuit.
use Rattle.std.proofs.Common.{inr, refl}
use Rattle.omega_cli_command.specs.Options.{text_of}
use Rattle.omega_cli_command.specs.declared.options.OptionName.TheVariants as name
use Rattle.omega_cli_command.proofs.Given.{unset}
use Rattle.omega_cli_command.proofs.tasks.synthesis.demand_one_form.Goals as goal

pub returns-then-not-aiger-clause-mistaken : goal.returns-then-not-aiger-clause-mistaken
returns-then-not-aiger-clause-mistaken c =
    inr (record {
      one = name.Binary;
      needed = (refl, refl);
      one_used = rw c.if-binary.true at c.requires.3;
      missing = unset (text_of name.Aiger c.args.options.now) (rw c.if-not-aiger.true at c.requires.2);
    })
