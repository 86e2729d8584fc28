-- `omega_run`: without memory for what the program writes, the line that says so is copied.
use Rattle.std.proofs.Common.{[], inr, refl, rules}
use Rattle.std.specs.Prelude.{codes}
use Rattle.omega.proofs.Runs.{memory_line}
use Rattle.omega.proofs.running.omega_run.Goals as goal

pub returns-in-None-clause-outcome : goal.returns-in-None-clause-outcome
returns-in-None-clause-outcome c =
    record {
      written = [];
      reported = codes "omega: 60 Memory\n";
      run = inr (record {
        ended = c.exit_code.ensures;
        silent = refl;
        line = memory_line;
      });
      output_length = refl;
      errors_length = refl;
      output_laid = search rules;
      errors_laid = c.copy_into-in-None.ensures;
    }
