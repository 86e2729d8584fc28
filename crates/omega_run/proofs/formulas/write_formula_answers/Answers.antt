-- `write_formula_answers`: the names are told after what was written, or why it was not.
use Rattle.omega_run.proofs.formulas.write_formula_answers.Goals as goal

pub returns-in-Ok : goal.returns-in-Ok
returns-in-Ok g c = (
  c.write_made.result,
  c.write_made.ensures,
  rw c.in-Ok.is (c.exit_code.ensures, rw c.as_slice.ensures.value at c.tell_names.ensures),
)
