-- `run_formulas`: the answers were made and written, or the texts are refused.
use Rattle.std.proofs.Common.{Err, Ok, refl}
use Rattle.omega_run.proofs.formulas.run_formulas.Goals as goal

pub returns-in-Ok : goal.returns-in-Ok
returns-in-Ok g c = record {
  made = Ok (c.in-Ok.made.exit, c.in-Ok.made.text.items);
  answer = c.in-Ok.ensures.answered;
  told = (c.in-Ok.made.unmentioned.items, c.in-Ok.ensures.unmentioned, c.write_formula_answers.ensures);
}

pub returns-in-Err : goal.returns-in-Err
returns-in-Err g c = record {
  made = Err c.in-Err.refused;
  answer = c.in-Err.ensures.refused;
  told = ((refl, refl), c.report_formulas.ensures);
}
