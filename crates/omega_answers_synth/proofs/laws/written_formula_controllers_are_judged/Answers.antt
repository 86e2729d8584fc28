use Rattle.omega_answers_synth.proofs.FormulaExact.{written_controllers_are_judged}
use Rattle.omega_answers_synth.proofs.laws.written_formula_controllers_are_judged.Goals as goal

pub returns : goal.returns
returns c = written_controllers_are_judged c.formulas_of_texts_are_one.ensures c.automata_are_one.ensures c.formula_judgements_are_exact.ensures
