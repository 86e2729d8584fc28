use Rattle.omega_answers_synth.proofs.FormulaExact.{formula_answers_are_one}
use Rattle.omega_answers_synth.proofs.laws.formula_answers_are_one.Goals as goal

pub returns : goal.returns
returns c =
    formula_answers_are_one c.formulas_of_texts_are_one.ensures c.meanings_are_automata.ensures c.formula_judgements_are_exact.ensures
    c.formula_counter_judgements_are_exact.ensures c.formula_controllers_exclude_counter_strategies.ensures
