use Rattle.omega_laws.proofs.saying.Described.{same_parts}
use Rattle.omega_laws.proofs.saying.JudgedTexts.{counter_strategies_judged}
use Rattle.omega_laws.proofs.judged_texts.formula_counter_strategies_are_judged.Goals as goal

pub returns : goal.returns
returns c = counter_strategies_judged c.formulas_of_texts_are_one.ensures (same_parts c.cuts_are_one.ensures c.raws_are_one.ensures) c.formula_counter_judgements_are_exact.ensures
