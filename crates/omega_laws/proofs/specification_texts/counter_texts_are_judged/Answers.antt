use Rattle.omega_laws.proofs.saying.Described.{same_parts}
use Rattle.omega_laws.proofs.saying.SpecificationTexts.{counter_strategies_exact}
use Rattle.omega_laws.proofs.specification_texts.counter_texts_are_judged.Goals as goal

pub returns : goal.returns
returns c = counter_strategies_exact (same_parts c.cuts_are_one.ensures c.raws_are_one.ensures) c.counter_answers_are_exact.ensures
