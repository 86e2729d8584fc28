use Rattle.omega_laws.proofs.saying.Described.{same_parts}
use Rattle.omega_laws.proofs.saying.SpecificationTexts.{controllers_exact}
use Rattle.omega_laws.proofs.specification_texts.controller_texts_are_judged.Goals as goal

pub returns : goal.returns
returns c = controllers_exact (same_parts c.cuts_are_one.ensures c.raws_are_one.ensures) c.controller_answers_are_exact.ensures
