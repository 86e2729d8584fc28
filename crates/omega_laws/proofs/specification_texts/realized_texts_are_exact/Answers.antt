use Rattle.omega_laws.proofs.saying.Described.{same_parts}
use Rattle.omega_laws.proofs.saying.SpecificationTexts.{realized_exact}
use Rattle.omega_laws.proofs.specification_texts.realized_texts_are_exact.Goals as goal

pub returns : goal.returns
returns c = realized_exact (same_parts c.cuts_are_one.ensures c.raws_are_one.ensures) c.realize_answers_are_exact.ensures
