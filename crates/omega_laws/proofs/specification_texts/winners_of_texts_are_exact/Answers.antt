use Rattle.omega_laws.proofs.saying.Described.{same_parts}
use Rattle.omega_laws.proofs.saying.SpecificationTexts.{winners_exact}
use Rattle.omega_laws.proofs.specification_texts.winners_of_texts_are_exact.Goals as goal

pub returns : goal.returns
returns c = winners_exact (same_parts c.cuts_are_one.ensures c.raws_are_one.ensures) c.winner_answers_are_exact.ensures
