-- The law by its lemma.
use Rattle.omega_hoa_syntax.proofs.uniqueness.Automata.{raw_one}
use Rattle.omega_hoa_syntax.proofs.laws.raws_are_one.Goals as goal

pub returns : goal.returns
returns c = raw_one c.labels_are_one.ensures c.formulas_are_one.ensures
