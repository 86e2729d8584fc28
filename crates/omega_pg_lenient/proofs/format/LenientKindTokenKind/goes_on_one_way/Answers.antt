-- The law by its lemma.
use Rattle.omega_pg_lenient.proofs.texts.OneWay.{lenient_one_way}
use Rattle.omega_pg_lenient.proofs.format.LenientKindTokenKind.goes_on_one_way.Goals as goal

pub returns : goal.returns
returns c = lenient_one_way c.goes_on_one_way.ensures
