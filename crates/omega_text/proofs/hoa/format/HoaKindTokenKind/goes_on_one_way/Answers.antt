-- The law by its lemma.
use Rattle.omega_text.proofs.hoa_texts.Exact.{hoa_exact}
use Rattle.omega_text.proofs.hoa.format.HoaKindTokenKind.goes_on_one_way.Goals as goal

pub returns : goal.returns
returns c = hoa_exact
