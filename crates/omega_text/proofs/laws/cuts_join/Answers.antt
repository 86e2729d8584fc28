-- The law by its lemma.
use Rattle.omega_text.proofs.formats.Cutting.{cuts_join}
use Rattle.omega_text.proofs.laws.cuts_join.Goals as goal

pub returns : goal.returns
returns g c = cuts_join g.K.TokenKind.format
