-- What follows at a place of a text that can be cut is all that is left there.
use Rattle.omega_text.proofs.formats.Lefts.{rest_faultless, rest_next}
use Rattle.omega_text.proofs.text_cursor.next_left.Goals as goal

pub unreachable-requires : goal.unreachable-requires
unreachable-requires g c = rest_faultless _ _ c.goes_on_one_way.ensures _ _ c.in-Err.ensures.fault c.requires.cut

pub returns : goal.returns
returns g c = rest_next _ _ c.goes_on_one_way.ensures _ _ c.in-Ok.ensures.token c.in-Ok.ensures.progress c.in-Ok.ensures.end
