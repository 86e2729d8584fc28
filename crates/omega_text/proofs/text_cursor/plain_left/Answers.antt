-- What follows at a place of a text that can be cut is the first of all that is left there.
use Rattle.omega_text.proofs.formats.Lefts.{reported_first}
use Rattle.omega_text.proofs.text_cursor.plain_left.Goals as goal

pub returns : goal.returns
returns g c = reported_first _ _ c.goes_on_one_way.ensures _ _ c.plain_token.ensures.token c.plain_token.ensures.progress
