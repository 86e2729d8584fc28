-- The law by its lemma.
use Rattle.omega_text.proofs.pg_texts.Exact.{pg_exact}
use Rattle.omega_text.proofs.pg.format.PgKindTokenKind.goes_on_one_way.Goals as goal

pub returns : goal.returns
returns c = pg_exact
