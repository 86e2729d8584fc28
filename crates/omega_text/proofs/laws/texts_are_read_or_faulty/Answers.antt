-- The law by its lemma.
use Rattle.omega_text.proofs.syntaxes.Deciding.{read_or_faulty}
use Rattle.omega_text.proofs.laws.texts_are_read_or_faulty.Goals as goal

pub returns : goal.returns
returns g c = read_or_faulty g.S.TextSyntax.syntax c.goes_on_one_way.ensures
