-- The law by its lemma.
use Rattle.omega_text.proofs.syntaxes.Faults.{texts_have_no_fault}
use Rattle.omega_text.proofs.laws.texts_have_no_fault.Goals as goal

pub returns : goal.returns
returns g c = texts_have_no_fault g.S.TextSyntax.syntax c.goes_on_one_way.ensures
