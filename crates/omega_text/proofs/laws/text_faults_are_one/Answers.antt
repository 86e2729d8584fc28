-- The law by its lemma.
use Rattle.omega_text.proofs.syntaxes.Faults.{text_faults_are_one}
use Rattle.omega_text.proofs.laws.text_faults_are_one.Goals as goal

pub returns : goal.returns
returns g c = text_faults_are_one g.S.TextSyntax.syntax c.goes_on_one_way.ensures
