-- The law by its lemma.
use Rattle.omega_text.proofs.syntaxes.Places.{faults_first}
use Rattle.omega_text.proofs.laws.syntax_faults_are_first.Goals as goal

pub returns : goal.returns
returns g c = faults_first g.S.TextSyntax.syntax c.goes_on_one_way.ensures
