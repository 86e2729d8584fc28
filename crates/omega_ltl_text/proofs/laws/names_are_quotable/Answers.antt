-- The law by its lemma.
use Rattle.omega_ltl_text.proofs.Quotables.{names_are}
use Rattle.omega_ltl_text.proofs.laws.names_are_quotable.Goals as goal

pub returns : goal.returns
returns c = names_are
