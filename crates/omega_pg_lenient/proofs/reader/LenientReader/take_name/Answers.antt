-- A dead end is added before it is named.
use Rattle.std.proofs.Common.{sym}
use Rattle.omega_pg_lenient.proofs.grammar.Changes.{dead_end_named}
use Rattle.omega_pg_lenient.proofs.reader.LenientReader.take_name.Goals as goal

pub returns-in_ok-set_name-in-Owner-clause-takes :
    goal.returns-in_ok-set_name-in-Owner-clause-takes
returns-in_ok-set_name-in-Owner-clause-takes c =
    dead_end_named _ _ _ _ _ _ _ _ _ (sym c.self.view_is) c.in-Owner.is c.in_ok-add_dead_end-in-Owner.ensures.added c.in_ok-set_name-in-Owner.ensures.ok
