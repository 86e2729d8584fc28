-- A label with few atoms and operators is shallow.
use Rattle.omega_hoa_edges.proofs.Summarized.{small_shallow}
use Rattle.omega_hoa_edges.proofs.summary.is_shallow.Goals as goal

pub returns-then-size-clause-shallow : goal.returns-then-size-clause-shallow
returns-then-size-clause-shallow c = λ _. small_shallow c.args.label.now c.size.result c.size.ensures c.if-size.true
