-- The words are the label's truth.
use Rattle.omega_hoa_satisfiable.proofs.CubeWords.{true-table}
use Rattle.omega_hoa_satisfiable.proofs.wide_table.WideTable.by_cubes.Goals as goal

pub returns-in-Some-clause-table : goal.returns-in-Some-clause-table
returns-in-Some-clause-table c =
    true-table c.args.label.now _ (c.mentions_low.ensures c.if-not-mentions_low.false)
    ((rw c.in-Some.is at c.in_ok-found.ensures.words) c.args.label.now c.nodes.ensures.nodes)
