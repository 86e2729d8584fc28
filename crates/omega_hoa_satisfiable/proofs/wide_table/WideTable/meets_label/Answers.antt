-- The words of the nodes are the label's.
use Rattle.std.proofs.Common.{ap, arith}
use Rattle.omega_hoa_satisfiable.specs.private.Words.{peak}
use Rattle.omega_hoa_satisfiable.proofs.WideTables.{nodes-make}
use Rattle.omega_hoa_satisfiable.proofs.WordLemmas.{peak-label}
use Rattle.omega_hoa_satisfiable.proofs.wide_table.WideTable.meets_label.Goals as goal

pub meets_nodes-requires : goal.meets_nodes-requires
meets_nodes-requires c = omega (arith, ap (peak 0) c.nodes.ensures.nodes, peak-label c.args.label.now c.nodes.ensures.shallow)

pub returns : goal.returns
returns c =
    λ one is.
    c.meets_nodes.ensures one c.args.label.now is (c.mentions_low.ensures c.if-not-mentions_low.false) (nodes-make c.args.label.now c.nodes.result.now c.nodes.ensures.nodes)
