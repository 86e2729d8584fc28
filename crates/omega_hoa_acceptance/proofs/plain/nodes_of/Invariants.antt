-- The nodes so far and those that are left make the nodes.
use Rattle.std.proofs.Common.{◌≡◌, Some, drop}
use Rattle.omega_hoa_acceptance.specs.private.layout.Plain.{after_nodes, plain_nodes}
use Rattle.omega_hoa_acceptance.specs.private.layout.Raw.{atom_names, raw_acc_postfix}
use Rattle.omega_hoa_acceptance.proofs.plain.nodes_of.Given as goal

abbrev pub invariant-loop-node : goal.invariant-loop-node
invariant-loop-node l =
    after_nodes (Some l.nodes.items) (plain_nodes l.names (drop l.node-index l.node-items))
    ≡ plain_nodes (atom_names l.raw) (raw_acc_postfix l.raw)
