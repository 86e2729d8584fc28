-- The extents so far and the nodes that are left make the extent.
use Rattle.std.proofs.Common.{◌≡◌, [], drop}
use Rattle.omega_hoa_label_text.specs.Expanding.{entries_of}
use Rattle.omega_hoa_label_text.specs.private.Extents.{extent_named, extents_after}
use Rattle.omega_hoa_label.specs.Postfix.{alias_names, raw_postfix}
use Rattle.omega_hoa_label_text.proofs.aliases.Aliases.measure_nodes.Given as goal

abbrev pub invariant-loop-node : goal.invariant-loop-node
invariant-loop-node l =
    extents_after (extent_named (entries_of [] l.self)) l.stack l.names (drop l.node-index l.nodes)
    ≡ extents_after (extent_named (entries_of [] l.self)) [] (alias_names l.raw) (raw_postfix l.raw)
