-- What is out and what the nodes that are left emit are the whole; the aliases that are left stand for something.
use Rattle.std.proofs.Common.{◌≡◌, ◌++◌, [], drop, take}
use Rattle.omega_hoa_label_text.specs.Expanding.{entries_of, replaced}
use Rattle.omega_hoa_label_text.specs.private.Emitting.{AllStand, IsReplacedAt, emitted, nodes_of}
use Rattle.omega_hoa_label_text.proofs.expansion.+emit.Given as goal

abbrev pub decreases-emit : goal.decreases-emit
decreases-emit l = l.before

abbrev pub invariant-loop-node : goal.invariant-loop-node
invariant-loop-node l = record {
  rest : l.out.items ++ emitted (take l.before (entries_of [] l.aliases)) l.names (drop l.node-index l.nodes)
      ≡ l.fn.out.items ++ nodes_of (replaced (take l.before (entries_of [] l.aliases)) l.raw);
  stand : AllStand (take l.before (entries_of [] l.aliases)) l.names (drop l.node-index l.nodes);
  last : IsReplacedAt l.aliases l.before l.out.items l.last.place l.last.start l.last.end;
}
