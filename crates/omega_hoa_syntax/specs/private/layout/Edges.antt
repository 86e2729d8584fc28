-- How the edges of a state lie in memory: in short if all of them are short.
use Rattle.std.specs.Prelude.{List, map, option_map}
use Rattle.std.specs.Option.{option_copied}
use Rattle.omega_hoa_syntax.specs.Edges.{lengthened}
use Rattle.omega_hoa_syntax.specs.declared.raw_edge.RawEdge.{RawEdge}
use Rattle.omega_hoa_syntax.specs.declared.raw_edge_ref.RawEdgeRef.TheInside.{Inside}
use Rattle.omega_hoa_syntax.specs.declared.raw_edges.Held.{Held}
use Rattle.omega_hoa_syntax.specs.declared.raw_edges.Held.TheVariants as held

-- the edges, however they lie
abbrev pub held_edges : Held → List RawEdge
held_edges (held.Short short) = map lengthened short.items
held_edges (held.Full edges) = edges.items

-- the edge whose parts these are
abbrev pub referred : Inside → RawEdge
referred edge = record {
  label = option_copied edge.label;
  targets = edge.targets.now;
  marks = option_map (λ sets. sets.now) edge.marks;
}
