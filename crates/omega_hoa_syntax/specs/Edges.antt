-- The edges of a state that are taken apart: in short if all of them are short.
use Rattle.std.specs.Prelude.{List, [], ◌∷◌, None, map, option_map}
use Rattle.omega_hoa_syntax.specs.declared.raw_edge.RawEdge.{RawEdge}
use Rattle.omega_hoa_syntax.specs.declared.raw_edges.EdgeSlice.{EdgeSlice}
use Rattle.omega_hoa_syntax.specs.declared.raw_edges.EdgeSlice.TheVariants as seen
use Rattle.omega_hoa_syntax.specs.declared.raw_edges.HeldEdges.{HeldEdges}
use Rattle.omega_hoa_syntax.specs.declared.raw_edges.HeldEdges.TheVariants.{Short, Full}
use Rattle.omega_hoa_syntax.specs.declared.short_edge.ShortEdge.{ShortEdge}

-- the edge that is written so
abbrev pub lengthened : ShortEdge → RawEdge
lengthened short = record {
  label = None;
  targets = short.target ∷ [];
  marks = option_map (λ mark. mark ∷ []) short.mark;
}

-- the edges that were taken apart
abbrev pub edges_in : HeldEdges → List RawEdge
edges_in (Short short) = map lengthened short
edges_in (Full edges) = edges

-- the edges that are seen so
abbrev pub edges_seen : EdgeSlice → List RawEdge
edges_seen (seen.Short short) = map lengthened short.now
edges_seen (seen.Full edges) = edges.now
