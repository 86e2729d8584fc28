-- How the edges of a state lie in memory: in short if all of them are short.
use Rattle.std.specs.Prelude.{List, [], ◌∷◌, None, map, option_map, unwrap_or}
use Rattle.std.specs.Option.{option_copied}
use Rattle.omega_hoa_syntax.specs.declared.short_edge.ShortEdge.{ShortEdge}
use Rattle.omega_hoa_automaton.specs.declared.edge.Edge.{Edge}
use Rattle.omega_hoa_automaton.specs.declared.edge_ref.EdgeRef.TheInside.{Inside}
use Rattle.omega_hoa_automaton.specs.declared.edges.Held.{Held}
use Rattle.omega_hoa_automaton.specs.declared.edges.Held.TheVariants.{Short, Full}

-- the edge that is written so
abbrev pub expanded : ShortEdge → Edge
expanded short = record {
  label = None;
  targets = short.target ∷ [];
  marks = unwrap_or (option_map (λ mark. mark ∷ []) short.mark) [];
}

-- the edges, however they lie
abbrev pub edges_in : Held → List Edge
edges_in (Short short) = map expanded short
edges_in (Full edges) = edges

-- the edge whose parts these are
abbrev pub referred : Inside → Edge
referred edge = record {
  label = option_copied edge.label;
  targets = edge.targets.now;
  marks = edge.marks.now;
}
