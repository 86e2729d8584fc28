-- `write_edges_of`: what is written, and what is yet to be written of the edges left, is the whole.
use Rattle.std.proofs.Common.{◌≡◌, ◌++◌, drop}
use Rattle.omega_text.specs.Numbered.{numbered}
use Rattle.omega_hoa_dot.specs.Arrows.{edge_text}
use Rattle.omega_hoa_dot.specs.private.layout.Drawing.{drawn_all}
use Rattle.omega_hoa_dot.proofs.edges.write_edges_of.Given as goal

abbrev pub invariant-loop-index : goal.invariant-loop-index
invariant-loop-index l =
    l.out.items ++ numbered (edge_text l.edges.state.now.number (drawn_all l.edges)) l.index (drop l.index (drawn_all l.edges))
    ≡ l.fn.out.items ++ numbered (edge_text l.edges.state.now.number (drawn_all l.edges)) 0 (drawn_all l.edges)
