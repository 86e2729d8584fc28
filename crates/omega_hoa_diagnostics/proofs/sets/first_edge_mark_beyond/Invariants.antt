-- `first_edge_mark_beyond`: the first mark is that of an edge that is left.
use Rattle.std.proofs.Common.{◌≡◌, drop}
use Rattle.omega_hoa_diagnostics.specs.Finding.{first_found}
use Rattle.omega_hoa_syntax.specs.declared.raw_edge.RawEdge.{RawEdge}
use Rattle.omega_hoa_diagnostics.specs.Sets.{mark_beyond}
use Rattle.omega_hoa_diagnostics.proofs.sets.first_edge_mark_beyond.Given as goal

abbrev pub invariant-loop-at : goal.invariant-loop-at
invariant-loop-at l =
    first_found (λ (edge : RawEdge). mark_beyond l.count l.state edge.marks) (drop l.at l.edges)
    ≡ first_found (λ (edge : RawEdge). mark_beyond l.count l.state edge.marks) l.edges
