-- what is written and what is owed are all kept edges
use Rattle.std.proofs.Common.{◌≡◌, ◌+◌, ◌++◌, drop}
use Rattle.std.specs.List.{flat_map}
use Rattle.omega_canon.specs.BodyText.{edge_line}
use Rattle.omega_synth_text.specs.private.Parts.{edges_by}
use Rattle.omega_synth_text.proofs.body.write_kept_edges.Given as goal

abbrev pub invariant-loop-at : goal.invariant-loop-at
invariant-loop-at l =
    l.out.items ++ flat_map edge_line (edges_by l.winner l.state l.at (l.number + l.at) (drop l.at l.state.edges))
    ≡ l.fn.out.items ++ flat_map edge_line (edges_by l.winner l.state 0 l.number l.state.edges)
