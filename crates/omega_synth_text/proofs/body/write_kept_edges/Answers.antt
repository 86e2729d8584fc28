-- one edge more
use Rattle.std.proofs.Common.{◌≡◌, ◌+◌, ◌<◌, ℕ, [], List, None, get_or, length, refl, sym, ◌∙◌, arith}
use Rattle.omega_hoa_automaton.specs.declared.edge.Edge.{Edge}
use Rattle.omega_synth_text.specs.private.Parts.{edge_by, kept_by}
use Rattle.omega_synth_text.specs.declared.parts.Winner.{Winner}
use Rattle.omega_synth_text.proofs.Written.{edge_passed, edge_written, same_edge}
use Rattle.omega_synth_text.proofs.body.write_kept_edges.Goals as goal
use Rattle.omega_synth_text.proofs.body.write_kept_edges.Goals.{then-is_set+in_ok-write_edge, else-is_set}

pub loop-at-preserved : goal.loop-at-preserved
loop-at-preserved c =
    let w : Winner = c.args.winner.now in
    let edges : List Edge = c.args.state.now.edges in
    let at : ℕ = c.loop-at.at in
    let below : at < length edges = omega (arith, c.loop-at-test.true, c.len-at-end.ensures) in
    let none : Edge = record { label = None; targets = []; marks = [] } in
    let edge : Edge = get_or edges at none in
    let here : edge ≡ get_or edges at edge = same_edge edges at none edge below refl in
    elim c.if-is_set.branch [
      | then-is_set+in_ok-write_edge joined ↦
          rw joined.out-is
          (edge_written (kept_by w) (edge_by w c.args.state.now) edges at (c.args.number + at) edge (c.args.number + (at + 1)) c.loop-at.out.items
          joined.write_edge.new.out.items _ (omega arith) below here (sym c.is_set.ensures ∙ joined.if-is_set.true) c.loop-at.invariant
          (joined.in_ok-write_edge.ensures.text none))
      | else-is_set joined ↦
          rw joined.out-is
          (edge_passed (kept_by w) (edge_by w c.args.state.now) edges at (c.args.number + at) edge (c.args.number + (at + 1)) c.loop-at.out.items _ (omega arith)
          below here (sym c.is_set.ensures ∙ joined.if-is_set.false) c.loop-at.invariant)
    ]
