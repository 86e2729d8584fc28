-- one state more
use Rattle.std.proofs.Common.{◌≡◌, ◌+◌, ◌<◌, ℕ, List, get_or, length, ap, sym, ◌∙◌, arith}
use Rattle.omega_hoa_automaton.specs.Automaton.{edge_count}
use Rattle.omega_hoa_automaton.specs.declared.state.State.{State}
use Rattle.omega_synth_text.specs.private.Parts.{reached_by, state_by}
use Rattle.omega_synth_text.specs.declared.parts.Winner.{Winner}
use Rattle.omega_synth_text.proofs.Written.{edges_left, state_passed, state_written}
use Rattle.omega_synth_text.proofs.body.write_states.Goals as goal
use Rattle.omega_synth_text.proofs.body.write_states.Goals.{then-is_set+in_ok-write_state, else-is_set}

pub loop-state-preserved : goal.loop-state-preserved
loop-state-preserved c =
    let w : Winner = c.args.winner.now in
    let states : List State = w.automaton.now.defined in
    let index : ℕ = c.loop-state.state-index in
    let state : State = c.state-item.result in
    let below : index < length states = omega (arith, ap length c.defined-state-items.ensures, c.loop-state-test.true) in
    let here : c.state-item.result ≡ get_or states index c.state-item.result = cc in
    let next : ℕ = c.loop-state.number + c.len-number.result in
    let follows : next ≡ c.loop-state.number + length state.edges = ap (λ (n : ℕ). c.loop-state.number + n) c.len-number.ensures in
    let left = edges_left (state_by w) (reached_by w) states index c.loop-state.number state next (edge_count w.automaton.now) follows below here c.loop-state.invariant.1 in
    elim c.if-is_set.branch [
      | then-is_set+in_ok-write_state joined ↦
          rw joined.out-is (
            state_written (state_by w) (reached_by w) states index c.loop-state.number state next c.loop-state.out.items joined.write_state.new.out.items _ follows below here
                (sym c.is_set.ensures ∙ joined.if-is_set.true) c.loop-state.invariant.0 joined.in_ok-write_state.ensures.text,
            left,
          )
      | else-is_set joined ↦
          rw joined.out-is (
            state_passed (state_by w) (reached_by w) states index c.loop-state.number state next c.loop-state.out.items _ follows below here
                (sym c.is_set.ensures ∙ joined.if-is_set.false) c.loop-state.invariant.0,
            left,
          )
    ]
