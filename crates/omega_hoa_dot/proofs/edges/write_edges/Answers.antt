-- `write_edges`: the edges of a state more.
use Rattle.std.proofs.Common.{◌≡◌, ℕ, ◌+◌, ◌<◌, ◌++◌, List, length, drop, get_or, ap, ◌∙◌, arith}
use Rattle.omega_hoa_automaton.specs.Automaton.{IsState}
use Rattle.omega_hoa_automaton.specs.declared.state.State.{State}
use Rattle.omega_hoa_dot.specs.Arrows.{edges_text}
use Rattle.omega_hoa_dot.specs.private.layout.Marking.{role_at}
use Rattle.omega_hoa_dot.proofs.Bodies.{at_place, edges_left, state_written}
use Rattle.omega_hoa_dot.proofs.edges.write_edges.Goals as goal

pub write_edges_of-requires : goal.write_edges_of-requires
write_edges_of-requires c =
    let states : List State = c.args.automaton.now.defined in
    let here : c.state-item.result ≡ get_or states c.loop-state.state-index c.state-item.result = cc in
    let below : c.loop-state.state-index < length states = omega (arith, ap length c.defined-state-items.ensures) in
    record {
      state = at_place (IsState c.args.automaton.now) states c.loop-state.state-index c.state-item.result c.keeps_limits.ensures.states below here;
      within = omega (arith, c.requires.entries, edges_left states c.loop-state.state-index c.state-item.result below here, c.loop-state.invariant.count);
    }

pub overflow_add-first : goal.overflow_add-first
overflow_add-first c =
    let states : List State = c.args.automaton.now.defined in
    let here : c.state-item.result ≡ get_or states c.loop-state.state-index c.state-item.result = cc in
    let below : c.loop-state.state-index < length states = omega (arith, ap length c.defined-state-items.ensures) in
    omega (arith, c.requires.counted, c.len-first.ensures, edges_left states c.loop-state.state-index c.state-item.result below here, c.loop-state.invariant.count)

pub loop-state-preserved : goal.loop-state-preserved
loop-state-preserved c =
    let states : List State = c.args.automaton.now.defined in
    let names : List (List ℕ) = c.args.automaton.now.propositions in
    let index : ℕ = c.loop-state.state-index in
    let here : c.state-item.result ≡ get_or states index c.state-item.result = cc in
    let below : index < length states = omega (arith, ap length c.defined-state-items.ensures) in
    record {
      count = omega (arith, c.len-first.ensures, edges_left states index c.state-item.result below here, c.loop-state.invariant.count);
      whole =
          ap (λ n. c.write_edges_of.new.out.items ++ edges_text names (role_at c.args.roles.now) (c.loop-state.first + n) (drop (index + 1) states)) c.len-first.ensures
          ∙ state_written names (role_at c.args.roles.now) c.loop-state.first states index c.state-item.result c.loop-state.out.items _ _
          below here c.in_ok-write_edges_of.ensures.ok c.loop-state.invariant.whole;
    }
