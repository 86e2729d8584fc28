-- the edges of one state more
use Rattle.std.proofs.Common.{◌≡◌, ℕ, ◌+◌, ◌++◌, ◌<◌, List, length, get_or, ap, ◌∙◌, arith}
use Rattle.omega_hoa_automaton.specs.Automaton.{edges_from}
use Rattle.omega_hoa_automaton.specs.declared.state.State.{State}
use Rattle.omega_empty.specs.EmptinessGame.{edge_nodes}
use Rattle.omega_empty.proofs.making.Plain.{plain_state}
use Rattle.omega_empty.proofs.making.Ranges.{length_more, length_within}
use Rattle.omega_empty.proofs.making.Rows.{states_more}
use Rattle.omega_empty.proofs.nodes.add_edges.Goals as goal

pub add_edges_of-requires-clause-within : goal.add_edges_of-requires-clause-within
add_edges_of-requires-clause-within c =
    let states : List State = c.args.judged.now.automaton.defined in
    let here : c.state-item.result ≡ get_or states c.loop-state.state-index c.state-item.result = cc in
    let below : c.loop-state.state-index < length states = omega (arith, ap length c.defined-state-items.ensures) in
    omega (arith, length_more states c.loop-state.state-index c.state-item.result below here, length_within states (c.loop-state.state-index + 1), c.loop-state.invariant.0)

pub add_edges_of-requires-clause-plain : goal.add_edges_of-requires-clause-plain
add_edges_of-requires-clause-plain c =
    let states : List State = c.args.judged.now.automaton.defined in
    let here : c.state-item.result ≡ get_or states c.loop-state.state-index c.state-item.result = cc in
    let below : c.loop-state.state-index < length states = omega (arith, ap length c.defined-state-items.ensures) in
    let ready = c.keeps_ready.ensures in
    plain_state c.args.judged.now.automaton c.args.judged.now.kind ready.automaton ready.kind_is ready.plain c.loop-state.state-index c.state-item.result below here

pub overflow_add-number : goal.overflow_add-number
overflow_add-number c =
    let states : List State = c.args.judged.now.automaton.defined in
    let here : c.state-item.result ≡ get_or states c.loop-state.state-index c.state-item.result = cc in
    let below : c.loop-state.state-index < length states = omega (arith, ap length c.defined-state-items.ensures) in
    omega (arith, c.keeps_ready.ensures.few, c.len-number.ensures, length_more states c.loop-state.state-index c.state-item.result below here, length_within states (c.loop-state.state-index + 1), c.loop-state.invariant.0)

pub loop-state-preserved : goal.loop-state-preserved
loop-state-preserved c =
    let states : List State = c.args.judged.now.automaton.defined in
    let index : ℕ = c.loop-state.state-index in
    let here : c.state-item.result ≡ get_or states index c.state-item.result = cc in
    let below : index < length states = omega (arith, ap length c.defined-state-items.ensures) in (
      omega (arith, c.len-number.ensures, length_more states index c.state-item.result below here, c.loop-state.invariant.0),
      states_more c.args.judged.now.kind c.args.judged.now.automaton c.args.judged.now.usable c.args.counter index states c.state-item.result
          c.loop-state.builder c.args.builder.now c.add_edges_of.new.builder below here c.loop-state.invariant.1
          (c.in_ok-add_edges_of.ensures.ok
          ∙ ap (λ n. c.loop-state.builder ++ edge_nodes c.args.judged.now.kind c.args.judged.now.automaton c.args.judged.now.usable c.args.counter n (edges_from c.state-item.result)) c.loop-state.invariant.0),
    )
