-- edges, the edges that leave each state and the questions make the rounds
use Rattle.std.proofs.Common.{ℕ, List, length, sym, ap, subst, arith}
use Rattle.omega_hoa_automaton.specs.Automaton.{edge_count}
use Rattle.omega_synth_rounds.specs.declared.rounds.RoundEdge.{RoundEdge}
use Rattle.omega_synth_game.specs.private.Making.{AreLeaving, AreRoundEdges, StatesLeave}
use Rattle.omega_synth_game.proofs.Rounding.{gathered, states_leave}
use Rattle.omega_synth_game.proofs.making.rounds_of.Goals as goal

pub leaving_edges-requires-clause-few : goal.leaving_edges-requires-clause-few
leaving_edges-requires-clause-few c = omega (arith, ap length c.as_slice-2.ensures.value, c.in_ok-edges.ensures.few)

pub states_asked-requires-clause-leaving : goal.states_asked-requires-clause-leaving
states_asked-requires-clause-leaving c =
    let a = c.args.automaton.now in
    let are : AreRoundEdges a c.args.kind (edge_count a) c.as_slice-2.result.now =
    subst (λ (edges : List RoundEdge). AreRoundEdges a c.args.kind (edge_count a) edges) (sym c.as_slice-2.ensures.value) c.in_ok-edges.ensures.edges in
    let leaving : AreLeaving c.as_slice-2.result.now a.states (length c.as_slice-2.result.now) c.in_ok-leaving.leaving.items =
    subst (λ (count : ℕ). AreLeaving c.as_slice-2.result.now count (length c.as_slice-2.result.now) c.in_ok-leaving.leaving.items)
    c.state_count-count.ensures c.in_ok-leaving.ensures.leaving in
    subst (λ (lists : List (List ℕ)). StatesLeave a lists) (sym c.as_slice-4.ensures.value)
    (states_leave a c.args.kind c.as_slice-2.result.now are c.in_ok-leaving.leaving.items leaving)

pub returns-clause-rounds_of : goal.returns-clause-rounds_of
returns-clause-rounds_of c =
    let a = c.args.automaton.now in
    let all = gathered a c.args.kind c.args.controlled.now c.in_ok-edges.edges.items c.as_slice-2.result.now c.from_vec-2.result c.as_slice-2.ensures.value c.from_vec-2.ensures
    c.in_ok-edges.ensures.edges c.state_count-count.result c.state_count-count.ensures c.in_ok-leaving.leaving.items c.as_slice-4.result.now c.as_slice-4.ensures.value
    c.in_ok-leaving.ensures.leaving c.in_ok-asked.asked.ranges.items c.from_vec.result c.from_vec.ensures c.in_ok-asked.asked.answers.items c.from_vec-3.result c.from_vec-3.ensures
    c.in_ok-asked.asked.letters.items c.from_vec-4.result c.from_vec-4.ensures c.in_ok-asked.ensures.asked c.in_ok-asked.ensures.in_turn in
    all.0

pub returns-clause-rounds : goal.returns-clause-rounds
returns-clause-rounds c =
    let a = c.args.automaton.now in
    let all = gathered a c.args.kind c.args.controlled.now c.in_ok-edges.edges.items c.as_slice-2.result.now c.from_vec-2.result c.as_slice-2.ensures.value c.from_vec-2.ensures
    c.in_ok-edges.ensures.edges c.state_count-count.result c.state_count-count.ensures c.in_ok-leaving.leaving.items c.as_slice-4.result.now c.as_slice-4.ensures.value
    c.in_ok-leaving.ensures.leaving c.in_ok-asked.asked.ranges.items c.from_vec.result c.from_vec.ensures c.in_ok-asked.asked.answers.items c.from_vec-3.result c.from_vec-3.ensures
    c.in_ok-asked.asked.letters.items c.from_vec-4.result c.from_vec-4.ensures c.in_ok-asked.ensures.asked c.in_ok-asked.ensures.in_turn in
    all.1

pub returns-clause-by_state : goal.returns-clause-by_state
returns-clause-by_state c =
    let a = c.args.automaton.now in
    let all = gathered a c.args.kind c.args.controlled.now c.in_ok-edges.edges.items c.as_slice-2.result.now c.from_vec-2.result c.as_slice-2.ensures.value c.from_vec-2.ensures
    c.in_ok-edges.ensures.edges c.state_count-count.result c.state_count-count.ensures c.in_ok-leaving.leaving.items c.as_slice-4.result.now c.as_slice-4.ensures.value
    c.in_ok-leaving.ensures.leaving c.in_ok-asked.asked.ranges.items c.from_vec.result c.from_vec.ensures c.in_ok-asked.asked.answers.items c.from_vec-3.result c.from_vec-3.ensures
    c.in_ok-asked.asked.letters.items c.from_vec-4.result c.from_vec-4.ensures c.in_ok-asked.ensures.asked c.in_ok-asked.ensures.in_turn in
    all.2
