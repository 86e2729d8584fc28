-- the range of one state more, whose number no state before it has
use Rattle.std.proofs.Common.{◌≡◌, ℕ, ◌+◌, ◌<◌, List, length, get_or, take, set, sym, ap, ◌∙◌, subst, arith}
use Rattle.std.proofs.lemmas.List.{length-set}
use Rattle.omega_hoa_automaton.specs.declared.state.State.{State}
use Rattle.omega_empty.proofs.making.Ranges.{AreSoFar, length_more, length_within, ranges_more}
use Rattle.omega_empty.proofs.edge_ranges.edge_ranges.Goals as goal

pub overflow_add-end : goal.overflow_add-end
overflow_add-end c =
    let states : List State = c.args.automaton.now.defined in
    let here : c.state-item.result ≡ get_or states c.loop-state.state-index c.state-item.result = cc in
    let below : c.loop-state.state-index < length states = omega (arith, ap length c.defined-state-items.ensures) in
    omega (arith, c.requires, length_more states c.loop-state.state-index c.state-item.result below here, length_within states (c.loop-state.state-index + 1), c.len.ensures, c.loop-state.invariant.0)

pub overflow_cast-next : goal.overflow_cast-next
overflow_cast-next c =
    let states : List State = c.args.automaton.now.defined in
    omega (arith, c.requires, length_within states c.loop-state.state-index, c.loop-state.invariant.0)

pub overflow_cast-end : goal.overflow_cast-end
overflow_cast-end c =
    let states : List State = c.args.automaton.now.defined in
    let here : c.state-item.result ≡ get_or states c.loop-state.state-index c.state-item.result = cc in
    let below : c.loop-state.state-index < length states = omega (arith, ap length c.defined-state-items.ensures) in
    omega (arith, c.requires, length_more states c.loop-state.state-index c.state-item.result below here, length_within states (c.loop-state.state-index + 1), c.len.ensures, c.loop-state.invariant.0)

pub loop-state-preserved : goal.loop-state-preserved
loop-state-preserved c =
    let states : List State = c.args.automaton.now.defined in
    let state : State = c.state-item.result in
    let index : ℕ = c.loop-state.state-index in
    let next : ℕ = c.loop-state.next in
    let here : c.state-item.result ≡ get_or states index c.state-item.result = cc in
    let below : index < length states = omega (arith, ap length c.defined-state-items.ensures) in
    let number : state.number < c.args.automaton.now.states =
    omega (arith, (c.keeps_limits.ensures.states index state below).number, ap (λ (s : State). s.number) here) in
    let P : ℕ → Type 0 = λ n. AreSoFar (take (index + 1) states) c.args.automaton.now.states (set c.loop-state.ranges.items state.number (record { first = next; end = next + n })) in (
      omega (arith, length_more states index state below here, c.len.ensures, c.loop-state.invariant.0),
      length-set c.loop-state.ranges.items state.number (record { first = next; end = next + c.len.result }) ∙ c.loop-state.invariant.1,
      subst P (sym c.len.ensures)
          (ranges_more states index state c.loop-state.ranges.items c.args.automaton.now.states next below here c.keeps_limits.ensures.once
          c.loop-state.invariant.0 c.loop-state.invariant.1 number c.loop-state.invariant.2),
    )
