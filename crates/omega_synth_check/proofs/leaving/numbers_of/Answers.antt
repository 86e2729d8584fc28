-- each number is new
use Rattle.std.proofs.Common.{◌≡◌, ◌<◌, length, get_or, ap, arith}
use Rattle.omega_hoa_automaton.specs.declared.state.State.{State}
use Rattle.omega_hoa_edges.proofs.NewNumbers.{number_is_new}
use Rattle.omega_synth_check.proofs.leaving.numbers_of.Goals as goal

pub add_number-requires-clause-further : goal.add_number-requires-clause-further
add_number-requires-clause-further c =
    let here : c.state-item.result ≡ get_or c.args.automaton.now.defined c.loop-state.state-index c.state-item.result = cc in
    let below : c.loop-state.state-index < length c.args.automaton.now.defined = omega (arith, ap length c.defined-state-items.ensures) in
    rw c.loop-state.invariant.0 (number_is_new (λ (state : State). state.number) c.args.automaton.now.defined c.loop-state.state-index c.state-item.result below here c.keeps_limits.ensures.once)
