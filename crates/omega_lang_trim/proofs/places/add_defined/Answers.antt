-- each number is new
use Rattle.std.proofs.Common.{◌≡◌, ◌<◌, length, get_or, ap, arith}
use Rattle.omega_hoa_automaton.specs.declared.state.State.{State}
use Rattle.omega_hoa_edges.proofs.NewNumbers.{number_is_new}
use Rattle.omega_lang_trim.proofs.places.add_defined.Goals as goal

pub add-requires : goal.add-requires
add-requires c =
    let here : c.state-item.result ≡ get_or c.args.automaton.now.defined c.loop-state.state-index c.state-item.result = cc in
    let below : c.loop-state.state-index < length c.args.automaton.now.defined = omega (arith, ap length c.defined-state-items.ensures) in
    record { further = rw c.loop-state.invariant (number_is_new (λ (state : State). state.number) c.args.automaton.now.defined c.loop-state.state-index c.state-item.result below here c.keeps_limits.ensures.once) }
