-- `write_states`: a state more is drawn.
use Rattle.std.proofs.Common.{◌≡◌, ℕ, ◌<◌, List, ◌++◌, length, get_or, ap, ◌∙◌, arith}
use Rattle.omega_hoa_automaton.specs.declared.state.State.{State}
use Rattle.omega_hoa_dot.specs.States.{drawn_state}
use Rattle.omega_text.proofs.Rows.{text_more}
use Rattle.omega_hoa_dot.proofs.states.write_states.Goals as goal

pub loop-state-preserved : goal.loop-state-preserved
loop-state-preserved c =
    let states : List State = c.args.automaton.now.defined in
    let index : ℕ = c.loop-state.state-index in
    let here : c.state-item.result ≡ get_or states index c.state-item.result = cc in
    let below : index < length states = omega (arith, ap length c.defined-state-items.ensures) in
    text_more (drawn_state c.args.automaton.now.propositions) states index c.state-item.result c.args.out.now.items c.loop-state.out.items _
    below c.loop-state.invariant
    (c.in_ok-write_state.ensures.ok ∙ ap (λ state. c.loop-state.out.items ++ drawn_state c.args.automaton.now.propositions state) here)
