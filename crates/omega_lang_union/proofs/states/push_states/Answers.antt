-- a label of a state that is too deep
use Rattle.std.proofs.Common.{◌≡◌, ◌<◌, List, get_or, length, ap, arith}
use Rattle.omega_hoa_automaton.specs.declared.state.State.{State}
use Rattle.omega_hoa_edges.proofs.Refusals.{large_weaker, passed_on}
use Rattle.omega_lang_trim.specs.private.Writing.{HasDeepLabel, StatesHaveDeepLabel}
use Rattle.omega_lang_union.specs.Parts.{Part, state_in, states_in}
use Rattle.omega_lang_union.specs.private.Operands.{part_of}
use Rattle.omega_lang_union.proofs.Parts.{state_among}
use Rattle.omega_lang_union.proofs.states.push_states.Goals as goal

pub returns-in_err-raw-clause-err : goal.returns-in_err-raw-clause-err
returns-in_err-raw-clause-err c =
    let part : Part = part_of c.args.operand.now in
    let states : List State = c.args.operand.now.automaton.now.defined in
    let here : c.state-item.result ≡ get_or states c.loop-state.state-index c.state-item.result = cc in
    let below : c.loop-state.state-index < length states = omega (arith, ap length c.defined-state-items.ensures) in
    passed_on c.from_residual.result _ _ c.from_residual.ensures.1
    (large_weaker (HasDeepLabel (state_in part c.state-item.result)) (StatesHaveDeepLabel (states_in part states))
    (λ deep. (state_in part c.state-item.result, state_among part states c.loop-state.state-index c.state-item.result below here, deep))
    _ c.in_err-raw.ensures.err)
