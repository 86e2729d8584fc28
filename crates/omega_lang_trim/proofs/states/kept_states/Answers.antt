-- why a state can't be written
use Rattle.std.proofs.Common.{◌≡◌, ◌<◌, ℕ, List, get_or, length, ap, subst, sym, ◌∙◌, arith}
use Rattle.omega_hoa_automaton.specs.declared.state.State.{State}
use Rattle.omega_hoa_edges.proofs.Refusals.{large_weaker, passed_on}
use Rattle.omega_lang_trim.specs.Trimmed.{state_kept, states_kept}
use Rattle.omega_lang_trim.specs.private.Writing.{HasDeepLabel, StatesHaveDeepLabel}
use Rattle.omega_lang_trim.proofs.Kept.{state_among}
use Rattle.omega_lang_trim.proofs.states.kept_states.Goals as goal

pub returns-in_err-kept_state-clause-err : goal.returns-in_err-kept_state-clause-err
returns-in_err-kept_state-clause-err c =
    let kept : List ℕ = c.args.kept.now.keys in
    let states : List State = c.args.automaton.now.defined in
    let count : ℕ = length c.propositions-count.result.now in
    let here : c.state-item.result ≡ get_or states c.loop-state.state-index c.state-item.result = cc in
    let below : c.loop-state.state-index < length states = omega (arith, ap length c.defined-state-items.ensures) in
    passed_on c.from_residual-in_err-kept_state.result _ _ c.from_residual-in_err-kept_state.ensures.1
    (large_weaker (HasDeepLabel (state_kept kept count c.state-item.result)) (StatesHaveDeepLabel (states_kept kept (length c.args.automaton.now.propositions) states))
    (λ deep. subst (λ (n : ℕ). StatesHaveDeepLabel (states_kept kept n states)) (ap length c.propositions-count.ensures) (
      state_kept kept count c.state-item.result,
      state_among kept count states c.loop-state.state-index c.state-item.result below here (sym c.stays.ensures ∙ c.if-stays.true),
      deep,
    ))
    _ c.in_err-kept_state.ensures.err)
