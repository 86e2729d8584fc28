-- one state more
use Rattle.std.proofs.Common.{◌≡◌, ◌<◌, ℕ, List, true, length, get_or, below_more, subst, arith, rules}
use Rattle.std.proofs.lemmas.List.{get_or_read}
use Rattle.omega_hoa_automaton.specs.declared.state.State.{State}
use Rattle.omega_hoa_edges.specs.AutomatonLabels.{labels_of, undefined}
use Rattle.omega_hoa_edges.specs.Letters.{AreExclusive}
use Rattle.omega_synth_game.proofs.ExclusiveStates.{states_apart}
use Rattle.omega_synth_game.proofs.exclusive.are_seen_apart.Goals as goal

pub loop-state-preserved : goal.loop-state-preserved
loop-state-preserved c =
    let states : List State = c.defined-states.result.now in
    let index : ℕ = c.loop-state.state-index in
    let below : index < length states = omega (arith, c.loop-state-test.true) in
    let seen : c.in_ok-is_seen_apart.field-0 ≡ true = search rules in
    let here : c.state-item.result ≡ get_or states index (undefined 0) = get_or_read states index c.state-item.result below c.state-item.is (undefined 0) in
    below_more (λ place. (count : ℕ) → AreExclusive (labels_of count (get_or states place (undefined 0)))) index c.loop-state.invariant
    (λ count. subst (λ (state : State). AreExclusive (labels_of count state)) here (c.in_ok-is_seen_apart.ensures.apart seen count))

pub returns-clause-apart : goal.returns-clause-apart
returns-clause-apart c =
    let each : (place : ℕ) → place < length c.args.automaton.now.defined → (count : ℕ) → AreExclusive (labels_of count (get_or c.args.automaton.now.defined place (undefined 0))) =
    subst (λ (states : List State). (place : ℕ) → place < length states → (count : ℕ) → AreExclusive (labels_of count (get_or states place (undefined 0)))) c.defined-states.ensures
    (λ place below. c.loop-state.invariant place (omega (arith, below, c.loop-state-test.false))) in
    λ _. states_apart c.args.automaton.now each
