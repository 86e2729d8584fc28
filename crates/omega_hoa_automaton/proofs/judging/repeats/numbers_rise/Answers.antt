-- `numbers_rise`: a number that is not below the bound is not one of those before it.
use Rattle.std.proofs.Common.{◌≡◌, ◌+◌, ◌<◌, ℕ, List, map, length, get_or, ap, sym, ◌∙◌, arith}
use Rattle.std.proofs.lemmas.List.{get_or-map, length-map}
use Rattle.omega_hoa_syntax.specs.declared.raw_state.RawState.{RawState}
use Rattle.omega_hoa_automaton.proofs.RisingLemmas.{rising_step}
use Rattle.omega_hoa_automaton.proofs.judging.repeats.numbers_rise.Goals as goal

-- the numbers of states
abbrev numbers : List RawState → List ℕ
numbers states = map (λ (state : RawState). state.number) states

-- the number at a place
number_at : (states : List RawState) (i : ℕ) (state : RawState) → i < length states → state ≡ get_or states i state → state.number ≡ get_or (numbers states) i 0
number_at states i state within is = ap (λ (s : RawState). s.number) is ∙ sym (get_or-map (λ (s : RawState). s.number) states i state 0 within)

pub loop-state-preserved : goal.loop-state-preserved
loop-state-preserved c =
    let step =
    rising_step (numbers c.args.states.now) c.loop-state.state-index c.state-item.result.number c.loop-state.bound
    (simp length-map c.loop-state-test.true) (number_at c.args.states.now c.loop-state.state-index c.state-item.result c.loop-state-test.true c.state-item.is)
    (omega arith) c.loop-state.invariant.bound c.loop-state.invariant.unlike in
    let same : c.state-item.result.number + 1 ≡ c.from-number.result + 1 = omega arith in
    record { bound = step.0 ∙ same; unlike = step.1; range = omega arith }
