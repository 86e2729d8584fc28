-- What holds in the loop of `sees_number_twice`: the numbers so far are seen, and no two are alike.
use Rattle.std.proofs.Common.{◌≡◌, ℕ, false, nat_eq, map, take}
use Rattle.omega_hoa_syntax.specs.declared.raw_state.RawState.{RawState}
use Rattle.omega_hoa_automaton.specs.Automaton.{has_repeat}
use Rattle.omega_hoa_automaton.proofs.judging.repeats.sees_number_twice.Given as goal

abbrev pub invariant-loop-state : goal.invariant-loop-state
invariant-loop-state l =
    (map (λ (key : ℕ). key) l.seen.keys ≡ take l.state-index (map (λ (state : RawState). state.number) l.states))
    × (has_repeat nat_eq (take l.state-index (map (λ (state : RawState). state.number) l.states)) ≡ false)
