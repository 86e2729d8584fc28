-- `first_state_twice`: the first number that comes twice is among those that are left, after those that are seen.
use Rattle.std.proofs.Common.{◌≡◌, nat_eq, [], drop, map}
use Rattle.omega_hoa_syntax.specs.declared.raw_state.RawState.{RawState}
use Rattle.omega_hoa_diagnostics.specs.Finding.{first_repeat}
use Rattle.omega_hoa_diagnostics.proofs.states.first_state_twice.Given as goal

abbrev pub invariant-loop-state : goal.invariant-loop-state
invariant-loop-state l =
    first_repeat nat_eq l.seen.keys (drop l.state-index (map (λ (state : RawState). state.number) l.states))
    ≡ first_repeat nat_eq [] (map (λ (state : RawState). state.number) l.states)
