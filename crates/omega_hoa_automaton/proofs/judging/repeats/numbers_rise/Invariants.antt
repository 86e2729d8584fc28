-- What holds in the loop of `numbers_rise`: the numbers so far are below the bound, and no two are alike.
use Rattle.std.proofs.Common.{◌≡◌, ◌≤◌, ◌^◌, false, nat_eq, map, take}
use Rattle.omega_hoa_syntax.specs.declared.raw_state.RawState.{RawState}
use Rattle.omega_hoa_automaton.specs.Automaton.{has_repeat}
use Rattle.omega_hoa_automaton.specs.Faults.{count_above}
use Rattle.omega_hoa_automaton.proofs.judging.repeats.numbers_rise.Given as goal

abbrev pub invariant-loop-state : goal.invariant-loop-state
invariant-loop-state l = record {
  bound : count_above (take l.state-index (map (λ (state : RawState). state.number) l.states)) ≡ l.bound;
  unlike : has_repeat nat_eq (take l.state-index (map (λ (state : RawState). state.number) l.states)) ≡ false;
  range : l.bound ≤ 2 ^ 32;
}
