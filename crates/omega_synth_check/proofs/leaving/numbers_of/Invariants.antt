-- the numbers so far
use Rattle.std.proofs.Common.{◌≡◌, map, take, nat_eq}
use Rattle.std.specs.List.{IsDistinct}
use Rattle.omega_hoa_automaton.specs.declared.state.State.{State}
use Rattle.omega_synth_check.proofs.leaving.numbers_of.Given as goal

abbrev pub invariant-loop-state : goal.invariant-loop-state
invariant-loop-state l =
    (l.numbers.keys ≡ map (λ (state : State). state.number) (take l.state-index l.automaton.defined)) × IsDistinct nat_eq l.numbers.keys
