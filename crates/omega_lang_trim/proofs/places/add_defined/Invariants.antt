-- the numbers so far
use Rattle.std.proofs.Common.{◌≡◌, map, take}
use Rattle.omega_hoa_automaton.specs.declared.state.State.{State}
use Rattle.omega_lang_trim.proofs.places.add_defined.Given as goal

abbrev pub invariant-loop-state : goal.invariant-loop-state
invariant-loop-state l = l.numbers.keys ≡ map (λ (state : State). state.number) (take l.state-index l.automaton.defined)
