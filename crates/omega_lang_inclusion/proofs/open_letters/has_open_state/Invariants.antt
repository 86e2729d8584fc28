-- no state so far is open
use Rattle.omega_hoa_automaton.specs.declared.state.State.{State}
use Rattle.omega_lang_inclusion.specs.private.Opened.{CanBeBoth, first_label}
use Rattle.omega_lang_inclusion.proofs.Below.{NoneBelow}
use Rattle.omega_lang_inclusion.proofs.open_letters.has_open_state.Given as goal

abbrev pub invariant-loop-state : goal.invariant-loop-state
invariant-loop-state l = NoneBelow (λ (state : State). CanBeBoth l.held l.unheld (first_label state.edges)) l.states l.state-index
