-- the states so far that stay
use Rattle.std.proofs.Common.{◌≡◌, map, take}
use Rattle.omega_lang_trim.specs.Written.{state_written}
use Rattle.omega_lang_trim.specs.Trimmed.{states_kept}
use Rattle.omega_lang_trim.proofs.states.kept_states.Given as goal

abbrev pub invariant-loop-state : goal.invariant-loop-state
invariant-loop-state l = l.states.items ≡ map state_written (states_kept l.kept.keys l.count (take l.state-index l.automaton.defined))
