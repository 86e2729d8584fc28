-- the states so far
use Rattle.std.proofs.Common.{◌≡◌, ◌++◌, map, take}
use Rattle.omega_lang_trim.specs.Written.{state_written}
use Rattle.omega_lang_union.specs.Parts.{states_in}
use Rattle.omega_lang_union.specs.private.Operands.{part_of}
use Rattle.omega_lang_union.proofs.states.push_states.Given as goal

abbrev pub invariant-loop-state : goal.invariant-loop-state
invariant-loop-state l =
    l.states.items ≡ l.initial.states.items ++ map state_written (states_in (part_of l.operand) (take l.state-index l.operand.automaton.now.defined))
