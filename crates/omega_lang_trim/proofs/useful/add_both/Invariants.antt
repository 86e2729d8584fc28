-- the states so far with both flags
use Rattle.std.proofs.Common.{map, take}
use Rattle.omega_hoa_automaton.specs.declared.state.State.{State}
use Rattle.omega_lang_trim.proofs.Flags.{Have}
use Rattle.omega_lang_trim.proofs.useful.add_both.Given as goal

abbrev pub invariant-loop-state : goal.invariant-loop-state
invariant-loop-state l =
    Have l.places.keys l.flags.reached.now l.flags.live.now (map (λ (s : State). s.number) (take l.state-index l.automaton.defined)) l.kept.keys
