-- What holds in the loop of `states_of`: the states so far are made.
use Rattle.std.specs.List.{AllZip}
use Rattle.omega_hoa_automaton.specs.Meaning.{IsStateOf}
use Rattle.omega_hoa_automaton.proofs.making.states.states_of.Given as goal

abbrev pub invariant-loop-state : goal.invariant-loop-state
invariant-loop-state l = AllZip (IsStateOf l.aliases) l.yielded l.made.items
