-- What holds in the loop of `full_edges_of`: the edges so far are made.
use Rattle.std.specs.List.{AllZip}
use Rattle.omega_hoa_automaton.specs.Meaning.{IsEdgeOf}
use Rattle.omega_hoa_automaton.proofs.making.states.full_edges_of.Given as goal

abbrev pub invariant-loop-edge : goal.invariant-loop-edge
invariant-loop-edge l = AllZip (IsEdgeOf l.aliases) l.yielded l.made.items
