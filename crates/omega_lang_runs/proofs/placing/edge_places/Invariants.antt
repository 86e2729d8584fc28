-- `edge_places`: the edges of the states before this one have their places.
use Rattle.omega_lang_runs.proofs.Placed.{ArePlacedTo}
use Rattle.omega_lang_runs.proofs.placing.edge_places.Given as goal

abbrev pub invariant-loop-at : goal.invariant-loop-at
invariant-loop-at l = ArePlacedTo l.automaton l.at l.places.items
