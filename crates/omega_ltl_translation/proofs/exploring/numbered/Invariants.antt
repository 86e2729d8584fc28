use Rattle.std.proofs.Common.{◌≡◌, take}
use Rattle.std.specs.Prelude.{Contains}
use Rattle.omega_ltl_shapes.specs.declared.term.Term.{Term}
use Rattle.omega_ltl_translation.specs.private.Graphs.{AddsStates, AreNumbered, states_of}
use Rattle.omega_ltl_translation.proofs.exploring.numbered.Given as goal

-- the terms so far are edges, and their states are there
abbrev pub invariant-loop-term : goal.invariant-loop-term
invariant-loop-term l = record {
  numbered : AreNumbered l.states.items (take l.term-index l.terms) l.edges.items;
  adds : AddsStates (λ state. (term : Term) × Contains l.terms term × (term.next ≡ state)) l.fn.states.items l.states.items;
  found : states_of l.found.keys ≡ l.states.items;
}
