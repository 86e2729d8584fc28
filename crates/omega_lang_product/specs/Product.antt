-- The product of two automata, which accepts the words that both accept.
use Rattle.std.specs.Prelude.{◌≡◌, ◌+◌, List, [], ◌∷◌, ◌++◌, length, map, Some, None}
use Rattle.std.specs.List.{AllZip, flat_map}
use Rattle.omega_hoa_edges.specs.Conjuncts.{joined}
use Rattle.omega_hoa_automaton.specs.Automaton.{Description}
use Rattle.omega_hoa_automaton.specs.Meaning.{AreMarksOf}
use Rattle.omega_hoa_automaton.specs.declared.edge.Edge.{Edge}
use Rattle.omega_hoa_automaton.specs.declared.state.State.{State}
use Rattle.omega_lang_product.specs.Acceptance.{IsJointAcceptance}
use Rattle.omega_lang_product.specs.Joining.{joined_names}
use Rattle.omega_lang_product.specs.Pairs.{AreReached, Pair, first_leaving, pair_name}
use Rattle.omega_lang_product.specs.Pairs.{pair_number, partners, second_leaving, start_pairs}
use Rattle.omega_lang_product.specs.declared.plain_edge.PlainEdge.{PlainEdge}

-- the joint edge of an edge of the first and one of the second: its label has the conjuncts of both, each once
abbrev pub taken_together : List Pair → PlainEdge → PlainEdge → PlainEdge
taken_together pairs plain_edge other = record {
  label = joined plain_edge.label other.label;
  target = pair_number pairs (plain_edge.target, other.target);
  marks = plain_edge.marks ++ other.marks;
}

-- the joint edges of an edge of the first with those of a list
abbrev pub joint_with : List Pair → PlainEdge → List PlainEdge → List PlainEdge
joint_with pairs plain_edge others =
    map (taken_together pairs plain_edge) (partners plain_edge others)

-- the joint edges of two states, in the order of those of the first, and for each in the order of those of the second
abbrev pub joint_plain_edges : List Pair → List PlainEdge → List PlainEdge → List PlainEdge
joint_plain_edges pairs plain_edges others =
    flat_map (λ plain_edge. joint_with pairs plain_edge others) plain_edges

-- the joint edges of the two states of a pair
abbrev pub joint_edges_of : Description → Description → List Pair → Pair → List PlainEdge
joint_edges_of one other pairs pair =
    joint_plain_edges pairs (first_leaving one other pair) (second_leaving one other pair)

-- an edge of the product
pub record IsJointEdge (plain_edge : PlainEdge) (edge : Edge) : Type 0 where
  pub label : edge.label ≡ Some plain_edge.label
  pub targets : edge.targets ≡ plain_edge.target ∷ []
  pub marks : AreMarksOf plain_edge.marks edge.marks

-- a state of the product: a pair, by its number and its name, with the joint edges of its two states
pub record IsPairState (one other : Description) (pairs : List Pair) (pair : Pair)
    (state : State) : Type 0 where
  pub label : state.label ≡ None
  pub number : state.number ≡ pair_number pairs pair
  pub name : state.name ≡ Some (pair_name one other pair)
  pub marks : state.marks ≡ []
  pub edges : AllZip IsJointEdge (joint_edges_of one other pairs pair) state.edges

-- an automaton is the product of two
pub record IsProduct (one other a : Description) : Type 0 where
  pub pairs : List Pair
  pub reached : AreReached one other pairs
  pub tool : a.tool ≡ None
  pub name : a.name ≡ None
  pub states : a.states ≡ length pairs
  pub starts : a.starts ≡ map (λ pair. pair_number pairs pair ∷ []) (start_pairs one other)
  pub propositions : a.propositions ≡ joined_names one.propositions other.propositions
  pub sets : a.sets ≡ one.sets + other.sets
  pub accepted : IsJointAcceptance one other a.acc_name a.acceptance
  pub properties : a.properties ≡ []
  pub unknown : a.unknown ≡ []
  pub defined : AllZip (IsPairState one other pairs) pairs a.defined
