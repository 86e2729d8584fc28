-- A product as a text writes it, before it is judged. Labels and the acceptance have parentheses only where they need
-- them.
use Rattle.std.specs.Prelude.{◌≡◌, ℕ, ◌+◌, List, [], ◌∷◌, ◌++◌, length, map, Option, Some, None}
use Rattle.omega_hoa_acceptance.specs.Acceptance.{AccTree}
use Rattle.omega_hoa_acceptance.specs.Raw.{RawAccTree}
use Rattle.omega_hoa_label.specs.Writing.{label_written}
use Rattle.omega_hoa_acceptance.specs.Writing.{acc_written}
use Rattle.omega_hoa_acceptance.specs.declared.name.AccName.{AccName}
use Rattle.omega_hoa_automaton.specs.Automaton.{Description}
use Rattle.omega_hoa_automaton.specs.Written.{raw_automaton}
use Rattle.omega_hoa_automaton.specs.Meaning.{Means}
use Rattle.omega_hoa_syntax.specs.declared.raw_automaton.RawAutomaton.{RawAutomaton}
use Rattle.omega_hoa_syntax.specs.declared.raw_edge.RawEdge.{RawEdge}
use Rattle.omega_hoa_syntax.specs.declared.raw_item.RawItem.{RawItem}
use Rattle.omega_hoa_syntax.specs.declared.raw_item.RawItem.TheVariants as item
use Rattle.omega_hoa_syntax.specs.declared.raw_state.RawState.{RawState}
use Rattle.omega_lang_product.specs.Joining.{joined_names}
use Rattle.omega_lang_product.specs.Pairs.{AreReached, Pair, pair_name, pair_number, start_pairs}
use Rattle.omega_lang_product.specs.Acceptance.{IsJointAcceptance}
use Rattle.omega_lang_product.specs.Product.{joint_edges_of}
use Rattle.omega_lang_product.specs.declared.plain_edge.PlainEdge.{PlainEdge}

-- an edge
abbrev pub raw_edge : PlainEdge → RawEdge
raw_edge plain_edge = record {
  label = Some (label_written plain_edge.label);
  targets = plain_edge.target ∷ [];
  marks = Some plain_edge.marks;
}

-- the state of a pair
abbrev pub raw_state_of : Description → Description → List Pair → Pair → RawState
raw_state_of one other pairs pair = record {
  label = None;
  number = pair_number pairs pair;
  name = Some (pair_name one other pair);
  marks = None;
  edges = map raw_edge (joint_edges_of one other pairs pair);
}

-- the states of all pairs
abbrev pub raw_states : Description → Description → List Pair → List RawState
raw_states one other pairs = map (raw_state_of one other pairs) pairs

-- the start of a pair
abbrev pub raw_start : List Pair → Pair → RawItem
raw_start pairs pair = item.Start (pair_number pairs pair ∷ [])

-- the item that names an acceptance, if it has a name
abbrev pub name_items : Option AccName → List RawItem
name_items None = []
name_items (Some name) = item.AccName name ∷ []

-- the header, by the names of the propositions, the number of sets, the name and the formula of the acceptance, the
-- pairs of starts, and all pairs
abbrev pub raw_items : List (List ℕ) → ℕ → Option AccName → RawAccTree → List Pair
    → List Pair → List RawItem
raw_items names sets name formula starts pairs = (item.States (length pairs)
    ∷ item.Propositions (length names) names ∷ item.Acceptance sets formula ∷ [])
    ++ name_items name ++ map (raw_start pairs) starts

-- the product of two automata with these pairs and this acceptance
abbrev pub raw_product : Description → Description → List Pair → Option AccName
    → RawAccTree → RawAutomaton
raw_product one other pairs name formula =
    let names = joined_names one.propositions other.propositions in
    let items = raw_items names (one.sets + other.sets) name formula (start_pairs one other) pairs in
    raw_automaton items (raw_states one other pairs)

-- this is the acceptance of a product, as a text writes it
pub record IsAcceptanceWritten (one other : Description) (name : Option AccName)
    (formula : RawAccTree) : Type 0 where
  pub tree : AccTree
  pub joint : IsJointAcceptance one other name tree
  pub written : formula ≡ acc_written tree

-- this is the product of two automata, as a text writes it
pub record IsWrittenProduct (one other : Description) (written : RawAutomaton) : Type 0 where
  pub pairs : List Pair
  pub reached : AreReached one other pairs
  pub name : Option AccName
  pub formula : RawAccTree
  pub accepted : IsAcceptanceWritten one other name formula
  pub is : written ≡ raw_product one other pairs name formula

-- the automaton is the meaning of such a written product
pub record IsWritten (one other a : Description) : Type 0 where
  pub written : RawAutomaton
  pub product : IsWrittenProduct one other written
  pub means : Means written a
