-- States of a body and their edges: states and sets below their counts, labels within theirs.
use Rattle.std.proofs.Common.{◌≡◌, ℕ, ◌<◌, false, nat_le, List, [], ◌∷◌, length, get_or, Option, Some, None, IfSome, All, sym, subst, arith}
use Rattle.std.specs.List.{list_any}
use Rattle.std.proofs.lemmas.Bool.{leb-false}
use Rattle.std.proofs.lemmas.List.Elements.{All-contains, All-nil, Contains-get_or}
use Rattle.omega_hoa_label_text.specs.Expanding.{Defined, expansion}
use Rattle.omega_hoa_label.specs.Label.{LabelTree}
use Rattle.omega_hoa_label.specs.Raw.{RawLabelTree}
use Rattle.omega_hoa_syntax.specs.declared.raw_edge.RawEdge.{RawEdge}
use Rattle.omega_hoa_syntax.specs.declared.raw_state.RawState.{RawState}
use Rattle.omega_hoa_automaton.specs.Automaton.{AreBelow, AreMarks, AreTargets, Description, IsEdge, IsLabel, IsState}
use Rattle.omega_hoa_automaton.specs.Faults.{are_out_of_range, is_beyond, is_labelled, is_marked, is_out_of_range, passes}
use Rattle.omega_hoa_automaton.specs.Meaning.{AreMarksOf, IsEdgeOf, IsLabelOf, IsStateOf, written_marks}
use Rattle.omega_hoa_automaton.specs.declared.edge.Edge.{Edge}
use Rattle.omega_hoa_automaton.specs.declared.state.State.{State}
use Rattle.omega_hoa_automaton.proofs.validity.Labels.{expansion_below, tree_below, tree_shallow, tree_small}
use Rattle.omega_hoa_automaton.proofs.validity.Tests.{all_below, all_fail, neither, zip_all}

-- definitions that mention no proposition beyond a count
abbrev pub AreWithin : ℕ → List Defined → Type 0
AreWithin count definitions = All (λ defined. is_beyond count defined.body ≡ false) definitions

-- states that are not out of range: there are some, all below the count
pub targets_well : (a : Description) (states : List ℕ) → are_out_of_range a.states states ≡ false → AreTargets a states
targets_well a [] h = absurd (let no : ⊥ = cc in no)
targets_well a (state ∷ states) h = record { listed = omega arith; below = all_below a.states (state ∷ states) h }

-- marks that are written below the count
written_below : (count : ℕ) (written : Option (List ℕ)) → passes (list_any (nat_le count)) written ≡ false → AreBelow count (written_marks written)
written_below count None h = All-nil (λ mark. mark < count)
written_below count (Some marks) h = all_below count marks h

-- marks that are written below the count of sets are marks of the automaton
marks_well : (a : Description) (written : Option (List ℕ)) (marks : List ℕ) → passes (list_any (nat_le a.sets)) written ≡ false
    → AreMarksOf (written_marks written) marks → AreMarks a marks
marks_well a written marks h are = record {
  rising = are.rising;
  below = λ k d within. All-contains (λ mark. mark < a.sets) (written_marks written) (get_or marks k d) (written_below a.sets written h)
      ((are.same (get_or marks k d)).0 (Contains-get_or marks k d within));
}

-- a label that is written within the count of propositions is a label of the automaton
label_well : (a : Description) (definitions : List Defined) (written : Option RawLabelTree) (label : Option LabelTree)
    → AreWithin (length a.propositions) definitions → passes (is_beyond (length a.propositions)) written ≡ false
    → IsLabelOf definitions written label → IfSome label (IsLabel a)
label_well a definitions written None bodies h is = tt
label_well a definitions None (Some label) bodies h is = absurd is
label_well a definitions (Some raw) (Some label) bodies h is = record {
  below = tree_below (length a.propositions) (expansion definitions raw) label (expansion_below (length a.propositions) definitions raw bodies h) is.tree_is;
  shallow = tree_shallow definitions raw label is.sound is.tree_is;
  small = tree_small (expansion definitions raw) label is.sound is.tree_is;
}

-- an edge that is written without these faults
record IsEdgeWell (a : Description) (raw : RawEdge) : Type 0 where
  targets : are_out_of_range a.states raw.targets ≡ false
  marks : passes (list_any (nat_le a.sets)) raw.marks ≡ false
  label : passes (is_beyond (length a.propositions)) raw.label ≡ false

-- is an edge of the automaton
edge_well : (a : Description) (definitions : List Defined) → AreWithin (length a.propositions) definitions
    → (raw : RawEdge) (edge : Edge) → IsEdgeWell a raw → IsEdgeOf definitions raw edge → IsEdge a edge
edge_well a definitions bodies raw edge well is = record {
  label = label_well a definitions raw.label edge.label bodies well.label is.label;
  targets = subst (AreTargets a) (sym is.targets) (targets_well a raw.targets well.targets);
  marks = marks_well a raw.marks edge.marks well.marks is.marks;
}

-- a state that is written without these faults
pub record IsStateWell (a : Description) (raw : RawState) : Type 0 where
  pub states : is_out_of_range a.states raw ≡ false
  pub sets : is_marked (nat_le a.sets) raw ≡ false
  pub labels : is_labelled (is_beyond (length a.propositions)) raw ≡ false

-- has edges without these faults
edges_well : (a : Description) (raw : RawState) → IsStateWell a raw → All (IsEdgeWell a) raw.edges
edges_well a raw well =
    let targets = all_fail (λ edge. are_out_of_range a.states edge.targets) raw.edges (neither _ _ well.states).1 in
    let marks = all_fail (λ edge. passes (list_any (nat_le a.sets)) edge.marks) raw.edges (neither _ _ well.sets).1 in
    let labels = all_fail (λ edge. passes (is_beyond (length a.propositions)) edge.label) raw.edges (neither _ _ well.labels).1 in
    λ k d within. record { targets = targets k d within; marks = marks k d within; label = labels k d within }

-- and is a state of the automaton
pub state_well : (a : Description) (definitions : List Defined) → AreWithin (length a.propositions) definitions
    → (raw : RawState) (state : State) → IsStateWell a raw → IsStateOf definitions raw state → IsState a state
state_well a definitions bodies raw state well is =
    let number : raw.number < a.states = leb-false a.states raw.number (neither _ _ well.states).0 in
    let same : state.number ≡ raw.number = is.number in
    record {
      label = label_well a definitions raw.label state.label bodies (neither _ _ well.labels).0 is.label;
      number = omega arith;
      marks = marks_well a raw.marks state.marks (neither _ _ well.sets).0 is.marks;
      edges = zip_all (IsEdgeWell a) (IsEdgeOf definitions) (IsEdge a) (edge_well a definitions bodies) raw.edges state.edges (edges_well a raw well) is.edges;
    }
