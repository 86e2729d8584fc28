-- The automaton of a graph as a text writes it (HOA v1, header and body).
use Rattle.std.specs.Prelude.{◌≡◌, ◌↔◌, ◌<◌, ◌≤◌, ◌*◌, ◌⊎◌, ℕ, Bool, false, IsTrue, List, [], ◌∷◌, length}
use Rattle.std.specs.Prelude.{Contains, Option, None, Some}
use Rattle.std.specs.List.{AllZip, range_with_len}
use Rattle.omega_hoa_acceptance.specs.Kind.{buchi_formula}
use Rattle.omega_hoa_acceptance.specs.Writing.{acc_written}
use Rattle.omega_hoa_automaton.specs.Meaning.{written_marks}
use Rattle.omega_hoa_label.specs.Label.{LabelTree, label_size, truth}
use Rattle.omega_hoa_label.specs.Writing.{label_written}
use Rattle.omega_hoa_syntax.specs.declared.raw_automaton.RawAutomaton.{RawAutomaton}
use Rattle.omega_hoa_syntax.specs.declared.raw_edge.RawEdge.{RawEdge}
use Rattle.omega_hoa_syntax.specs.declared.raw_item.RawItem.{RawItem}
use Rattle.omega_hoa_syntax.specs.declared.raw_item.RawItem.TheVariants as item
use Rattle.omega_hoa_syntax.specs.declared.raw_state.RawState.{RawState}
use Rattle.omega_lang_product.specs.Acceptance.{buchi_name}
use Rattle.omega_ltl_shapes.specs.Covers.{is_set}
use Rattle.omega_ltl_translation.specs.Limits.{most_edge_label}
use Rattle.omega_ltl_translation.specs.declared.graph.GraphEdge.{GraphEdge}
use Rattle.omega_ltl_translation.specs.declared.joining.JoinedEdge.{JoinedEdge}
use Rattle.omega_ltl_translation.specs.private.Graphs.{edges_of_state}
use Rattle.omega_ltl_translation.specs.private.Joining.{AreJoined}
use Rattle.omega_ltl_translation.specs.private.Labels.{SomeIsTrue}

-- the item of the name, if there is one
abbrev pub name_items : Option (List ℕ) → List RawItem
name_items None = []
name_items (Some bytes) = item.Name bytes ∷ []

-- the header
abbrev pub header : Option (List ℕ) → List (List ℕ) → (states sets : ℕ) → List RawItem
header name propositions states sets = item.States states ∷ item.Start (0 ∷ [])
    ∷ item.Propositions (length propositions) propositions ∷ item.AccName (buchi_name sets)
    ∷ item.Acceptance sets (acc_written (buchi_formula sets)) ∷ name_items name

-- marks are the sets below a count in which an edge is not late
abbrev pub AreMarksOf : (sets late : ℕ) → List ℕ → Type 0
AreMarksOf sets late marks =
    (set : ℕ) → Contains marks set ↔ ((set < sets) × (is_set late set ≡ false))

-- a set is added to marks if an edge is not late in it
pub record AddsMark (late set : ℕ) (old new : List ℕ) : Type 0 where
  pub exact : (mark : ℕ)
      → Contains new mark ↔ (Contains old mark ⊎ ((mark ≡ set) × (is_set late set ≡ false)))

-- joined edges as one edge: it is taken where one of their cubes is true
pub record IsWrittenEdge (sets : ℕ) (joined : JoinedEdge) (raw : RawEdge) : Type 0 where
  pub label : LabelTree
  pub label_is : raw.label ≡ Some (label_written label)
  pub exact : (letter : ℕ → Bool) → IsTrue (truth letter label) ↔ SomeIsTrue joined.cubes.items letter
  pub small : label_size label ≤ length joined.cubes.items * most_edge_label
  pub targets : raw.targets ≡ joined.target ∷ []
  pub marks : AreMarksOf sets joined.late (written_marks raw.marks)

-- the edges of a state, joined
pub record AreWrittenEdges (sets : ℕ) (edges : List GraphEdge) (raw : List RawEdge) : Type 0 where
  pub joined : List JoinedEdge
  pub are_joined : AreJoined edges joined
  pub written : AllZip (IsWrittenEdge sets) joined raw

-- the state with a number and its edges
pub record IsWrittenState (sets number : ℕ) (edges : List GraphEdge) (raw : RawState) : Type 0 where
  pub label : raw.label ≡ None
  pub number_is : raw.number ≡ number
  pub marks : raw.marks ≡ None
  pub edges_are : AreWrittenEdges sets edges raw.edges

-- the first states of a graph, by their numbers
abbrev pub AreWrittenStates : ℕ → List (List GraphEdge) → ℕ → List RawState → Type 0
AreWrittenStates sets edges count raw =
    AllZip (λ number. IsWrittenState sets number (edges_of_state edges number)) (range_with_len 0 count) raw

-- the automaton of a graph with a name and propositions
pub record IsWrittenGraph (name : Option (List ℕ)) (propositions : List (List ℕ)) (sets : ℕ)
    (edges : List (List GraphEdge)) (raw : RawAutomaton) : Type 0 where
  pub items : raw.items ≡ header name propositions (length edges) sets
  pub states : AreWrittenStates sets edges (length edges) raw.states
