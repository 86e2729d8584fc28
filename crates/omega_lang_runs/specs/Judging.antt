-- Which edges are usable, judged one by one; which labels are wide, and which may be given up undecided.
use Rattle.std.specs.Prelude.{◌≡◌, ◌⊎◌, ◌↔◌, ℕ, ◌<◌, ◌≤◌, Bool, true, IsTrue, List, []}
use Rattle.std.specs.Prelude.{◌∷◌, Contains, length, Option, Some, IfSome, slice_get}
use Rattle.omega_hoa_label.specs.Label.{LabelTree}
use Rattle.omega_hoa_expression.specs.Limits.{most_mentioned}
use Rattle.omega_hoa_satisfiable.specs.Satisfiable.{mentioned}
use Rattle.omega_hoa_satisfiable.specs.Undecided.{IsHardLabel}
pub use Rattle.omega_hoa_satisfiable.specs.Undecided.{GivesUpOn, IsHard, IsLabelWith}
use Rattle.omega_hoa_automaton.specs.Automaton.{BodyEdge, Description, edge_at, edge_count, edges_of}
use Rattle.omega_hoa_automaton.specs.declared.edge.Edge.{Edge}
use Rattle.omega_hoa_automaton.specs.declared.state.State.{State}
use Rattle.omega_lang_runs.specs.Lasso.{IsUsable}

-- the entries say which edges are usable, by number
pub record AreUsable (a : Description) (usable : List Bool) : Type 0 where
  pub entries : length usable ≡ edge_count a
  pub judged : (number : ℕ) (edge : BodyEdge) → edge_at a number ≡ Some edge
      → (slice_get usable number ≡ Some true) ↔ IsUsable edge

-- each entry says whether the edge at its index is usable
abbrev pub AreJudged : List BodyEdge → List Bool → Type 0
AreJudged [] [] = Unit {0}
AreJudged [] (entry ∷ entries) = ⊥
AreJudged (edge ∷ edges) [] = ⊥
AreJudged (edge ∷ edges) (entry ∷ entries) = (IsTrue entry ↔ IsUsable edge) × AreJudged edges entries

-- the label, if there is one, mentions at most `most_mentioned` propositions
abbrev pub IsNarrowLabel : Option LabelTree → Type 0
IsNarrowLabel label = IfSome label (λ tree. length (mentioned tree) ≤ most_mentioned)

-- the label mentions over `most_mentioned` propositions
abbrev pub IsWideLabel : LabelTree → Type 0
IsWideLabel tree = most_mentioned < length (mentioned tree)

-- there is a label, and it is wide
abbrev pub IsWide : Option LabelTree → Type 0
IsWide label = IsLabelWith IsWideLabel label

-- the labels of the state and of its edges are narrow
pub record HasNarrow (state : State) : Type 0 where
  pub own : IsNarrowLabel state.label
  pub edges : (edge : Edge) → Contains state.edges edge → IsNarrowLabel edge.label

-- the label of the state or of one of its edges has the property
abbrev pub HasLabelWith : (LabelTree → Type 0) → State → Type 0
HasLabelWith Has state = IsLabelWith Has state.label
    ⊎ ((edge : Edge) × Contains state.edges edge × IsLabelWith Has edge.label)

-- the label of the state or of one of its edges is wide
abbrev pub HasWide : State → Type 0
HasWide state = HasLabelWith IsWideLabel state

-- the label of the state or of one of its edges may be given up undecided
abbrev pub HasHard : State → Type 0
HasHard state = HasLabelWith IsHardLabel state

-- the label of some state or of some edge
abbrev pub IsLabelIn : Description → LabelTree → Type 0
IsLabelIn a label =
    ((state : State) × Contains a.defined state × (state.label ≡ Some label))
    ⊎ ((edge : BodyEdge) × Contains (edges_of a) edge × (edge.edge.label ≡ Some label))

-- some label of the automaton mentions over `most_mentioned` propositions
abbrev pub HasWideLabel : Description → Type 0
HasWideLabel a = (label : LabelTree) × IsLabelIn a label × IsWideLabel label

-- some label of the automaton may be given up undecided
abbrev pub HasHardLabel : Description → Type 0
HasHardLabel a = (label : LabelTree) × IsLabelIn a label × IsHardLabel label

-- each label of the automaton mentions at most `most_mentioned` propositions
abbrev pub HasNarrowLabels : Description → Type 0
HasNarrowLabels a =
    (label : LabelTree) → IsLabelIn a label → length (mentioned label) ≤ most_mentioned
