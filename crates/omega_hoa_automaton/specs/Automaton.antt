-- Omega-automata as values: their parts, their edges, and what each automaton keeps (HOA v1;
-- docs/formats.md, automata).
use Rattle.std.specs.Prelude.{◌≡◌, ◌==◌, ℕ, ◌+◌, ◌<◌, ◌≤◌, Bool, false, ◌||◌, if◌then◌else◌}
use Rattle.std.specs.Prelude.{List, [], ◌∷◌, ◌++◌, length}
use Rattle.std.specs.Prelude.{map, sum_by, nat_eq, Option, None, Some, All, IfSome, slice_get}
use Rattle.std.specs.List.{flat_map, list_any}
use Rattle.std.specs.List.Sorted.{IsStrictlyIncreasing}
use Rattle.std.specs.Str.{bytes_eq}
use Rattle.omega_hoa_acceptance.specs.Acceptance.{AccTree, acc_depth, conjunction}
use Rattle.omega_hoa_acceptance.specs.Acceptance.{constant, disjunction, fin, inf}
use Rattle.omega_hoa_label.specs.Label.{LabelTree, label_depth, label_size, propositions}
use Rattle.omega_hoa_expression.specs.Limits.{most_depth, most_size}
use Rattle.omega_hoa_acceptance.specs.declared.name.AccName.{AccName}
use Rattle.omega_hoa_automaton.specs.Limits.{most_propositions, most_total_size}
use Rattle.omega_hoa_automaton.specs.declared.edge.Edge.{Edge}
use Rattle.omega_hoa_automaton.specs.declared.header.Header.{Header}
use Rattle.omega_hoa_automaton.specs.declared.state.State.{State}
use Rattle.omega_hoa_automaton.specs.declared.tool.Tool.{Tool}

-- an automaton: its parts as docs/formats.md lists them
pub record Description : Type 0 where
  pub tool : Option Tool
  pub name : Option (List ℕ)
  pub states : ℕ
  pub starts : List (List ℕ)
  pub propositions : List (List ℕ)
  pub acc_name : Option AccName
  pub sets : ℕ
  pub acceptance : AccTree
  pub properties : List (List ℕ)
  pub unknown : List Header
  pub defined : List State

-- an edge of the body and the state that it leaves
pub record BodyEdge : Type 0 where
  pub source : State
  pub edge : Edge

-- the edges of a state in the order written
abbrev pub edges_from : State → List BodyEdge
edges_from state = map (λ edge. record { source = state; edge = edge }) state.edges

-- the edges of an automaton in the order written: the number of an edge is its place among them
abbrev pub edges_of : Description → List BodyEdge
edges_of a = flat_map edges_from a.defined

-- how many edges an automaton has
abbrev pub edge_count : Description → ℕ
edge_count a = length (edges_of a)

-- the edge of a number, or none if the number is not below the count of edges
abbrev pub edge_at : Description → ℕ → Option BodyEdge
edge_at a number = slice_get (edges_of a) number

-- how many edges the body has before those of the first state with a number
abbrev pub edges_before : List State → ℕ → ℕ
edges_before [] number = 0
edges_before (state ∷ states) number =
    if state.number == number then 0 else length state.edges + edges_before states number

-- whether some item of a list is the same as an earlier one
abbrev pub has_repeat : {X : Type 0} → (X → X → Bool) → List X → Bool
has_repeat same [] = false
has_repeat same (x ∷ xs) = list_any (λ later. same later x) xs || has_repeat same xs

-- the sets of an acceptance formula from left to right, each as often as it occurs
abbrev pub sets_of : AccTree → List ℕ
sets_of (constant value) = []
sets_of (inf negated set) = set ∷ []
sets_of (fin negated set) = set ∷ []
sets_of (conjunction left right) = sets_of left ++ sets_of right
sets_of (disjunction left right) = sets_of left ++ sets_of right

-- the tree nodes of a label, or none if there is no label
abbrev pub size_of : Option LabelTree → ℕ
size_of None = 0
size_of (Some label) = label_size label

-- the tree nodes of the labels of a state and its edges, the state's own counted once
abbrev pub total_size : State → ℕ
total_size state = size_of state.label + sum_by (λ edge. size_of edge.label) state.edges

-- all of them are below a count
abbrev pub AreBelow : ℕ → List ℕ → Type 0
AreBelow count numbers = All (λ number. number < count) numbers

-- marks of an automaton: rising, each once, below the count of sets
pub record AreMarks (a : Description) (marks : List ℕ) : Type 0 where
  pub rising : IsStrictlyIncreasing marks
  pub below : AreBelow a.sets marks

-- a label of an automaton: its propositions are below their count, and its depth and tree nodes within the limits
pub record IsLabel (a : Description) (label : LabelTree) : Type 0 where
  pub below : AreBelow (length a.propositions) (propositions label)
  pub shallow : label_depth label ≤ most_depth
  pub small : label_size label ≤ most_size

-- states of an automaton that a start or an edge lists: at least one, all below the count of states
pub record AreTargets (a : Description) (states : List ℕ) : Type 0 where
  pub listed : 0 < length states
  pub below : AreBelow a.states states

-- an edge of an automaton
pub record IsEdge (a : Description) (edge : Edge) : Type 0 where
  pub label : IfSome edge.label (IsLabel a)
  pub targets : AreTargets a edge.targets
  pub marks : AreMarks a edge.marks

-- a state of an automaton
pub record IsState (a : Description) (state : State) : Type 0 where
  pub label : IfSome state.label (IsLabel a)
  pub number : state.number < a.states
  pub marks : AreMarks a state.marks
  pub edges : All (IsEdge a) state.edges

-- what each automaton keeps: numbers below their counts, each state defined at most once, and the limits
pub record IsAutomaton (a : Description) : Type 0 where
  pub starts : All (AreTargets a) a.starts
  pub few_propositions : length a.propositions ≤ most_propositions
  pub unlike : has_repeat bytes_eq a.propositions ≡ false
  pub sets : AreBelow a.sets (sets_of a.acceptance)
  pub shallow : acc_depth a.acceptance ≤ most_depth
  pub states : All (IsState a) a.defined
  pub once : has_repeat nat_eq (map (λ state. state.number) a.defined) ≡ false
  pub small : sum_by total_size a.defined ≤ most_total_size
