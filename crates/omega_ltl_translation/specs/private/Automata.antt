-- Automata of graphs.
use Rattle.std.specs.Prelude.{◌≡◌, ◌↔◌, ◌<◌, ℕ, Bool, false, IsTrue, List, [], ◌∷◌, Contains}
use Rattle.omega_hoa_acceptance.specs.Acceptance.{holds}
use Rattle.omega_hoa_acceptance.specs.Kind.{buchi_formula}
use Rattle.omega_hoa_automaton.specs.Automaton.{BodyEdge, Description}
use Rattle.omega_lang_runs.specs.Lasso.{IsStep, label_of, marks_of}
use Rattle.omega_lang_runs.specs.Words.{Allows}
use Rattle.omega_ltl_shapes.specs.Covers.{is_set}
use Rattle.omega_ltl_translation.specs.declared.graph.GraphEdge.{GraphEdge}
use Rattle.omega_ltl_translation.specs.private.Graphs.{edges_of_state}
use Rattle.omega_ltl_translation.specs.private.Labels.{IsTrueCube}

-- an edge of an automaton is in exactly the sets below a count in which an edge of a graph is not late
abbrev pub HasMarksOf : ℕ → GraphEdge → BodyEdge → Type 0
HasMarksOf sets edge body = (set : ℕ) → set < sets
    → IsTrue (holds set (marks_of body)) ↔ (is_set edge.late set ≡ false)

-- at a letter an edge of an automaton is an edge of a graph
pub record IsTaken (edges : List (List GraphEdge)) (sets from to : ℕ) (letter : ℕ → Bool) (body : BodyEdge)
    : Type 0 where
  pub edge : GraphEdge
  pub listed : Contains (edges_of_state edges from) edge
  pub target : edge.target ≡ to
  pub true_cube : IsTrueCube letter edge.cube
  pub marks : HasMarksOf sets edge body

-- at a letter an edge of a graph is an edge of an automaton
pub record IsMade (a : Description) (sets from : ℕ) (letter : ℕ → Bool) (edge : GraphEdge) : Type 0 where
  pub number : ℕ
  pub step : IsStep a from number edge.target
  pub allowed : Allows a number (label_of step.edge) letter
  pub marks : HasMarksOf sets edge step.edge

-- an automaton is that of a graph, over some names and with some sets
pub record IsAutomatonOf (names : List (List ℕ)) (sets count : ℕ) (edges : List (List GraphEdge))
    (a : Description) : Type 0 where
  pub starts : a.starts ≡ (0 ∷ []) ∷ []
  pub propositions : a.propositions ≡ names
  pub acceptance : a.acceptance ≡ buchi_formula sets
  pub taken : (from number to : ℕ) (step : IsStep a from number to) (letter : ℕ → Bool)
      → from < count → Allows a number (label_of step.edge) letter
      → IsTaken edges sets from to letter step.edge
  pub made : (from : ℕ) (edge : GraphEdge) (letter : ℕ → Bool) → from < count
      → Contains (edges_of_state edges from) edge → IsTrueCube letter edge.cube
      → IsMade a sets from letter edge
