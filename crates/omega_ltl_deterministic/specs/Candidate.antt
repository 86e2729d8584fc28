-- The form of an automaton that a search proposes for a formula, whatever words it accepts.
use Rattle.std.specs.Prelude.{◌≡◌, ℕ, false, List, [], ◌∷◌, length, All, None, is_some, true}
use Rattle.omega_hoa_parity_kind.specs.declared.kind.Order.TheVariants.{Min}
use Rattle.omega_hoa_parity_kind.specs.declared.kind.Parity.TheVariants.{Even}
use Rattle.omega_hoa_acceptance.specs.declared.kind.AccKind.TheVariants.{Parity}
use Rattle.omega_hoa_automaton.specs.AcceptanceKind.{HasKind}
use Rattle.omega_hoa_automaton.specs.Automaton.{Description}
use Rattle.omega_hoa_automaton.specs.Branching.{has_universal_branching}
use Rattle.omega_hoa_automaton.specs.declared.edge.Edge.{Edge}
use Rattle.omega_hoa_automaton.specs.declared.state.State.{State}

-- an edge has a label and one mark
pub record IsColoured (edge : Edge) : Type 0 where
  pub labelled : is_some edge.label ≡ true
  pub coloured : length edge.marks ≡ 1

-- each edge of a state has a label and one mark, and the state itself has none
pub record IsColouredState (state : State) : Type 0 where
  pub unlabelled : state.label ≡ None
  pub unmarked : state.marks ≡ []
  pub edges : All IsColoured state.edges

-- a list has one number
abbrev pub HasOne : List ℕ → Type 0
HasOne numbers = (number : ℕ) × (numbers ≡ number ∷ [])

-- an automaton has one start, which is one state
abbrev pub HasOneStart : Description → Type 0
HasOneStart a = (start : ℕ) × (a.starts ≡ (start ∷ []) ∷ [])

-- the acceptance is `parity min even`, by its name and its formula
abbrev pub IsMinEven : Description → Type 0
IsMinEven a = HasKind a (Parity (record { order = Min; parity = Even; count = a.sets }))

-- an automaton over some propositions, without a name and without universal branching, whose acceptance is `parity min
-- even`, with one mark and a label on each edge
pub record IsCandidate (propositions : List (List ℕ)) (a : Description) : Type 0 where
  pub unnamed : a.name ≡ None
  pub propositions_are : a.propositions ≡ propositions
  pub one_start : HasOneStart a
  pub min_even : IsMinEven a
  pub plain : has_universal_branching a ≡ false
  pub states : All IsColouredState a.defined
