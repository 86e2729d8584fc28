-- Words of automata without universal branching. Some word is accepted exactly if there is an accepting lasso (HOA v1,
-- semantics of labels and implicit labels).
use Rattle.std.specs.Prelude.{◌≡◌, ℕ, ◌-◌, ◌/◌, ◌%◌, ◌^◌, ◌<◌, ◌==◌, Bool, false, IsTrue}
use Rattle.std.specs.Prelude.{if◌then◌else◌, nat_lt, List, [], ◌∷◌, length, Option, None, Some}
use Rattle.omega_hoa_label.specs.Label.{LabelTree, truth}
use Rattle.omega_hoa_automaton.specs.Automaton.{BodyEdge, Description, edge_at}
use Rattle.omega_hoa_automaton.specs.declared.state.State.{State}
use Rattle.omega_hoa_automaton.specs.Branching.{has_universal_branching}
use Rattle.omega_lang_runs.specs.Lasso.{IsAcceptingLasso, label_of}
use Rattle.omega_lang_runs.specs.Runs.{IsAcceptingRun}

-- the index within its state of the edge with this number, among the edges of `states`
abbrev pub index_in : List State → ℕ → ℕ
index_in [] number = number
index_in (state ∷ states) number = if nat_lt number (length state.edges) then number
    else index_in states (number - length state.edges)

-- whether bit `p` of `number` is set
abbrev pub has_bit : ℕ → ℕ → Bool
has_bit number p = (number / 2 ^ p) % 2 == 1

-- the valuation of an index: of the first `propositions` propositions those hold whose bits are set in the index
abbrev pub IsValuation : ℕ → ℕ → (ℕ → Bool) → Type 0
IsValuation propositions index held = (p : ℕ) → p < propositions → held p ≡ has_bit index p

-- the edge with this number and label allows exactly these propositions to hold: they make the label true. Without a
-- label they are the valuation of the edge's index within its state, which has an edge for each valuation
abbrev pub Allows : Description → ℕ → Option LabelTree → (ℕ → Bool) → Type 0
Allows a number None held = IsValuation (length a.propositions) (index_in a.defined number) held
Allows a number (Some label) held = IsTrue (truth held label)

-- the edge with this number can be taken if exactly these propositions hold
pub record CanBeTaken (a : Description) (number : ℕ) (held : ℕ → Bool) : Type 0 where
  pub edge : BodyEdge
  pub numbered : edge_at a number ≡ Some edge
  pub allowed : Allows a number (label_of edge) held

-- a word, which says for each index which propositions hold there, is accepted: some accepting run has edges that can
-- be taken with the propositions of their indices
pub record IsAccepted (a : Description) (word : ℕ → ℕ → Bool) : Type 0 where
  pub states : ℕ → ℕ
  pub edges : ℕ → ℕ
  pub accepting : IsAcceptingRun a states edges
  pub taken : (i : ℕ) → CanBeTaken a (edges i) (word i)

-- an automaton that accepts a word has an accepting lasso, so one without accepts none
abbrev pub AcceptedWordsHaveLassos : Type 0
AcceptedWordsHaveLassos =
    (a : Description) (word : ℕ → ℕ → Bool) → has_universal_branching a ≡ false → IsAccepted a word
    → (stem : List ℕ) × ((cycle : List ℕ) × IsAcceptingLasso a stem cycle)

-- each accepting run is a run on an accepted word
abbrev pub AcceptingRunsHaveWords : Type 0
AcceptingRunsHaveWords = (a : Description) (states edges : ℕ → ℕ)
    → has_universal_branching a ≡ false → IsAcceptingRun a states edges → (word : ℕ → ℕ → Bool)
    × ((accepted : IsAccepted a word) × (accepted.states ≡ states) × (accepted.edges ≡ edges))

-- an automaton with an accepting lasso accepts a word
abbrev pub LassosHaveAcceptedWords : Type 0
LassosHaveAcceptedWords =
    (a : Description) (stem cycle : List ℕ) → has_universal_branching a ≡ false
    → IsAcceptingLasso a stem cycle → (word : ℕ → ℕ → Bool) × IsAccepted a word
