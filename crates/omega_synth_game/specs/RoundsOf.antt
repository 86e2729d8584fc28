-- The game in rounds of a parity automaton whose propositions are parted. Its states and edges are those of the
-- automaton; a question is a class of the environment's letters, and its answers are the edges that answer them.
pub use Rattle.omega_synth_game.specs.Letters.{holds_in, letter_of}
use Rattle.std.specs.Prelude.{◌≡◌, ◌↔◌, ℕ, ◌<◌, Bool, List, [], ◌∷◌, Contains, Some, length}
use Rattle.std.specs.List.Sorted.{IsStrictlyIncreasing}
use Rattle.omega_hoa_parity_kind.specs.Priority.{priority_of}
use Rattle.omega_hoa_parity_kind.specs.declared.kind.ParityKind.{ParityKind}
use Rattle.omega_hoa_automaton.specs.Automaton.{BodyEdge, Description, edge_at, edge_count}
use Rattle.omega_lang_runs.specs.Lasso.{marks_of}
use Rattle.omega_synth_controllers.specs.Controllers.{Answers, IsMet}
use Rattle.omega_synth_rounds.specs.Extracting.{HaveSameNumbers}
use Rattle.omega_synth_rounds.specs.Rounds.{IsAskedIn, answers_of, asked_in, edge_at as round_edge_at}
use Rattle.omega_synth_rounds.specs.declared.rounds.RoundEdge.{RoundEdge}
use Rattle.omega_synth_rounds.specs.declared.rounds.Rounds.{Rounds}
use Rattle.omega_synth_game.specs.Classes.{IsLeastInState}

-- the edge of the rounds leads where the edge of the automaton leads, and has the priority of its marks
pub record IsRoundEdgeOf (kind : ParityKind) (edge : BodyEdge) (round_edge : RoundEdge) : Type 0 where
  pub source : round_edge.source ≡ edge.source.number
  pub target : edge.edge.targets ≡ round_edge.target ∷ []
  pub priority : round_edge.priority ≡ priority_of kind (marks_of edge)

-- an edge of the state answers the environment's letter
pub record IsAnswerOf (a : Description) (controlled : List ℕ) (state number : ℕ)
    (given : ℕ → Bool) : Type 0 where
  pub edge : BodyEdge
  pub numbered : edge_at a number ≡ Some edge
  pub leaves : edge.source.number ≡ state
  pub answers : Answers a controlled number given

-- a question of the state whose answers are the edges of the state that answer the environment's letter
pub record IsAskedBy (a : Description) (controlled : List ℕ) (rounds : Rounds) (state : ℕ)
    (given : ℕ → Bool) : Type 0 where
  pub question : ℕ
  pub asked : IsAskedIn rounds state question
  pub answer : (number : ℕ)
      → Contains (answers_of rounds question) number ↔ IsAnswerOf a controlled state number given

-- the rounds of an automaton for its kind, with a letter for each question: the answers of a state's question are the
-- edges of the state that answer its letter. Each environment's letter has one question with just its answers. The
-- letter of the question is the first of those that have it, and answers are listed in rising order, each once.
pub record AreRoundsOf (a : Description) (controlled : List ℕ) (kind : ParityKind) (rounds : Rounds)
    (letters : List (List ℕ)) : Type 0 where
  pub states : length rounds.states ≡ a.states
  pub edges : length rounds.edges ≡ edge_count a
  pub each : (number : ℕ) (edge : BodyEdge) → edge_at a number ≡ Some edge
      → IsRoundEdgeOf kind edge (round_edge_at rounds number)
  pub asked : (state question number : ℕ) → IsAskedIn rounds state question
      → Contains (answers_of rounds question) number
      ↔ IsAnswerOf a controlled state number (holds_in (letter_of letters question))
  pub every : (state : ℕ) (given : ℕ → Bool) → state < a.states
      → IsAskedBy a controlled rounds state given
  pub apart : (state one other : ℕ) → IsAskedIn rounds state one → IsAskedIn rounds state other
      → HaveSameNumbers (answers_of rounds one) (answers_of rounds other) → one ≡ other
  pub least : (state question : ℕ) → IsAskedIn rounds state question
      → IsLeastInState a controlled state (letter_of letters question)
  pub rising : (question : ℕ) → question < length rounds.questions
      → IsStrictlyIncreasing (answers_of rounds question)

-- the environment's letter of each state, by the propositions that hold
abbrev pub letters_by_state : List (List ℕ) → ℕ → ℕ → Bool
letters_by_state by_state state = holds_in (letter_of by_state state)

-- each of the states has the letter of the question asked in it
abbrev pub AreLettersAsked : ℕ → List (List ℕ) → List ℕ → List (List ℕ) → Type 0
AreLettersAsked states letters asked by_state = (state : ℕ) → state < states
    → letter_of by_state state ≡ letter_of letters (asked_in asked state)

-- the letter of each state that is met is the first of its class
abbrev pub AreLeastLetters : Description → List ℕ → List ℕ → List (List ℕ) → Type 0
AreLeastLetters a controlled kept by_state =
    (state : ℕ) → IsMet a kept state → IsLeastInState a controlled state (letter_of by_state state)
