-- Games in rounds: in a state player 1 asks one of the state's questions, and player 0 answers it by one of the edges
-- that it allows, which leads to the next state. What it is to win one, said of its edges alone.
use Rattle.std.specs.Prelude.{◌≡◌, ◌↔◌, ℕ, ◌-◌, ◌%◌, ◌<◌, ◌≤◌, List, [], ◌∷◌}
use Rattle.std.specs.Prelude.{All, Contains, length, max, slice_index_or}
use Rattle.std.specs.List.{range_with_len}
use Rattle.omega_text.specs.Limits.{most_number}
use Rattle.omega_synth_rounds.specs.declared.rounds.QuestionRange.{QuestionRange}
use Rattle.omega_synth_rounds.specs.declared.rounds.RoundEdge.{RoundEdge}
use Rattle.omega_synth_rounds.specs.declared.rounds.Rounds.{Rounds}

-- the edge that is read past the end of the edges
abbrev pub no_edge : RoundEdge
no_edge = record { source = 0; target = 0; priority = 0 }

-- the edge with a number
abbrev pub edge_at : Rounds → ℕ → RoundEdge
edge_at rounds number = slice_index_or rounds.edges number no_edge

-- the range without questions
abbrev pub no_range : QuestionRange
no_range = record { first = 0; end = 0 }

-- the range of a state's questions
abbrev pub range_at : Rounds → ℕ → QuestionRange
range_at rounds state = slice_index_or rounds.states state no_range

-- the numbers of the questions of a state
abbrev pub questions_of : Rounds → ℕ → List ℕ
questions_of rounds state = range_with_len (range_at rounds state).first
    ((range_at rounds state).end - (range_at rounds state).first)

-- the numbers of the edges that answer a question
abbrev pub answers_of : Rounds → ℕ → List ℕ
answers_of rounds question = slice_index_or rounds.questions question []

-- the question is one of the state's
pub record IsAskedIn (rounds : Rounds) (state question : ℕ) : Type 0 where
  pub below : state < length rounds.states
  pub from : (range_at rounds state).first ≤ question
  pub until : question < (range_at rounds state).end

-- each state has a question, each question a state, which its answers leave, and edges lead to states
pub record IsRounds (rounds : Rounds) : Type 0 where
  pub some : (state : ℕ) → state < length rounds.states
      → (range_at rounds state).first < (range_at rounds state).end
  pub within : (state : ℕ) → state < length rounds.states
      → (range_at rounds state).end ≤ length rounds.questions
  pub owned : (question : ℕ) → question < length rounds.questions
      → (state : ℕ) × IsAskedIn rounds state question
  pub answers : (state question number : ℕ) → IsAskedIn rounds state question
      → Contains (answers_of rounds question) number
      → (number < length rounds.edges) × ((edge_at rounds number).source ≡ state)
  pub targets : (number : ℕ) → number < length rounds.edges
      → (edge_at rounds number).target < length rounds.states
  pub priorities : (number : ℕ) → number < length rounds.edges
      → (edge_at rounds number).priority ≤ most_number

-- the edge with this number leads from `from` to `to`
pub record IsRoundStep (rounds : Rounds) (from number to : ℕ) : Type 0 where
  pub below : number < length rounds.edges
  pub leaves : (edge_at rounds number).source ≡ from
  pub enters : (edge_at rounds number).target ≡ to

-- edges, given by number, lead from `from` to `to`: each leaves the state that the one before enters
abbrev pub LeadOn : Rounds → ℕ → List ℕ → ℕ → Type 0
LeadOn rounds from [] to = from ≡ to
LeadOn rounds from (number ∷ numbers) to =
    (next : ℕ) × IsRoundStep rounds from number next × LeadOn rounds next numbers to

-- the greatest priority of edges, 0 if there are none
abbrev pub greatest_priority : Rounds → List ℕ → ℕ
greatest_priority rounds [] = 0
greatest_priority rounds (number ∷ numbers) =
    max (edge_at rounds number).priority (greatest_priority rounds numbers)

-- the edge answers one of a state's questions
pub record IsAnswer (rounds : Rounds) (number : ℕ) : Type 0 where
  pub state : ℕ
  pub question : ℕ
  pub asked : IsAskedIn rounds state question
  pub answers : Contains (answers_of rounds question) number

-- each of the edges, given by number, answers a question
abbrev pub AreAnswers : Rounds → List ℕ → Type 0
AreAnswers rounds numbers = (number : ℕ) → Contains numbers number → IsAnswer rounds number

-- kept edges lead from the start to the state
pub record IsReached (rounds : Rounds) (kept : List ℕ) (start state : ℕ) : Type 0 where
  pub numbers : List ℕ
  pub all_kept : All (Contains kept) numbers
  pub leads : LeadOn rounds start numbers state

-- the state that the edge leaves is reached
abbrev pub IsMetEdge : Rounds → List ℕ → ℕ → ℕ → Type 0
IsMetEdge rounds kept start number = IsReached rounds kept start (edge_at rounds number).source

-- each kept edge answers a question, and leaves a state that is reached
abbrev pub AreMetAnswers : Rounds → ℕ → List ℕ → Type 0
AreMetAnswers rounds start kept = (number : ℕ) → Contains kept number
    → IsAnswer rounds number × IsMetEdge rounds kept start number

-- a closed walk of at least one kept edge, from a state that is reached back to it
pub record IsKeptRound (rounds : Rounds) (kept : List ℕ) (start state : ℕ)
    (cycle : List ℕ) : Type 0 where
  pub reached : IsReached rounds kept start state
  pub all_kept : All (Contains kept) cycle
  pub leads : LeadOn rounds state cycle state
  pub longer : 0 < length cycle

-- player 0 wins by kept edges: in each state that is reached one of them answers each question, and the greatest
-- priority of each closed walk of them is even
pub record IsAnswering (rounds : Rounds) (start : ℕ) (kept : List ℕ) : Type 0 where
  pub answered : (state question : ℕ) → IsReached rounds kept start state
      → IsAskedIn rounds state question
      → (number : ℕ) × Contains kept number × Contains (answers_of rounds question) number
  pub even : (state : ℕ) (cycle : List ℕ) → IsKeptRound rounds kept start state cycle
      → greatest_priority rounds cycle % 2 ≡ 0

-- the question asked in a state, by state
abbrev pub asked_in : List ℕ → ℕ → ℕ
asked_in asked state = slice_index_or asked state 0

-- player 1 wins by a question for each state. In each state that is reached, by edges that are kept, the kept ones are
-- those that answer its question. The greatest priority of each closed walk of them is odd.
pub record IsAsking (rounds : Rounds) (start : ℕ) (kept asked : List ℕ) : Type 0 where
  pub asks : (state : ℕ) → IsReached rounds kept start state
      → IsAskedIn rounds state (asked_in asked state)
  pub keeps : (state number next : ℕ)
      → IsReached rounds kept start state → IsRoundStep rounds state number next
      → Contains kept number ↔ Contains (answers_of rounds (asked_in asked state)) number
  pub odd : (state : ℕ) (cycle : List ℕ) → IsKeptRound rounds kept start state cycle
      → greatest_priority rounds cycle % 2 ≡ 1
