-- How the rounds of an automaton are made: their edges, the edges that leave each state, and the questions of all
-- states.
use Rattle.std.specs.Prelude.{◌≡◌, ◌↔◌, ℕ, ◌<◌, ◌≤◌, Bool, List, [], Contains}
use Rattle.std.specs.Prelude.{Some, length, slice_index_or}
use Rattle.std.specs.List.{flat_map}
use Rattle.std.specs.List.Sorted.{IsStrictlyIncreasing}
use Rattle.omega_text.specs.Cases.{never, or_memory, or_task}
use Rattle.omega_text.specs.Limits.{most_number}
use Rattle.omega_text.specs.declared.refusal.Refusal.{Refusal}
use Rattle.omega_text.specs.declared.refusal.task.TaskFault.TheVariants.{TooManyPropositions}
use Rattle.omega_hoa_expression.specs.Limits.{most_mentioned}
use Rattle.omega_hoa_parity_kind.specs.declared.kind.ParityKind.{ParityKind}
use Rattle.omega_hoa_automaton.specs.Automaton.{BodyEdge, Description, edge_at}
use Rattle.omega_synth_rounds.specs.Extracting.{HaveSameNumbers}
use Rattle.omega_synth_rounds.specs.Rounds.{no_edge, no_range}
use Rattle.omega_synth_rounds.specs.declared.rounds.QuestionRange.{QuestionRange}
use Rattle.omega_synth_rounds.specs.declared.rounds.RoundEdge.{RoundEdge}
use Rattle.omega_synth_game.specs.Answering.{AreAnswersAmong, AreAnswersInOrder}
use Rattle.omega_synth_game.specs.Classes.{AreEdgesFrom, IsFirstLetter, mentioned_inputs}
use Rattle.omega_synth_game.specs.Letters.{holds_in, letter_numbered, letter_of}
use Rattle.omega_synth_game.specs.RoundsOf.{IsRoundEdgeOf}
use Rattle.omega_synth_game.specs.Making.{AreClasses, IsSomeUnjudged, ranges_from}

-- the edge of the rounds for the edge of the automaton with a number
pub record IsRoundEdgeAt (a : Description) (kind : ParityKind) (number : ℕ)
    (round_edge : RoundEdge) : Type 0 where
  pub each : (edge : BodyEdge) → edge_at a number ≡ Some edge → IsRoundEdgeOf kind edge round_edge
  pub source : round_edge.source < a.states
  pub target : round_edge.target < a.states
  pub priority : round_edge.priority ≤ most_number

-- the edges of the rounds up to a number
pub record AreRoundEdges (a : Description) (kind : ParityKind) (end : ℕ)
    (edges : List RoundEdge) : Type 0 where
  pub entries : length edges ≡ end
  pub each : (number : ℕ) → number < end
      → IsRoundEdgeAt a kind number (slice_index_or edges number no_edge)

-- an edge with a number below the end leaves the state
abbrev pub LeavesBelow : List RoundEdge → ℕ → ℕ → ℕ → Type 0
LeavesBelow edges end state number =
    (number < end) × ((slice_index_or edges number no_edge).source ≡ state)

-- the numbers of the edges below the end that leave a state, by state
pub record AreLeaving (edges : List RoundEdge) (states end : ℕ) (lists : List (List ℕ)) : Type 0 where
  pub entries : length lists ≡ states
  pub each : (state number : ℕ) → state < states
      → Contains (slice_index_or lists state []) number ↔ LeavesBelow edges end state number
  pub rising : (state : ℕ) → state < states → IsStrictlyIncreasing (slice_index_or lists state [])

-- the refusal of edges that mention more inputs than the limit, or want of memory
abbrev pub HasManyInputs : Description → List ℕ → List ℕ → Refusal → Type 0
HasManyInputs a controlled numbers = or_task (λ fault. (fault ≡ TooManyPropositions)
    × (most_mentioned < length (mentioned_inputs a controlled numbers))) (or_memory never)

-- for each letter over inputs, by its number up to an end, the edges with these numbers that answer it, in order
pub record AreAnswersByLetter (a : Description) (controlled numbers inputs : List ℕ) (end : ℕ)
    (answers : List (List ℕ)) : Type 0 where
  pub entries : length answers ≡ end
  pub each : (letter : ℕ) → letter < end
      → AreAnswersInOrder a controlled (holds_in (letter_numbered inputs letter)) numbers
      (slice_index_or answers letter [])

-- one of the edges cannot be judged in some letter, or want of memory
abbrev pub IsSomeLetterUnanswered : Description → List ℕ → List ℕ → Refusal → Type 0
IsSomeLetterUnanswered a controlled numbers =
    or_task (IsSomeUnjudged a controlled numbers) (or_memory never)

-- the question is in the range
abbrev pub IsInRange : QuestionRange → ℕ → Type 0
IsInRange range question = (range.first ≤ question) × (question < range.end)

-- the range of a state
abbrev pub range_of : List QuestionRange → ℕ → QuestionRange
range_of ranges state = slice_index_or ranges state no_range

-- the questions of the first states, which the edges with the numbers listed leave
pub record AreStatesAsked (a : Description) (controlled : List ℕ) (leaving : List (List ℕ))
    (states : ℕ) (ranges : List QuestionRange) (letters answers : List (List ℕ)) : Type 0 where
  pub entries : length ranges ≡ states
  pub paired : length answers ≡ length letters
  pub some : (state : ℕ) → state < states
      → (range_of ranges state).first < (range_of ranges state).end
  pub within : (state : ℕ) → state < states → (range_of ranges state).end ≤ length answers
  pub owned : (question : ℕ) → question < length answers
      → (state : ℕ) × (state < states) × IsInRange (range_of ranges state) question
  pub each : (state question : ℕ) → state < states → IsInRange (range_of ranges state) question
      → AreAnswersAmong a controlled (slice_index_or leaving state [])
      (holds_in (letter_of letters question)) (slice_index_or answers question [])
  pub every : (state : ℕ) (given : ℕ → Bool) → state < states
      → (question : ℕ) × IsInRange (range_of ranges state) question × AreAnswersAmong a controlled
      (slice_index_or leaving state []) given (slice_index_or answers question [])
  pub apart : (state one other : ℕ) → state < states → IsInRange (range_of ranges state) one
      → IsInRange (range_of ranges state) other
      → HaveSameNumbers (slice_index_or answers one []) (slice_index_or answers other []) → one ≡ other
  pub least : (state question : ℕ) → state < states → IsInRange (range_of ranges state) question
      → IsFirstLetter a controlled (slice_index_or leaving state []) (letter_of letters question)
  pub rising : (question : ℕ) → question < length answers
      → IsStrictlyIncreasing (slice_index_or answers question [])

-- the questions of the first states, which the edges with the numbers listed leave, are the classes of these states,
-- one state after another
pub record AreAskedInTurn (a : Description) (controlled : List ℕ) (leaving : List (List ℕ))
    (states : ℕ) (ranges : List QuestionRange) (answers : List (List ℕ)) : Type 0 where
  pub classes : List (List (List ℕ))
  pub entries : length classes ≡ states
  pub each : (state : ℕ) → state < states → AreClasses a controlled
      (slice_index_or leaving state []) (slice_index_or classes state [])
  pub listed : answers ≡ flat_map (λ here. here) classes
  pub ranged : ranges ≡ ranges_from 0 classes

-- for each state the numbers of the edges that leave it
abbrev pub StatesLeave : Description → List (List ℕ) → Type 0
StatesLeave a lists =
    (length lists ≡ a.states)
    × ((state : ℕ) → state < length lists → AreEdgesFrom a state (slice_index_or lists state []))
