-- How the rounds of an automaton are made: for each state a question for each class of letters, and the refusals.
pub use Rattle.omega_synth_game.specs.Classes.{IsLeaving, mentioned_inputs}
use Rattle.std.specs.Prelude.{◌≡◌, ◌⊎◌, ℕ, ◌+◌, ◌<◌, ◌≤◌, Bool, List, [], ◌∷◌, Contains}
use Rattle.std.specs.Prelude.{Some, length, slice_index_or, sum_by}
use Rattle.std.specs.List.{flat_map}
use Rattle.omega_text.specs.Cases.{never, or_game, or_memory, or_task}
use Rattle.omega_text.specs.declared.refusal.Refusal.{Refusal}
use Rattle.omega_text.specs.declared.refusal.game.GameFault.TheVariants.{TooManyNodes}
use Rattle.omega_text.specs.declared.refusal.task.TaskFault.{TaskFault}
use Rattle.omega_text.specs.declared.refusal.task.TaskFault.TheVariants.{TooManyPropositions}
use Rattle.omega_hoa_expression.specs.Limits.{most_mentioned}
use Rattle.omega_hoa_automaton.specs.Automaton.{BodyEdge, Description, edge_at}
use Rattle.omega_game_values.specs.Limits.{most_nodes}
use Rattle.omega_synth_rounds.specs.Extracting.{HaveSameNumbers}
use Rattle.omega_synth_rounds.specs.declared.rounds.QuestionRange.{QuestionRange}
use Rattle.omega_synth_rounds.specs.declared.rounds.Rounds.{Rounds}
use Rattle.omega_synth_game.specs.Answering.{AreAnswersAmong, AreAnswersInOrder, IsLetterLabelFault}
use Rattle.omega_synth_game.specs.Answering.{whole_label}
use Rattle.omega_synth_game.specs.Classes.{AreEdgesFrom, IsFirstLetter}
use Rattle.omega_synth_game.specs.Letters.{holds_in, letter_of}

-- each of the letters up to an end has its answers among edges, given by number, in the order of these numbers
pub record AreAnswered (a : Description) (controlled numbers : List ℕ) (letters : List (List ℕ))
    (end : ℕ) (answers : List (List ℕ)) : Type 0 where
  pub entries : length answers ≡ end
  pub each : (question : ℕ) → question < end → AreAnswersInOrder a controlled
      (holds_in (letter_of letters question)) numbers (slice_index_or answers question [])

-- the questions of a state that the edges with these numbers leave: one for each class of letters, whose letter is the
-- first of the class
pub record AreQuestionsOf (a : Description) (controlled numbers : List ℕ)
    (letters answers : List (List ℕ)) : Type 0 where
  pub answered : AreAnswered a controlled numbers letters (length letters) answers
  pub every : (given : ℕ → Bool)
      → (question : ℕ) × (question < length letters)
      × AreAnswersAmong a controlled numbers given (slice_index_or answers question [])
  pub apart : (one other : ℕ) → one < length answers → other < length answers
      → HaveSameNumbers (slice_index_or answers one []) (slice_index_or answers other []) → one ≡ other
  pub least : (question : ℕ) → question < length letters
      → IsFirstLetter a controlled numbers (letter_of letters question)

-- the labels of the edges with these numbers mention no more inputs than the limit
abbrev pub HaveFewInputs : Description → List ℕ → List ℕ → Type 0
HaveFewInputs a controlled numbers = length (mentioned_inputs a controlled numbers) ≤ most_mentioned

-- the classes of the letters that the edges with these numbers answer, each given by those of the edges that answer it;
-- the labels mention few inputs
pub record AreClasses (a : Description) (controlled numbers : List ℕ)
    (classes : List (List ℕ)) : Type 0 where
  pub letters : List (List ℕ)
  pub questions : AreQuestionsOf a controlled numbers letters classes
  pub few : HaveFewInputs a controlled numbers

-- how many classes states have, where each has these
abbrev pub class_count : List (List (List ℕ)) → ℕ
class_count classes = sum_by (λ here. length here) classes

-- the ranges of the questions of states from a first question on, where each class of a state is a question
abbrev pub ranges_from : ℕ → List (List (List ℕ)) → List QuestionRange
ranges_from first [] = []
ranges_from first (here ∷ rest) =
    record { first = first; end = first + length here } ∷ ranges_from (first + length here) rest

-- the label of one of the edges with these numbers cannot be judged in some letter
abbrev pub IsSomeUnjudged : Description → List ℕ → List ℕ → TaskFault → Type 0
IsSomeUnjudged a controlled numbers fault = (letter : List ℕ) × (number : ℕ)
    × Contains numbers number × (edge : BodyEdge) × (edge_at a number ≡ Some edge)
    × IsLetterLabelFault controlled letter (whole_label a number edge) fault

-- the fault of the questions of a state that the edges with these numbers leave: too many inputs, or else an edge that
-- cannot be judged in some letter
abbrev pub IsAskingFault : Description → List ℕ → List ℕ → TaskFault → Type 0
IsAskingFault a controlled numbers fault =
    ((fault ≡ TooManyPropositions) × (most_mentioned < length (mentioned_inputs a controlled numbers)))
    ⊎ (HaveFewInputs a controlled numbers × IsSomeUnjudged a controlled numbers fault)

-- the refusal of the questions of a state
abbrev pub IsQuestionsOfRefusal : Description → List ℕ → List ℕ → Refusal → Type 0
IsQuestionsOfRefusal a controlled numbers = or_task (IsAskingFault a controlled numbers) (or_memory never)

-- the edges with these numbers leave the state
abbrev pub AllLeave : Description → ℕ → List ℕ → Type 0
AllLeave a state numbers = (number : ℕ) → Contains numbers number → IsLeaving a state number

-- the classes of letters in a state, each given by the numbers of the edges that answer it, in rising order
pub record AreClassesIn (a : Description) (controlled : List ℕ) (state : ℕ)
    (classes : List (List ℕ)) : Type 0 where
  pub numbers : List ℕ
  pub leave : AreEdgesFrom a state numbers
  pub are : AreClasses a controlled numbers classes

-- the classes of letters in each of the first states
abbrev pub AreClassesOf : Description → List ℕ → List (List (List ℕ)) → Type 0
AreClassesOf a controlled classes = (state : ℕ) → state < length classes
    → AreClassesIn a controlled state (slice_index_or classes state [])

-- the first states have more questions, one for each class of letters, than a game may have nodes
pub record HasManyQuestions (a : Description) (controlled : List ℕ) : Type 0 where
  pub classes : List (List (List ℕ))
  pub few : length classes ≤ a.states
  pub each : AreClassesOf a controlled classes
  pub many : most_nodes < class_count classes

-- the questions of the rounds are the classes of the states, those of one state after those of the state before
pub record AreAskedByState (a : Description) (controlled : List ℕ) (rounds : Rounds) : Type 0 where
  pub classes : List (List (List ℕ))
  pub all : length classes ≡ a.states
  pub each : AreClassesOf a controlled classes
  pub questions : rounds.questions ≡ flat_map (λ here. here) classes
  pub ranges : rounds.states ≡ ranges_from 0 classes

-- the fault of the questions of a state: all states before it have classes, which are not too many
pub record IsMakingFault (a : Description) (controlled : List ℕ) (fault : TaskFault) : Type 0 where
  pub before : List (List (List ℕ))
  pub below : length before < a.states
  pub each : AreClassesOf a controlled before
  pub fit : class_count before ≤ most_nodes
  pub numbers : List ℕ
  pub leave : AreEdgesFrom a (length before) numbers
  pub asking : IsAskingFault a controlled numbers fault

-- the refusal of the rounds, in the order of the states: the fault of the questions of a state, or too many questions
-- up to a state; or want of memory
abbrev pub IsRoundsOfRefusal : Description → List ℕ → Refusal → Type 0
IsRoundsOfRefusal a controlled =
    or_game (λ fault. (fault ≡ TooManyNodes) × HasManyQuestions a controlled)
    (or_task (IsMakingFault a controlled) (or_memory never))
