-- The answers of `trim` for a stream of automata: the canonical text of each of them without its useless states, and
-- nothing for an aborted segment; and the refusals. No answer is `no`.
use Rattle.std.specs.Prelude.{◌≡◌, ℕ, Bool, false, List}
use Rattle.omega_text.specs.declared.refusal.Refusal.{Refusal}
use Rattle.omega_hoa_automaton.specs.Automaton.{Description}
use Rattle.omega_answers_stream.specs.Answer.{Answer}
use Rattle.omega_answers_stream.specs.Asking.{IsAnswered, IsAskingRefusal}
use Rattle.omega_lang_trim.specs.Refusing.{IsTrimRefusal}
use Rattle.omega_answers_automaton.specs.Trim.{IsTrimText}
use Rattle.omega_answers_stream_questions.specs.Items.{AnswersItem, RefusesAutomaton, nothing_written}

-- the answer of `trim` for an automaton
abbrev pub IsTrimmedAnswer : Description → Answer → Type 0
IsTrimmedAnswer automaton answer = IsTrimText automaton answer.text × (answer.no ≡ false)

-- the answers of `trim --stream` for so many automata, one after the other
abbrev pub AreTrimAnswers : List ℕ → (output : List ℕ) → (no : Bool)
    → (automata : ℕ) → Type 0
AreTrimAnswers text = IsAnswered (AnswersItem IsTrimmedAnswer nothing_written) text

-- the refusal of `trim --stream`: that of the text, or else that of the first automaton that is refused
abbrev pub IsTrimStreamRefusal : List ℕ → Refusal → Type 0
IsTrimStreamRefusal text =
    IsAskingRefusal (AnswersItem IsTrimmedAnswer nothing_written) (RefusesAutomaton IsTrimRefusal) text
