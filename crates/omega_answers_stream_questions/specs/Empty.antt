-- The answers of `empty` for a stream of automata: for each of them an accepting lasso, or `empty` only if no lasso
-- accepts; and the refusals. An answer is `no` if it is `empty`.
use Rattle.std.specs.Prelude.{ℕ, Bool, true, List}
use Rattle.omega_text.specs.declared.refusal.Refusal.{Refusal}
use Rattle.omega_hoa_automaton.specs.Automaton.{Description}
use Rattle.omega_empty.specs.Deciding.{IsEmptinessRefusal}
use Rattle.omega_answers_empty.specs.declared.lines.Lines.{Lines}
use Rattle.omega_answers_empty.specs.empty.Answer.{EndsDecision, EndsSearch}
use Rattle.omega_lang_lasso_search.specs.Searching.{IsSearchRefusal}
use Rattle.omega_answers_stream.specs.Answer.{Answer}
use Rattle.omega_answers_stream.specs.Asking.{IsAnswered, IsAskingRefusal}
use Rattle.omega_answers_stream_questions.specs.Items.{AnswersItem, RefusesAutomaton, aborted_line, exit_for}

-- the answer of `empty --search` for an automaton
abbrev pub IsSearchAnswer : (lines : Lines) → Description → Answer → Type 0
IsSearchAnswer lines automaton answer =
    EndsSearch automaton lines true (exit_for answer.no) answer.text

-- the answer of `empty` for an automaton, which is decided within the budget
abbrev pub IsLiftingAnswer : (budget : ℕ) (lines : Lines) → Description → Answer → Type 0
IsLiftingAnswer budget lines automaton answer =
    EndsDecision automaton budget lines true (exit_for answer.no) answer.text

-- the answers of `empty --search --stream` for so many automata, one after the other
abbrev pub AreSearchAnswers : List ℕ → (lines : Lines) → (output : List ℕ) → (no : Bool)
    → (automata : ℕ) → Type 0
AreSearchAnswers text lines = IsAnswered (AnswersItem (IsSearchAnswer lines) aborted_line) text

-- the refusal of `empty --search --stream`: that of the text, or else that of the first automaton that is refused
abbrev pub IsSearchStreamRefusal : List ℕ → (lines : Lines) → Refusal → Type 0
IsSearchStreamRefusal text lines = IsAskingRefusal (AnswersItem (IsSearchAnswer lines) aborted_line)
    (RefusesAutomaton IsSearchRefusal) text

-- the answers of `empty --stream` with a budget for each of so many automata, one after the other
abbrev pub AreLiftingAnswers : List ℕ → (budget : ℕ) (lines : Lines) → (output : List ℕ) → (no : Bool)
    → (automata : ℕ) → Type 0
AreLiftingAnswers text budget lines =
    IsAnswered (AnswersItem (IsLiftingAnswer budget lines) aborted_line) text

-- the refusal of `empty --stream`: that of the text, or else that of the first automaton that is refused
abbrev pub IsLiftingStreamRefusal : List ℕ → (budget : ℕ) (lines : Lines) → Refusal → Type 0
IsLiftingStreamRefusal text budget lines =
    IsAskingRefusal (AnswersItem (IsLiftingAnswer budget lines) aborted_line)
    (RefusesAutomaton (λ automaton. IsEmptinessRefusal automaton budget)) text
