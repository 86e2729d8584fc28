-- The answers of `complement` for a stream of automata: the canonical text of the complement of each of them, and
-- nothing for an aborted segment; and the refusals. No answer is `no`.
use Rattle.std.specs.Prelude.{◌≡◌, ℕ, Bool, false, List}
use Rattle.omega_text.specs.declared.refusal.Refusal.{Refusal}
use Rattle.omega_hoa_automaton.specs.Automaton.{Description}
use Rattle.omega_lang_complement.specs.Refusing.{IsUncomplemented}
use Rattle.omega_answers_automaton.specs.Complement.{IsComplementText}
use Rattle.omega_answers_stream.specs.Answer.{Answer}
use Rattle.omega_answers_stream.specs.Asking.{IsAnswered, IsAskingRefusal}
use Rattle.omega_answers_stream_questions.specs.Items.{AnswersItem, RefusesAutomaton, nothing_written}

-- the answer of `complement` for an automaton
abbrev pub IsComplementedAnswer : Description → Answer → Type 0
IsComplementedAnswer automaton answer = IsComplementText automaton answer.text × (answer.no ≡ false)

-- the answers of `complement --stream` for so many automata, one after the other
abbrev pub AreComplementAnswers : List ℕ → (output : List ℕ) → (no : Bool)
    → (automata : ℕ) → Type 0
AreComplementAnswers text = IsAnswered (AnswersItem IsComplementedAnswer nothing_written) text

-- the refusal of `complement --stream`: that of the text, or else that of the first automaton that is refused
abbrev pub IsComplementStreamRefusal : List ℕ → Refusal → Type 0
IsComplementStreamRefusal text = IsAskingRefusal (AnswersItem IsComplementedAnswer nothing_written)
    (RefusesAutomaton IsUncomplemented) text
