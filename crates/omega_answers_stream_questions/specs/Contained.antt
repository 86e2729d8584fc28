-- The answers of `contained` for a stream of automata and the text of a file, whose automaton is deterministic: for
-- each automaton of the stream whether that of the file accepts each word that it accepts; and the refusals. An answer
-- is `no` if it begins so.
use Rattle.std.specs.Prelude.{◌≡◌, ◌⊎◌, ℕ, Bool, List, Option, Result, Ok, Err}
use Rattle.omega_text.specs.declared.refusal.Refusal.{Refusal}
use Rattle.omega_text.specs.declared.refusal.Refusal.TheVariants.{Io, Memory}
use Rattle.omega_hoa_automaton.specs.Automaton.{Description}
use Rattle.omega_lang_inclusion.specs.Refusing.{IsContainmentRefusal}
use Rattle.omega_answers.specs.Choice.{IsRefusedFor}
use Rattle.omega_answers_inclusion.specs.Contained.{IsContainmentVerdict}
use Rattle.omega_hoa.specs.Alone.{IsAutomatonRefusal, IsAutomatonText}
use Rattle.omega_hoa.specs.Stream.{IsStreamRefusal}
use Rattle.omega_io.specs.Failures.{failures_in}
use Rattle.omega_io.specs.Reading.{ReadsText}
use Rattle.omega_io.specs.Refused.{IsAbout}
use Rattle.omega_io.specs.declared.refused.Refused.{Refused}
use Rattle.omega_io.specs.declared.refused.Which.TheVariants.{File}
use Rattle.omega_answers_stream.specs.Answer.{Answer}
use Rattle.omega_answers_stream.specs.Asking.{IsAnswered, RefusesItem}
use Rattle.omega_answers_stream_questions.specs.Items.{AnswersItem, RefusesAutomaton, aborted_line, exit_for}

-- the answer of `contained` for an automaton and that of the file
abbrev pub IsContainedAnswer : (file : Description) (explain : Bool) → Description → Answer → Type 0
IsContainedAnswer file explain automaton answer =
    IsContainmentVerdict automaton file explain (exit_for answer.no) answer.text

-- the answers of `contained --stream` for so many automata, one after the other: the text of the file is that of an
-- automaton
pub record AreContainedAnswers (file text : List ℕ) (explain : Bool) (output : List ℕ)
    (no : Bool) (automata : ℕ) : Type 0 where
  pub automaton : Description
  pub file_read : IsAutomatonText file automaton
  pub answered : IsAnswered
      (AnswersItem (IsContainedAnswer automaton explain) aborted_line) text output no automata

-- the text of the file is that of an automaton, and the text of the stream is refused
pub record IsStreamRefused (file text : List ℕ) (refusal : Refusal) : Type 0 where
  pub automaton : Description
  pub file_read : IsAutomatonText file automaton
  pub refused : IsStreamRefusal text refusal

-- an automaton of the stream is refused with that of the file, the first that is: for a choice this is about the
-- file, and else about neither text
abbrev pub RefusesItemFor : (file : Description) (text : List ℕ) (explain : Bool) → Refused → Type 0
RefusesItemFor file text explain = IsRefusedFor File
    (RefusesItem (AnswersItem (IsContainedAnswer file explain) aborted_line)
    (RefusesAutomaton (λ one. IsContainmentRefusal one file)) text)

-- both texts are read, and an automaton of the stream is refused so
pub record RefusesPair (file text : List ℕ) (explain : Bool) (refused : Refused) : Type 0 where
  pub automaton : Description
  pub file_read : IsAutomatonText file automaton
  pub refuses : RefusesItemFor automaton text explain refused

-- the text of the file is refused, or else that of the stream, or memory is wanting or a read failed
abbrev pub IsFileOrStreamRefused : (file : List ℕ) (before after : Option (List ℕ)) → Refused → Type 0
IsFileOrStreamRefused file before after refused =
    IsAbout (λ refusal. (refusal ≡ Memory) ⊎ (refusal ≡ Io)) (IsAutomatonRefusal file)
    (λ refusal. ReadsText before after (λ text. IsStreamRefused file text refusal))
    refused.text refused.refusal

-- the refusal of `contained --stream`: that of one of the texts, or else that of an automaton of the stream
abbrev pub IsContainedStreamRefused : (file : List ℕ) (explain : Bool) (before after : Option (List ℕ))
    → Refused → Type 0
IsContainedStreamRefused file explain before after refused =
    IsFileOrStreamRefused file before after refused
    ⊎ ReadsText before after (λ text. RefusesPair file text explain refused)

-- how many reads failed in a call that ends so
abbrev pub failures_of : {T : Type 0} → Result T Refused → ℕ
failures_of (Ok value) = 0
failures_of (Err refused) = failures_in refused.refusal
