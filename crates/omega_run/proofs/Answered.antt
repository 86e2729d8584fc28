-- What a command makes of its texts, from what it makes of one text, of a stream, of two, or of a formula.
use Rattle.std.specs.Global.{Global}
use Rattle.std.proofs.Common.{◌≡◌, ◌⊎◌, ℕ, ◌+◌, ◌≤◌, Bool, List, length, Option, None, Some, Result, Ok, Err, IfOk, IfErr, Vec, ap, inl, inr, refl, subst}
use Rattle.omega_text.specs.Cases.{never, or_memory}
use Rattle.omega_text.specs.Limits.{most_text}
use Rattle.omega_text.specs.declared.refusal.Refusal.{Refusal}
use Rattle.omega_text.specs.declared.refusal.Refusal.TheVariants.{Automaton, Circuit, Game, Io, Memory, Task, Text}
use Rattle.omega_cli_command.specs.declared.command.Command.TheVariants as command
use Rattle.omega_cli_command.specs.declared.formula_judge.FormulaJudge.{FormulaJudge}
use Rattle.omega_cli_command.specs.declared.formulas.Formulas.{Formulas}
use Rattle.omega_cli_command.specs.declared.one_text.OneText.{OneText}
use Rattle.omega_cli_command.specs.declared.other.Other.{Other}
use Rattle.omega_cli_command.specs.declared.partition.Partition.{Partition}
use Rattle.omega_cli_command.specs.declared.stream.Stream.{Stream}
use Rattle.omega_cli_command.specs.declared.synthesis.Synthesis.{Synthesis}
use Rattle.omega_cli_command.specs.declared.two_texts.TwoTexts.{TwoTexts}
use Rattle.omega_cli_command.specs.declared.two_texts.TwoTexts.TheVariants.{ContainedStream}
use Rattle.omega_answers.specs.Alone.{IsAutomatonRefusal}
use Rattle.omega_answers_stream_questions.specs.Contained as stream
use Rattle.omega_io.specs.declared.exit.Exit.{Exit}
use Rattle.omega_io.specs.declared.refused.Refused.{Refused}
use Rattle.omega_io.specs.declared.refused.Which.{Which}
use Rattle.omega_io.specs.declared.refused.Which.TheVariants.{File, Input}
use Rattle.omega_io.specs.Failures.{failures_in, failures_of}
use Rattle.omega_io.specs.Reading.{ReadsText}
use Rattle.omega_io.specs.Refused.{IsAbout, IsRefusedOf, about}
use Rattle.omega_run.specs.Answers.{IsAnswer, Texts}
use Rattle.omega_run.specs.Formulas.{AnswersFormulas, IsUnnumbered, RefusesFormulas}
use Rattle.omega_run.specs.OneText.{AnswersOneText}
use Rattle.omega_run.specs.Pieces.{IsStreamRefusal, Responds}
use Rattle.omega_run.specs.Results.{of_input, plain, with_bytes}
use Rattle.omega_run.specs.Streams.{AnswersStream}
use Rattle.omega_run.specs.FormulaJudge.{AnswersFormulaJudge, RefusesFormulaJudge}
use Rattle.omega_run.specs.Synthesis.{AnswersSynthesis, lists_in}
use Rattle.omega_run.specs.TwoTexts.{AnswersTwoTexts, RefusesTwoTexts}
use Rattle.omega_run.proofs.Cut.{holds_of_read, holds_of_whole}

-- a refusal of the one text is about the input, and want of memory about none
about_input : (P : Refusal → Type 0) (refusal : Refusal) → or_memory P refusal → failures_in refusal ≡ 0
    → IsRefusedOf never P (about Input refusal)
about_input P (Text fault) h none = h
about_input P (Game fault) h none = h
about_input P (Circuit fault) h none = h
about_input P (Automaton fault) h none = h
about_input P (Task fault) h none = h
about_input P Memory h none = refl
about_input P Io h none = absurd (cc none)

module _ {T : Type 0} (bytes_of : T → List ℕ) (budget : ℕ) (read : Texts) where
  pub one_text_answer : (one : OneText) (result : Result (Exit × T) Refusal)
      → IfOk result (λ made. AnswersOneText one budget read.input (Ok (made.0, bytes_of made.1)))
      → IfErr result (or_memory (λ refusal. AnswersOneText one budget read.input (Err refusal)))
      → failures_of result ≡ 0 → IsAnswer (command.OneText one) budget read (with_bytes bytes_of (of_input result))
  one_text_answer one (Ok made) answered refused none = answered
  one_text_answer one (Err refusal) answered refused none =
      about_input (λ refusal. AnswersOneText one budget read.input (Err refusal)) refusal refused none

  -- a refusal of a stream that was read from memory
  stream_refused : (stream : Stream) (rest : Option (List ℕ)) (refusal : Refusal) → length read.input ≤ most_text + 1
      → IsStreamRefusal stream budget (Some read.input) rest refusal → failures_in refusal ≡ 0
      → IsRefusedOf never (λ refusal. AnswersStream stream budget read.input (Err refusal)) (about Input refusal)
  stream_refused stream rest (Text fault) short h none = holds_of_read read.input short _ rest h
  stream_refused stream rest (Game fault) short h none = holds_of_read read.input short _ rest h
  stream_refused stream rest (Circuit fault) short h none = holds_of_read read.input short _ rest h
  stream_refused stream rest (Automaton fault) short h none = holds_of_read read.input short _ rest h
  stream_refused stream rest (Task fault) short h none = holds_of_read read.input short _ rest h
  stream_refused stream rest Memory short h none = refl
  stream_refused stream rest Io short h none = absurd (cc none)

  pub stream_answer : (stream : Stream) (rest : Option (List ℕ)) (result : Result (Exit × T) Refusal) → length read.input ≤ most_text + 1
      → IfOk result (λ made. Responds stream budget (Some read.input) rest made.0 (bytes_of made.1))
      → IfErr result (IsStreamRefusal stream budget (Some read.input) rest)
      → failures_of result ≡ 0 → IsAnswer (command.Stream stream) budget read (with_bytes bytes_of (of_input result))
  stream_answer stream rest (Ok made) short answered refused none =
      holds_of_whole read.input short (λ text. AnswersStream stream budget text (Ok (made.0, bytes_of made.1))) rest answered
  stream_answer stream rest (Err refusal) short answered refused none = stream_refused stream rest refusal short refused none

  pub two_texts_answer : (two : TwoTexts) (from : Other) (result : Result (Exit × T) Refused)
      → IfOk result (λ made. AnswersTwoTexts two read.other read.input made.0 (bytes_of made.1))
      → IfErr result (RefusesTwoTexts two read.other read.input)
      → IsAnswer (command.TwoTexts two from) budget read (with_bytes bytes_of result)
  two_texts_answer two from (Ok made) answered refused = answered
  two_texts_answer two from (Err refusal) answered refused = refused

  pub formulas_answer : (asked : Formulas) (formulas : Vec (List ℕ) Global) (result : Result (Exit × T) Refused)
      → IfOk result (λ made. AnswersFormulas asked formulas.items read.input made.0 (bytes_of made.1))
      → IfErr result (IsUnnumbered (RefusesFormulas asked formulas.items read.input))
      → IsAnswer (command.Formulas asked formulas) budget read (with_bytes bytes_of result)
  formulas_answer asked formulas (Ok made) answered refused = answered
  formulas_answer asked formulas (Err refusal) answered refused = refused

  pub synthesis_answer : (asked : Synthesis) (partition : Partition) (result : Result (Exit × T) Refusal)
      → IfOk result (λ made. AnswersSynthesis asked (lists_in partition) read.input (Ok (made.0, bytes_of made.1)))
      → IfErr result (or_memory (λ refusal. AnswersSynthesis asked (lists_in partition) read.input (Err refusal)))
      → failures_of result ≡ 0 → IsAnswer (command.Synthesis asked partition) budget read (with_bytes bytes_of (of_input result))
  synthesis_answer asked partition (Ok made) answered refused none = answered
  synthesis_answer asked partition (Err refusal) answered refused none =
      about_input (λ refusal. AnswersSynthesis asked (lists_in partition) read.input (Err refusal)) refusal refused none

  pub formula_judge_answer : (asked : FormulaJudge) (from : Other) (partition : Partition) (result : Result (Exit × T) Refused)
      → IfOk result (λ made. AnswersFormulaJudge asked (lists_in partition) read.other read.input made.0 (bytes_of made.1))
      → IfErr result (RefusesFormulaJudge asked (lists_in partition) read.other read.input)
      → IsAnswer (command.FormulaJudge asked from partition) budget read (with_bytes bytes_of result)
  formula_judge_answer asked from partition (Ok made) answered refused = answered
  formula_judge_answer asked from partition (Err refusal) answered refused = refused

-- which text a refusal is about is left out again
about_input_plain : (refusal : Refusal) → (about Input refusal).refusal ≡ refusal
about_input_plain (Text fault) = refl
about_input_plain (Game fault) = refl
about_input_plain (Circuit fault) = refl
about_input_plain (Automaton fault) = refl
about_input_plain (Task fault) = refl
about_input_plain Memory = refl
about_input_plain Io = refl

pub plain_input : {T : Type 0} (bytes_of : T → List ℕ) (result : Result (Exit × T) Refusal)
    → plain (with_bytes bytes_of (of_input result)) ≡ with_bytes bytes_of result
plain_input bytes_of (Ok made) = refl
plain_input bytes_of (Err refusal) = ap (λ (it : Refusal). Err it) (about_input_plain refusal)

-- what refuses a stream that was read from memory, or one of its automata with that of the other text
pub held_refused : (other input : List ℕ) (explain : Bool) (at_least : ℕ) (rest : Option (List ℕ)) (refused : Refused) → length input ≤ most_text + 1
    → failures_in refused.refusal ≡ 0 → stream.IsContainedStreamRefused other explain (Some input) rest refused
    → RefusesTwoTexts (ContainedStream explain at_least) other input refused
held_refused other input explain at_least rest refused short sound (inl either) = inl (go refused.text refused.refusal sound either)
  where
    go : (text : Option Which) (refusal : Refusal) → failures_in refusal ≡ 0
        → IsAbout (λ refusal. (refusal ≡ Memory) ⊎ (refusal ≡ Io)) (IsAutomatonRefusal other)
        (λ refusal. ReadsText (Some input) rest (λ read. stream.IsStreamRefused other read refusal)) text refusal
        → IsAbout (λ refusal. refusal ≡ Memory) (IsAutomatonRefusal other) (stream.IsStreamRefused other input) text refusal
    go None refusal sound (inl memory) = memory
    go None refusal sound (inr io) = absurd (let one : failures_in Io ≡ 0 = subst (λ r. failures_in r ≡ 0) io sound in cc)
    go (Some File) refusal sound h = h
    go (Some Input) refusal sound h = holds_of_read input short (λ read. stream.IsStreamRefused other read refusal) rest h
held_refused other input explain at_least rest refused short sound (inr pair) =
    inr (holds_of_read input short (λ text. stream.RefusesPair other text explain refused) rest pair)
