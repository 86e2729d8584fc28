-- What a command makes of its texts: its whole answer, or why it is refused and which text that is about.
use Rattle.std.specs.Prelude.{List, Result, Ok, Err, ℕ}
use Rattle.omega_text.specs.Cases.{never}
use Rattle.omega_cli_command.specs.declared.command.Command.{Command}
use Rattle.omega_cli_command.specs.declared.command.Command.TheVariants.{FormulaJudge, Formulas, OneText, Stream}
use Rattle.omega_cli_command.specs.declared.command.Command.TheVariants.{Synthesis, TwoTexts}
use Rattle.omega_io.specs.declared.exit.Exit.{Exit}
use Rattle.omega_io.specs.declared.refused.Refused.{Refused}
use Rattle.omega_io.specs.Refused.{IsRefusedOf}
use Rattle.omega_run.specs.Formulas.{AnswersFormulas, IsUnnumbered, RefusesFormulas}
use Rattle.omega_run.specs.OneText.{AnswersOneText}
use Rattle.omega_run.specs.Streams.{AnswersStream}
use Rattle.omega_run.specs.FormulaJudge.{AnswersFormulaJudge, RefusesFormulaJudge}
use Rattle.omega_run.specs.Synthesis.{AnswersSynthesis, lists_in}
use Rattle.omega_run.specs.TwoTexts.{AnswersTwoTexts, RefusesTwoTexts}

-- the texts of a command: that of the input, and another, which a command of one text does not look at
pub record Texts : Type 0 where
  pub other : List ℕ
  pub input : List ℕ

abbrev pub both_texts : (other input : List ℕ) → Texts
both_texts other input = record { other = other; input = input }

-- how the command ends with these texts and this budget, and its output
abbrev pub IsReply : Command → ℕ → Texts → Exit → List ℕ → Type 0
IsReply (OneText one) budget read exit output = AnswersOneText one budget read.input (Ok (exit, output))
IsReply (Stream stream) budget read exit output =
    AnswersStream stream budget read.input (Ok (exit, output))
IsReply (TwoTexts two from) budget read exit output =
    AnswersTwoTexts two read.other read.input exit output
IsReply (Formulas asked formulas) budget read exit output =
    AnswersFormulas asked formulas.items read.input exit output
IsReply (Synthesis asked partition) budget read exit output =
    AnswersSynthesis asked (lists_in partition) read.input (Ok (exit, output))
IsReply (FormulaJudge asked from partition) budget read exit output =
    AnswersFormulaJudge asked (lists_in partition) read.other read.input exit output

-- why the texts are refused, and which of them that is about; or memory is wanting
abbrev pub IsRefused : Command → ℕ → Texts → Refused → Type 0
IsRefused (OneText one) budget read =
    IsRefusedOf never (λ refusal. AnswersOneText one budget read.input (Err refusal))
IsRefused (Stream stream) budget read =
    IsRefusedOf never (λ refusal. AnswersStream stream budget read.input (Err refusal))
IsRefused (TwoTexts two from) budget read = RefusesTwoTexts two read.other read.input
IsRefused (Formulas asked formulas) budget read =
    IsUnnumbered (RefusesFormulas asked formulas.items read.input)
IsRefused (Synthesis asked partition) budget read = IsRefusedOf never
    (λ refusal. AnswersSynthesis asked (lists_in partition) read.input (Err refusal))
IsRefused (FormulaJudge asked from partition) budget read =
    RefusesFormulaJudge asked (lists_in partition) read.other read.input

-- what the command makes of its texts with this budget, or why it makes nothing
abbrev pub IsAnswer : Command → ℕ → Texts → Result (Exit × List ℕ) Refused → Type 0
IsAnswer command budget read (Ok reply) = IsReply command budget read reply.0 reply.1
IsAnswer command budget read (Err refused) = IsRefused command budget read refused
