-- What is written of formulas that are asked of a text in memory: the answers, or the lines of a refusal.
use Rattle.std.specs.Prelude.{◌≡◌, ◌++◌, ◌-◌, Bool, true, false, List, [], Option, None, Some, Result}
use Rattle.std.specs.Prelude.{Ok, Err, ℕ, codes, decimal, length, nat_lt, slice_get, unwrap_or}
use Rattle.std.specs.List.{flat_map}
use Rattle.omega_text.specs.declared.refusal.Refusal.{Refusal}
use Rattle.omega_cli_command.specs.declared.formulas.Formulas.{Formulas}
use Rattle.omega_cli_command.specs.declared.formulas.Formulas.TheVariants.{Equal, Satisfies}
use Rattle.omega_cli_command.specs.declared.formulas.Formulas.TheVariants.{SatisfiesStream, SatisfiesWord}
use Rattle.omega_io.specs.declared.exit.Exit.{Exit}
use Rattle.omega_io.specs.declared.refused.Refused.{Refused}
use Rattle.omega_io.specs.Exit.{status_of}
use Rattle.omega_io.specs.Lines.{stream_lines}
use Rattle.omega_io.specs.RefusalLine.{line_of}
use Rattle.omega_answers_formula.specs.Unmentioned.{AreUnmentioned}
use Rattle.omega_answers_formula.specs.declared.refused_formulas.About.{About}
use Rattle.omega_answers_formula.specs.declared.refused_formulas.About.TheVariants.{Formula, Input, Question}
use Rattle.omega_answers_formula.specs.declared.refused_formulas.RefusedFormulas.{RefusedFormulas}
use Rattle.omega_run.specs.AnswerWriting.{IsWritten}
use Rattle.omega_run.specs.Causes.{IsCause, kind_asked}
use Rattle.omega_run.specs.Formulas.{IsFormulaAnswer}
use Rattle.omega_run.specs.Report.{ReportsBy, ReportsCause}
use Rattle.omega_run.specs.World.{KeepsOutput, Written, write_failure}
use Rattle.omega_run.specs.declared.text_kind.TextKind.TheVariants as kind

-- ---- lines

-- what the text of the input is called
abbrev pub input_name : Formulas → List ℕ
input_name (Equal explain) = codes "automaton"
input_name (Satisfies explain) = codes "automaton"
input_name (SatisfiesStream explain at_least) = codes "automaton"
input_name (SatisfiesWord explain) = codes "word"

-- the line that `--verbose` adds to that of a refusal: what it is about; of several formulas, which. The question of a
-- lone formula has none
abbrev pub about_line : Formulas → (several : Bool) → Option About → List ℕ
about_line asked several None = []
about_line asked several (Some Input) = codes "omega: in the " ++ (input_name asked ++ codes "\n")
about_line asked false (Some (Formula number)) =
    codes "omega: in the " ++ (codes "formula" ++ codes "\n")
about_line asked true (Some (Formula number)) =
    codes "omega: in formula " ++ (decimal number ++ codes "\n")
about_line asked false (Some (Question number)) = []
about_line asked true (Some (Question number)) =
    codes "omega: at formula " ++ (decimal number ++ codes "\n")

-- the line for a name that the automaton does not have, and those for several
abbrev pub name_line : List ℕ → List ℕ
name_line name = codes "omega: the automaton has no proposition \"" ++ name ++ codes "\"\n"

abbrev pub name_lines : List (List ℕ) → List ℕ
name_lines names = flat_map name_line names

-- the names that are told: with `--verbose` those of each formula, in turn, that the automaton does not have. Of a
-- stream none is told, nor of words, which leave open what they do not say
abbrev pub AreUnmentionedIn : Formulas → (verbose : Bool) → (formulas : List (List ℕ))
    → (input : List ℕ) → List (List ℕ) → Type 0
AreUnmentionedIn (Equal explain) verbose formulas input names =
    AreUnmentioned verbose formulas input names
AreUnmentionedIn (Satisfies explain) verbose formulas input names =
    AreUnmentioned verbose formulas input names
AreUnmentionedIn (SatisfiesStream explain at_least) verbose formulas input names = names ≡ []
AreUnmentionedIn (SatisfiesWord explain) verbose formulas input names = names ≡ []

-- the lines for a refusal: one line, and with `--verbose` what it is about
abbrev pub formula_lines : (verbose : Bool) → Formulas → (several : Bool) → Option About → Refusal
    → List ℕ
formula_lines false asked several about refusal = line_of refusal
formula_lines true asked several about refusal = line_of refusal ++ about_line asked several about

-- the text with this number; the first has the number 1
abbrev pub text_numbered : List (List ℕ) → (number : ℕ) → List ℕ
text_numbered formulas number = unwrap_or (slice_get formulas (number - 1)) []

-- with `--verbose` the cause of a refusal that is about one of the texts; of a question there is no line
abbrev pub IsFormulaCause : (verbose : Bool) → Formulas → (formulas : List (List ℕ))
    → (input : List ℕ) → Option About → Refusal → List ℕ → Type 0
IsFormulaCause true asked formulas input (Some Input) refusal line =
    IsCause (kind_asked asked) input input [] refusal line
IsFormulaCause true asked formulas input (Some (Formula number)) refusal line = IsCause kind.Other
    (text_numbered formulas number) (text_numbered formulas number) [] refusal line
IsFormulaCause verbose asked formulas input about refusal line = line ≡ []

-- ---- a run

-- what came of the output was told: the names that the automaton does not have, or why a write failed
abbrev pub IsOutputTold : (verbose : Bool) → (names : List (List ℕ)) → Result Exit Refused → ℕ
    → (List ℕ → Type 0) → (after : Written) → Type 0
IsOutputTold verbose names (Ok exit) status tells after =
    (status ≡ status_of (Ok exit)) × tells (name_lines names)
IsOutputTold verbose names (Err refused) status tells after =
    ReportsBy (stream_lines verbose (write_failure after)) (Err refused.refusal) status tells

-- the output was written, and what came of that was told
abbrev pub AreWritten : (verbose : Bool) → Exit × List ℕ → (names : List (List ℕ)) → ℕ
    → (List ℕ → Type 0) → (before after : Written) → Type 0
AreWritten verbose reply names status tells before after =
    (outcome : Result Exit Refused) × IsWritten (Ok reply) outcome before after
    × IsOutputTold verbose names outcome status tells after

-- what was made was told: its output was written, or the lines of its refusal were
abbrev pub IsFormulaTold : (verbose : Bool) → Formulas → (formulas : List (List ℕ)) → (input : List ℕ)
    → Result (Exit × List ℕ) RefusedFormulas → ℕ → (List ℕ → Type 0) → (before after : Written) → Type 0
IsFormulaTold verbose asked formulas input (Ok reply) status tells before after =
    (names : List (List ℕ)) × AreUnmentionedIn asked verbose formulas input names
    × AreWritten verbose reply names status tells before after
IsFormulaTold verbose asked formulas input (Err refused) status tells before after =
    KeepsOutput before after
    × ReportsCause (formula_lines verbose asked (nat_lt 1 (length formulas)) refused.about)
    (IsFormulaCause verbose asked formulas input refused.about) (Err refused.refusal) status tells

-- the command made its answer to the texts, and told it
pub record AreAsked (verbose : Bool) (asked : Formulas) (formulas : List (List ℕ)) (input : List ℕ)
    (status : ℕ) (tells : List ℕ → Type 0) (before after : Written) : Type 0 where
  pub made : Result (Exit × List ℕ) RefusedFormulas
  pub answer : IsFormulaAnswer asked formulas input made
  pub told : IsFormulaTold verbose asked formulas input made status tells before after
