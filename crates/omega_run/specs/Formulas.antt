-- What each command makes of formulas and of the text of the input: its answer, and which of the texts a refusal is
-- about.
use Rattle.std.specs.Prelude.{◌≡◌, List, Result, Ok, Err, ℕ}
use Rattle.omega_cli_command.specs.declared.formulas.Formulas.{Formulas}
use Rattle.omega_cli_command.specs.declared.formulas.Formulas.TheVariants.{Equal, Satisfies}
use Rattle.omega_cli_command.specs.declared.formulas.Formulas.TheVariants.{SatisfiesStream, SatisfiesWord}
use Rattle.omega_io.specs.declared.exit.Exit.{Exit}
use Rattle.omega_io.specs.declared.refused.Refused.{Refused}
use Rattle.omega_answers_formula.specs.Refused.{unnumbered}
use Rattle.omega_answers_formula.specs.EqualFormula.{AreEqualAnswers, AreEqualRefused}
use Rattle.omega_answers_formula.specs.Satisfies.{AreSatisfiesAnswers, AreSatisfiesRefused}
use Rattle.omega_answers_formula.specs.SatisfiesStream.{AreSatisfiesStreamAnswers}
use Rattle.omega_answers_formula.specs.SatisfiesStream.{AreSatisfiesStreamRefused}
use Rattle.omega_answers_formula.specs.SatisfiesWord.{AreSatisfiesWordAnswers, AreSatisfiesWordRefused}
use Rattle.omega_answers_formula.specs.declared.refused_formulas.RefusedFormulas.{RefusedFormulas}
use Rattle.omega_run.specs.Streams.{counted_exit}

-- the answers to so many automata, after which the command would end so, and how it ends then
abbrev pub EndsAfter : (at_least : ℕ) → (Exit → List ℕ → (automata : ℕ) → Type 0) → Exit → List ℕ → Type 0
EndsAfter at_least AreAnswers exit output = (own : Exit) × (automata : ℕ)
    × AreAnswers own output automata × (exit ≡ counted_exit at_least automata own)

-- what the command makes of the texts of formulas and of that of the input: how it ends and its output
abbrev pub AnswersFormulas : Formulas → (formulas : List (List ℕ)) → (input : List ℕ)
    → Exit → List ℕ → Type 0
AnswersFormulas (Equal explain) formulas input = AreEqualAnswers formulas input explain
AnswersFormulas (Satisfies explain) formulas input = AreSatisfiesAnswers formulas input explain
AnswersFormulas (SatisfiesStream explain at_least) formulas input =
    EndsAfter at_least (AreSatisfiesStreamAnswers formulas input explain)
AnswersFormulas (SatisfiesWord explain) formulas input =
    AreSatisfiesWordAnswers formulas input explain

-- why the texts are refused, and what that is about
abbrev pub RefusesFormulas : Formulas → (formulas : List (List ℕ)) → (input : List ℕ)
    → RefusedFormulas → Type 0
RefusesFormulas (Equal explain) formulas input = AreEqualRefused formulas input explain
RefusesFormulas (Satisfies explain) formulas input = AreSatisfiesRefused formulas input explain
RefusesFormulas (SatisfiesStream explain at_least) formulas input =
    AreSatisfiesStreamRefused formulas input explain
RefusesFormulas (SatisfiesWord explain) formulas input =
    AreSatisfiesWordRefused formulas input explain

-- the refusal is one of these without its number
abbrev pub IsUnnumbered : (RefusedFormulas → Type 0) → Refused → Type 0
IsUnnumbered Refuses refused =
    (numbered : RefusedFormulas) × Refuses numbered × (refused ≡ unnumbered numbered)

-- what the command makes of its texts, or why it makes nothing
abbrev pub IsFormulaAnswer : Formulas → (formulas : List (List ℕ)) → (input : List ℕ)
    → Result (Exit × List ℕ) RefusedFormulas → Type 0
IsFormulaAnswer asked formulas input (Ok reply) =
    AnswersFormulas asked formulas input reply.0 reply.1
IsFormulaAnswer asked formulas input (Err refused) = RefusesFormulas asked formulas input refused
