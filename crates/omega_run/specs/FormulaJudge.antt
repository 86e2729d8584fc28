-- What each command makes of what is judged for a formula whose propositions are parted: its answer, what the two texts
-- are called, and which of them a refusal is about.
use Rattle.std.specs.Prelude.{List, ℕ, codes}
use Rattle.omega_cli_command.specs.declared.formula_judge.FormulaJudge.{FormulaJudge}
use Rattle.omega_cli_command.specs.declared.formula_judge.FormulaJudge.TheVariants.{Controller}
use Rattle.omega_cli_command.specs.declared.formula_judge.FormulaJudge.TheVariants.{CounterStrategy}
use Rattle.omega_io.specs.declared.exit.Exit.{Exit}
use Rattle.omega_io.specs.declared.refused.Refused.{Refused}
use Rattle.omega_io.specs.declared.refused.Which.{Which}
use Rattle.omega_io.specs.declared.refused.Which.TheVariants.{File, Input}
use Rattle.omega_aiger.specs.Beginnings.{begins_as_circuit}
use Rattle.omega_answers_synth.specs.FormulaCounter.{IsFormulaCounterAnswer, IsFormulaCounterRefused}
use Rattle.omega_answers_synth.specs.Outputs.{NameLists}
use Rattle.omega_run.specs.Systems.{IsFormulaSystemAnswer, IsFormulaSystemRefused}

-- what the command makes of the text of the input for the formula of the other: how it ends and its output
abbrev pub AnswersFormulaJudge : FormulaJudge → NameLists → (formula text : List ℕ) → Exit → List ℕ
    → Type 0
AnswersFormulaJudge (Controller explain) lists formula text =
    IsFormulaSystemAnswer (begins_as_circuit text) formula lists text explain
AnswersFormulaJudge (CounterStrategy explain) lists formula text =
    IsFormulaCounterAnswer formula lists text explain

-- why the two texts are refused, and which of them that is about
abbrev pub RefusesFormulaJudge : FormulaJudge → NameLists → (formula text : List ℕ) → Refused → Type 0
RefusesFormulaJudge (Controller explain) lists formula text =
    IsFormulaSystemRefused (begins_as_circuit text) formula lists text
RefusesFormulaJudge (CounterStrategy explain) lists formula text =
    IsFormulaCounterRefused formula lists text

-- what each of the two texts is called
abbrev pub judged_name : FormulaJudge → Which → List ℕ
judged_name asked File = codes "formula"
judged_name (Controller explain) Input = codes "controller"
judged_name (CounterStrategy explain) Input = codes "counter-strategy"
