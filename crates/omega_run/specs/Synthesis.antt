-- What each command makes of a formula whose propositions are parted: its answer, or the refusal.
use Rattle.std.specs.Prelude.{List, Result, ℕ, option_map}
use Rattle.omega_text.specs.declared.refusal.Refusal.{Refusal}
use Rattle.omega_cli_command.specs.declared.partition.Partition.{Partition}
use Rattle.omega_cli_command.specs.declared.synthesis.Synthesis.{Synthesis}
use Rattle.omega_cli_command.specs.declared.synthesis.Synthesis.TheVariants.{Circuit, Controller, Decide}
use Rattle.omega_cli_command.specs.declared.synthesis.Synthesis.TheVariants.{Game}
use Rattle.omega_io.specs.declared.exit.Exit.{Exit}
use Rattle.omega_answers_circuit.specs.FormulaCircuit.{IsFormulaCircuitRefusal, IsFormulaCircuitWritten}
use Rattle.omega_answers_synth.specs.FormulaGame.{IsFormulaGameAnswer, IsFormulaGameRefusal}
use Rattle.omega_answers_synth.specs.FormulaRefusing.{IsFormulaRealizeRefusal}
use Rattle.omega_answers_synth.specs.FormulaWinner.{IsFormulaRealizeAnswer, IsFormulaWinnerAnswer}
use Rattle.omega_answers_synth.specs.Outputs.{NameLists}
use Rattle.omega_run.specs.CircuitForms.{form_for}
use Rattle.omega_run.specs.OneText.{Concludes, Replies}

-- the lists of names of a command line, each if it is given
abbrev pub lists_in : Partition → NameLists
lists_in partition = record {
  outs = option_map (λ list. list.items) partition.outs;
  ins = option_map (λ list. list.items) partition.ins;
}

-- what the command makes of the text of a formula: how it ends and its output, or the refusal
abbrev pub AnswersSynthesis : Synthesis → NameLists → List ℕ → Result (Exit × List ℕ) Refusal → Type 0
AnswersSynthesis Decide lists text =
    Concludes (IsFormulaRealizeAnswer text lists) (IsFormulaRealizeRefusal text lists)
AnswersSynthesis Controller lists text =
    Concludes (IsFormulaWinnerAnswer text lists) (IsFormulaRealizeRefusal text lists)
AnswersSynthesis (Circuit binary) lists text =
    Concludes (IsFormulaCircuitWritten (form_for binary) text lists)
    (IsFormulaCircuitRefusal (form_for binary) text lists)
AnswersSynthesis Game lists text =
    Replies (IsFormulaGameAnswer text lists) (IsFormulaGameRefusal text lists)
