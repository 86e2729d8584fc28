-- A command whose text is read whole before it is answered.
use Rattle.std.proofs.Common.{◌≡◌, List, ℕ, Result, inl, refl}
use Rattle.omega_cli_command.specs.declared.command.Command.{Command}
use Rattle.omega_cli_command.specs.declared.command.Command.TheVariants.{FormulaJudge, Formulas, OneText, Stream, Synthesis, TwoTexts}
use Rattle.omega_cli_command.specs.declared.stream.Stream.{Stream as StreamTask}
use Rattle.omega_io.specs.declared.exit.Exit.{Exit}
use Rattle.omega_io.specs.declared.refused.Refused.{Refused}
use Rattle.omega_run.specs.Run.{IsReadAndAnswered, IsRun}
use Rattle.omega_run.specs.World.{Streams}

-- what is read and answered so is run, unless the command answers a stream while it is read
pub run_whole : (command : Command) (budget : ℕ) (other : List ℕ) (outcome : Result Exit Refused) (before after : Streams)
    → ((stream : StreamTask) → ¬ (command ≡ Stream stream)) → IsReadAndAnswered command budget other outcome before after
    → IsRun command budget other outcome before after
run_whole (Stream stream) budget other outcome before after whole run = absurd (whole stream refl)
run_whole (OneText one) budget other outcome before after whole run = inl run
run_whole (TwoTexts two from) budget other outcome before after whole run = inl run
run_whole (Formulas asked formulas) budget other outcome before after whole run = inl run
run_whole (Synthesis asked partition) budget other outcome before after whole run = inl run
run_whole (FormulaJudge asked from partition) budget other outcome before after whole run = inl run
