-- What `verify` is asked of a solution, by its flags.
use Rattle.std.specs.Prelude.{Bool, false, true, Option, ℕ}
use Rattle.omega_cli_command.specs.declared.two_texts.TwoTexts.{TwoTexts}
use Rattle.omega_cli_command.specs.declared.two_texts.TwoTexts.TheVariants as two

-- with names, its choices are judged and a `no` is explained
abbrev pub solution_question : Option ℕ → (explain winners names : Bool) → TwoTexts
solution_question from explain winners true = two.VerifyNamed from
solution_question from explain true false = two.VerifyWinners from explain
solution_question from explain false false = two.Verify from explain
