-- How an answer of yes or no is told.
use Rattle.std.specs.Prelude.{◌≡◌, ◌++◌, Bool, true, false, List, ℕ, [], codes}
use Rattle.omega_io.specs.declared.answer.Answer.{Answer}
use Rattle.omega_io.specs.declared.answer.Answer.TheVariants.{No, Yes}
use Rattle.omega_io.specs.declared.exit.Exit.{Exit}
use Rattle.omega_io.specs.declared.exit.Exit.TheVariants as exit

-- how the program ends after an answer
abbrev pub exit_of : Answer → Exit
exit_of Yes = exit.Done
exit_of (No lines) = exit.No

-- the text of an answer: `yes`, or `no` and the lines of the reason
abbrev pub answer_text : Answer → List ℕ
answer_text Yes = codes "yes\n"
answer_text (No lines) = codes "no\n" ++ lines

-- the program ends so after an answer, and this is its text
abbrev pub IsReply : Answer → Exit → List ℕ → Type 0
IsReply answer exit output = (exit ≡ exit_of answer) × (output ≡ answer_text answer)

-- the lines of a reason, if an explanation is asked for, and else none
abbrev pub explained : (explain : Bool) → (lines : List ℕ) → List ℕ
explained true lines = lines
explained false lines = []

-- `no`, for a reason with these lines
abbrev pub no_for : (explain : Bool) → (lines : List ℕ) → Answer
no_for explain lines = No (explained explain lines)

-- `yes` is told
abbrev pub IsYes : Exit → List ℕ → Type 0
IsYes = IsReply Yes
