-- The answer that `verify` gives without an explanation.
use Rattle.std.specs.Prelude.{Bool, true, false, []}
use Rattle.omega_io.specs.declared.answer.Answer.{Answer}
use Rattle.omega_io.specs.declared.answer.Answer.TheVariants.{No, Yes}

-- the answer for a solution that is right or not
abbrev pub verdict_answer : Bool → Answer
verdict_answer true = Yes
verdict_answer false = No []
