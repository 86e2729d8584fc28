-- What is written of a judgement on a circuit.
use Rattle.std.specs.Prelude.{Bool}
use Rattle.omega_answers_inclusion.specs.Example.{example_lines}
use Rattle.omega_io.specs.Answer.{no_for}
use Rattle.omega_io.specs.declared.answer.Answer.{Answer}
use Rattle.omega_io.specs.declared.answer.Answer.TheVariants.{Yes}
use Rattle.omega_answers_circuit.specs.declared.judgement.CircuitJudgement.{CircuitJudgement}
use Rattle.omega_answers_circuit.specs.declared.judgement.CircuitJudgement.TheVariants.{Realizes, Violates}

-- `yes`, or `no`, explained by the counterexample
abbrev pub judgement_answer : (explain : Bool) → CircuitJudgement → Answer
judgement_answer explain Realizes = Yes
judgement_answer explain (Violates example) = no_for explain (example_lines example)
