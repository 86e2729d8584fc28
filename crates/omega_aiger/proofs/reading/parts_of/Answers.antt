-- What is read is what the text says.
use Rattle.std.proofs.Common.{arith}
use Rattle.omega_aiger.proofs.Steps.{err_says, ok_says}
use Rattle.omega_aiger.proofs.Texts.{failed_is_refused, read_parts_say}
use Rattle.omega_aiger.proofs.reading.parts_of.Goals as goal

pub returns-clause-parts : goal.returns-clause-parts
returns-clause-parts c = ok_says c.read_parts.result _ _ (λ parts says. read_parts_say c.args.text.now parts (omega arith) says) c.read_parts.ensures.parts

pub returns-clause-refused : goal.returns-clause-refused
returns-clause-refused c = err_says c.read_parts.result _ _ (λ refusal says. failed_is_refused c.args.text.now refusal (omega arith) says) c.read_parts.ensures.fails
