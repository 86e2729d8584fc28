-- the text is refused, or its automaton has universal branching
use Rattle.omega_answers.proofs.OneText.{text_refused}
use Rattle.omega_answers_automaton.specs.Verify.{RefusesBranching}
use Rattle.omega_answers_automaton.proofs.verify.plain_automaton_in.Goals as goal

pub returns-in-Err-clause-refused : goal.returns-in-Err-clause-refused
returns-in-Err-clause-refused c = text_refused RefusesBranching c.args.text.now c.in-Err.refusal c.in-Err.ensures.refused
