-- the specification is read and the circuit is judged, or the specification is refused
use Rattle.std.proofs.Common.{inl}
use Rattle.std.proofs.lemmas.Result.{IfErr-weaker, IfOk-weaker}
use Rattle.omega_aiger.specs.Text.{IsCircuitTextRefusal}
use Rattle.omega_answers.proofs.About.{of_read}
use Rattle.omega_answers.proofs.Refusals.{text_is_read}
use Rattle.omega_hoa.specs.Alone.{IsAutomatonRefusal, IsAutomatonText}
use Rattle.omega_hoa_automaton.specs.Automaton.{Description}
use Rattle.omega_io.specs.declared.refused.Which.TheVariants.{File}
use Rattle.omega_answers_circuit.proofs.verify.verify_circuit.Goals as goal

pub returns-in-Ok-clause-answer : goal.returns-in-Ok-clause-answer
returns-in-Ok-clause-answer c =
    IfOk-weaker c.verdict_on_text.result _ _
    (λ made (circuit, of_text, verdict). record {
      file = c.in-Ok.read;
      file_read = c.in-Ok.ensures.automaton;
      input = circuit;
      input_read = of_text;
      holds = verdict;
    })
    c.verdict_on_text.ensures.verdict

pub returns-in-Ok-clause-refused : goal.returns-in-Ok-clause-refused
returns-in-Ok-clause-refused c =
    IfErr-weaker c.verdict_on_text.result _ _
    (λ refused then. then c.args.specification.now c.in-Ok.ensures.automaton)
    c.verdict_on_text.ensures.refused

pub returns-in-Err-clause-refused : goal.returns-in-Err-clause-refused
returns-in-Err-clause-refused c =
    inl (of_read (IsAutomatonRefusal c.args.specification.now)
    (λ refusal. (file : Description) × IsAutomatonText c.args.specification.now file × IsCircuitTextRefusal c.args.circuit.now refusal)
    File (IsAutomatonRefusal c.args.specification.now) (λ refusal is. is) (text_is_read c.args.specification.now)
    c.in-Err.refusal c.in-Err.ensures.refused c.of.result c.of.ensures)
