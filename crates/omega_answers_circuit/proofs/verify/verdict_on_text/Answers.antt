-- the circuit is read and judged, or its text is refused
use Rattle.std.proofs.Common.{inl, inr}
use Rattle.std.proofs.lemmas.Result.{IfErr-weaker, IfOk-weaker}
use Rattle.omega_aiger.specs.Text.{IsCircuitTextRefusal}
use Rattle.omega_answers.proofs.About.{of_read}
use Rattle.omega_hoa.specs.Alone.{IsAutomatonRefusal, IsAutomatonText}
use Rattle.omega_hoa_automaton.specs.Automaton.{Description}
use Rattle.omega_io.specs.declared.refused.Which.TheVariants.{Input}
use Rattle.omega_answers_circuit.proofs.verify.verdict_on_text.Goals as goal

pub returns-in-Ok-clause-verdict : goal.returns-in-Ok-clause-verdict
returns-in-Ok-clause-verdict c =
    IfOk-weaker c.circuit_verdict.result _ _ (λ made verdict. (c.in-Ok.circuit, c.in-Ok.ensures.circuit, verdict)) c.circuit_verdict.ensures.verdict

pub returns-in-Ok-clause-refused : goal.returns-in-Ok-clause-refused
returns-in-Ok-clause-refused c =
    IfErr-weaker c.circuit_verdict.result _ _
    (λ refused is source of_source.
    inr (record {
      file = c.args.specification.now;
      file_read = of_source;
      input = c.in-Ok.circuit;
      input_read = c.in-Ok.ensures.circuit;
      holds = is;
    }))
    c.circuit_verdict.ensures.refused

pub returns-in-Err-clause-refused : goal.returns-in-Err-clause-refused
returns-in-Err-clause-refused c = λ source of_source.
    inl (of_read (IsAutomatonRefusal source) (λ refusal. (file : Description) × IsAutomatonText source file × IsCircuitTextRefusal c.args.text.now refusal)
    Input (IsCircuitTextRefusal c.args.text.now) (λ refusal is. (c.args.specification.now, of_source, is)) (λ failed. failed)
    c.in-Err.refusal c.in-Err.ensures.refused c.of.result c.of.ensures)
