-- who wins is decided, and what is written of a controller is judged
use Rattle.std.proofs.Common.{false, ℕ, List, subst, sym}
use Rattle.omega_answers.proofs.Refusals.{memory_or, or_memory_of}
use Rattle.omega_answers_circuit.specs.OwnCircuit.{IsUnjudged}
use Rattle.omega_answers_circuit.specs.Verify.{IsCircuitAnswer, IsCircuitRefused}
use Rattle.omega_answers_circuit.specs.WinningCircuit.{IsWinningCircuitRefusal, not_realized, unjudged}
use Rattle.omega_answers_synth.specs.Refusing.{IsRealizeRefusal}
use Rattle.omega_answers_synth.specs.Winner.{IsWinnerAnswer}
use Rattle.omega_hoa_edges.proofs.Refusals.{passed_on}
use Rattle.omega_io.specs.declared.exit.Exit.{Exit}
use Rattle.omega_io.specs.declared.exit.Exit.TheVariants.{Done}
use Rattle.omega_solve.specs.Limits.{most_lifts}
use Rattle.omega_text.specs.Cases.{or_memory}
use Rattle.omega_answers_circuit.proofs.winning_circuit.write_winning_circuit.Goals as goal

pub returns-in_err-exit-clause-refused : goal.returns-in_err-exit-clause-refused
returns-in_err-exit-clause-refused c =
    passed_on c.from_residual.result (or_memory (IsWinningCircuitRefusal c.args.form c.args.text.now)) _ c.from_residual.ensures.1
    (memory_or (IsRealizeRefusal c.args.text.now most_lifts) (IsWinningCircuitRefusal c.args.form c.args.text.now) (λ refusal is. not_realized is) _
    c.in_err-exit.ensures.refused)

pub specified_circuit-requires : goal.specified_circuit-requires
specified_circuit-requires c =
    subst (λ (bytes : List ℕ). IsWinnerAnswer c.args.text.now Done bytes) (sym c.as_slice.ensures.value)
    (subst (λ (exit : Exit). IsWinnerAnswer c.args.text.now exit c.in_ok-exit.winner.items) c.in-Done.is c.in_ok-exit.ensures.answer)

pub returns-in_err-circuit-in-Done-clause-refused : goal.returns-in_err-circuit-in-Done-clause-refused
returns-in_err-circuit-in-Done-clause-refused c =
    passed_on c.from_residual-in_err-circuit-in-Done.result (or_memory (IsWinningCircuitRefusal c.args.form c.args.text.now)) _
    c.from_residual-in_err-circuit-in-Done.ensures.1 c.in_err-circuit-in-Done.ensures.refused

pub returns-in_err-check_circuit_judged-in-Done-clause-refused : goal.returns-in_err-check_circuit_judged-in-Done-clause-refused
returns-in_err-check_circuit_judged-in-Done-clause-refused c =
    let text : List ℕ = c.args.text.now in
    let refusal = c.in_err-check_circuit_judged-in-Done.field-0.0 in
    passed_on c.from_residual-in_err-check_circuit_judged-in-Done.result (or_memory (IsWinningCircuitRefusal c.args.form text)) _
    c.from_residual-in_err-check_circuit_judged-in-Done.ensures.1
    (or_memory_of (IsWinningCircuitRefusal c.args.form text) refusal
    (unjudged c.in_ok-circuit-in-Done.circuit.items c.in_ok-circuit-in-Done.ensures.circuit
    (subst (λ (bytes : List ℕ). IsUnjudged (IsCircuitAnswer text bytes false) (IsCircuitRefused text bytes) refusal) c.as_slice-in-Done.ensures.value
    c.in_err-check_circuit_judged-in-Done.ensures.refused)))

pub returns-in-Done-clause-answer : goal.returns-in-Done-clause-answer
returns-in-Done-clause-answer c =
    let judged = c.in_ok-check_circuit_judged-in-Done.ensures.judged in
    record {
      made = c.in_ok-circuit-in-Done.ensures.circuit;
      reply = judged.0;
      judged = subst (λ (bytes : List ℕ). IsCircuitAnswer c.args.text.now bytes false Done judged.0) c.as_slice-in-Done.ensures.value judged.1;
    }

pub returns-clause-answer : goal.returns-clause-answer
returns-clause-answer c = record {
  strategy = c.in_ok-exit.winner.items;
  lost = subst (λ (exit : Exit). IsWinnerAnswer c.args.text.now exit c.in_ok-exit.winner.items) c.in-No.is c.in_ok-exit.ensures.answer;
  line = c.in_ok-from_slice-in-No.ensures.items;
}
