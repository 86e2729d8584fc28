-- the ends of the only round
use Rattle.std.proofs.Common.{◌≡◌, ℕ, Bool, length, ap, ◌∙◌}
use Rattle.std.proofs.lemmas.List.{length-map}
use Rattle.omega_circuit.specs.Rounds.{literal_value, table_of}
use Rattle.omega_circuit.specs.declared.latch.Latch.{Latch}
use Rattle.omega_circuit_automaton.specs.private.Ternary.{IsRoundOf}
use Rattle.omega_circuit_automaton.proofs.Rounds.{round_values}
use Rattle.omega_circuit_automaton.proofs.ends.full_ends.Goals as goal

pub returns : goal.returns
returns c =
    let circuit = c.args.circuit.now in
    let are = c.in_ok-values.ensures in
    let same = c.as_slice.ensures.value ∙ c.in_ok-inputs.ensures in
    let table : (round : ℕ → Bool) → IsRoundOf circuit c.args.latches.now c.args.cube.now round → c.in_ok-values.values.items ≡ table_of circuit round =
    round_values circuit c.is_circuit.ensures c.args.latches.now c.in_ok-values.values.items c.as_slice.result.now c.args.cube.now c.requires.inputs c.requires.latches same c.requires.known are in
    record {
      outputs_are = λ round of. c.in_ok-outputs.ensures round (c.as_slice-2.ensures.value ∙ table round of);
      nexts_are = λ round of. c.in_ok-nexts.ensures round (c.as_slice-3.ensures.value ∙ table round of);
      outputs_long = ap length (c.in_ok-outputs.ensures are.held (c.as_slice-2.ensures.value ∙ are.by_variable)) ∙ length-map circuit.outputs (λ literal. literal_value are.held literal);
      nexts_long = ap length (c.in_ok-nexts.ensures are.held (c.as_slice-3.ensures.value ∙ are.by_variable))
          ∙ length-map circuit.latches (λ (latch : Latch). literal_value are.held latch.next);
    }
