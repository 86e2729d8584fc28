-- A circuit has one run for each sequence of letters: each round completes the latches that the one before leaves.
use Rattle.std.proofs.Common.{◌≡◌, ℕ, zero, suc, ◌/◌, ◌<◌, ◌==◌, Bool, length, sym, ◌∙◌, subst, add-one}
use Rattle.std.specs.List.{Contains}
use Rattle.std.proofs.lemmas.List.{get_or_default}
use Rattle.omega_circuit.specs.Circuit.{CircuitValue, IsCircuit, defined_variables}
use Rattle.omega_circuit.specs.Laws.{CircuitsRun, RunsOnce}
use Rattle.omega_circuit.specs.Rounds.{HasLatches, IsCircuitRun, IsRound, ReadsLetters, gate_value, literal_value}
use Rattle.omega_circuit.specs.declared.gate.Gate.{Gate}
use Rattle.omega_circuit.specs.declared.latch.Latch.{Latch}
use Rattle.omega_circuit.proofs.Agreeing.{rounds_agree}
use Rattle.omega_circuit.proofs.Completing.{complete, complete_false, complete_gate, complete_input, complete_latch}
use Rattle.omega_circuit.proofs.Definitions.{latch_at}
use Rattle.omega_circuit.proofs.Values.{literal_alike}

-- the completion of inputs and latches is a round
pub complete_round : (c : CircuitValue) (is : IsCircuit c) (letter state : ℕ → Bool) → IsRound c (complete c letter state is)
complete_round c is letter state = record {
  constant = complete_false c letter state is;
  gates = λ k d within. subst (λ (g : Gate). complete c letter state is (g.literal / 2) ≡ gate_value (complete c letter state is) g)
      (get_or_default c.gates k (record { literal = 0; left = 0; right = 0 }) d within) (complete_gate c letter state is k within);
}

-- its latches have these values
pub complete_latches : (c : CircuitValue) (is : IsCircuit c) (letter : ℕ → Bool) (state : Latch → Bool)
    → HasLatches c (complete c letter (λ k. state (latch_at c.latches k)) is) state
complete_latches c is letter state k d within =
    subst (λ (l : Latch). complete c letter (λ j. state (latch_at c.latches j)) is (l.literal / 2) ≡ state l)
    (get_or_default c.latches k (record { literal = 0; next = 0; reset = 0 }) d within)
    (complete_latch c letter (λ j. state (latch_at c.latches j)) is k within)

module _ (c : CircuitValue) (is : IsCircuit c) (letters : ℕ → ℕ → Bool) where
  -- the values in each round
  rounds : ℕ → ℕ → Bool
  rounds zero = complete c (letters zero) (λ k. (latch_at c.latches k).reset == 1) is
  rounds (suc i) = complete c (letters (suc i)) (λ k. literal_value (rounds i) (latch_at c.latches k).next) is

  each : (i : ℕ) → IsRound c (rounds i)
  unfolding rounds
  each zero = complete_round c is (letters zero) (λ k. (latch_at c.latches k).reset == 1)
  each (suc i) = complete_round c is (letters (suc i)) (λ k. literal_value (rounds i) (latch_at c.latches k).next)

  starts : HasLatches c (rounds zero) (λ latch. latch.reset == 1)
  unfolding rounds
  starts = complete_latches c is (letters zero) (λ (latch : Latch). latch.reset == 1)

  goes_on : (i : ℕ) → HasLatches c (rounds (suc i)) (λ latch. literal_value (rounds i) latch.next)
  unfolding rounds
  goes_on i = complete_latches c is (letters (suc i)) (λ (latch : Latch). literal_value (rounds i) latch.next)

  run : IsCircuitRun c rounds
  run = record {
    each = each;
    starts = starts;
    goes_on = λ i. subst (λ j. HasLatches c (rounds j) (λ (latch : Latch). literal_value (rounds i) latch.next)) (sym (add-one i)) (goes_on i);
  }

  reads : ReadsLetters c rounds letters
  unfolding rounds
  reads zero = complete_input c (letters zero) (λ k. (latch_at c.latches k).reset == 1) is
  reads (suc i) = complete_input c (letters (suc i)) (λ k. literal_value (rounds i) (latch_at c.latches k).next) is

  module _ (others : ℕ → ℕ → Bool) (also_runs : IsCircuitRun c others) (also_reads : ReadsLetters c others letters) where
    in_round : (i : ℕ) → ((k : ℕ) → k < length c.latches → others i ((latch_at c.latches k).literal / 2) ≡ rounds i ((latch_at c.latches k).literal / 2))
        → (v : ℕ) → Contains (defined_variables c) v → others i v ≡ rounds i v
    in_round i latches = rounds_agree c is (others i) (rounds i) (also_runs.each i) (each i) (λ k within. also_reads i k within ∙ sym (reads i k within)) latches

    only : (i v : ℕ) → Contains (defined_variables c) v → others i v ≡ rounds i v
    only zero = in_round zero (λ k within. also_runs.starts k none within ∙ sym (starts k none within))
      where
        none : Latch
        none = record { literal = 0; next = 0; reset = 0 }
    only (suc i) = in_round (suc i) (λ k within.
        subst (λ j. others j ((latch_at c.latches k).literal / 2) ≡ literal_value (others i) (latch_at c.latches k).next) (add-one i) (also_runs.goes_on i k (record { literal = 0; next = 0; reset = 0 }) within)
        ∙ literal_alike (others i) (rounds i) (latch_at c.latches k).next (only i ((latch_at c.latches k).next / 2) (is.complete.nexts k (record { literal = 0; next = 0; reset = 0 }) within))
        ∙ sym (goes_on i k (record { literal = 0; next = 0; reset = 0 }) within))

  pub runs_once : RunsOnce c letters
  runs_once = record { rounds = rounds; run = run; reads = reads; only = only }

pub circuits_run : CircuitsRun
circuits_run c is letters = runs_once c is letters
