-- Values that are made round by round are those of a run.
use Rattle.std.proofs.Common.{◌≡◌, ℕ, zero, suc, ◌+◌, ◌/◌, ◌<◌, ◌==◌, Bool, true, false, not, cond, List, ◌∷◌, ◌++◌, length, map, get_or, refl, sym, ap, ◌∙◌, subst, arith, add-one}
use Rattle.std.proofs.lemmas.List.{get_or-map, get_or_default, get_or_append_left, length-map}
use Rattle.omega_circuit.specs.Circuit.{CircuitValue, IsCircuit, defined_variables, is_even}
use Rattle.omega_circuit.specs.Laws.{AreMadeInTurn, AreRun, HasRun, IsWordWith, ValuesAreRuns}
use Rattle.omega_circuit.specs.Rounds.{HasLatches, IsCircuitRun, IsWordOf, gate_value, literal_value}
use Rattle.omega_circuit.specs.private.Numbers.{first_gate}
use Rattle.omega_circuit.specs.private.Orders.{flag_at}
use Rattle.omega_circuit.specs.declared.gate.Gate.{Gate}
use Rattle.omega_circuit.specs.declared.latch.Latch.{Latch}
use Rattle.omega_circuit.proofs.Definitions.{input_at, latch_at, latch_variable, variable_at, variables_long}
use Rattle.omega_circuit.proofs.Evaluating.{part_input, part_latch}
use Rattle.omega_text.specs.NamedWords.{NamedWord}

-- latches have values that they have at their places
latches_by_place : (c : CircuitValue) (held : ℕ → Bool) (state : Latch → Bool)
    → ((k : ℕ) → k < length c.latches → held ((latch_at c.latches k).literal / 2) ≡ state (latch_at c.latches k)) → HasLatches c held state
latches_by_place c held state each k d within =
    subst (λ (l : Latch). held (l.literal / 2) ≡ state l) (get_or_default c.latches k (record { literal = 0; next = 0; reset = 0 }) d within) (each k within)

-- the value of an even literal is that of its variable
even_value : (held : ℕ → Bool) (literal : ℕ) → is_even literal ≡ true → literal_value held literal ≡ held (literal / 2)
even_value held literal even = ap (λ (b : Bool). cond b (held (literal / 2)) (not (held (literal / 2)))) even

module _ (c : CircuitValue) (is : IsCircuit c) (inputs latches values outputs : ℕ → List Bool) (made : AreMadeInTurn c inputs latches values outputs) where
  -- the values of the variables in each round
  abbrev held : ℕ → ℕ → Bool
  held i = (made.rounds i).held

  latches_long : (i : ℕ) → length (latches i) ≡ length c.latches
  latches_long zero = ap length made.first ∙ length-map c.latches (λ (latch : Latch). latch.reset == 1)
  latches_long (suc i) =
      ap (λ n. length (latches n)) (sym (add-one i)) ∙ ap length (made.nexts i (held i) (made.rounds i).by_variable)
      ∙ length-map c.latches (λ (latch : Latch). literal_value (held i) latch.next)

  at_number : (i n : ℕ) → n < first_gate c + length c.gates → held i (variable_at c n) ≡ flag_at (false ∷ (inputs i ++ (latches i ++ map (gate_value (held i)) c.gates))) n
  at_number i n within =
      sym (ap (λ (xs : List Bool). flag_at xs n) (made.rounds i).by_variable ∙ get_or-map (held i) (defined_variables c) n 0 false (omega (arith, within, variables_long c)))
      ∙ ap (λ (xs : List Bool). flag_at xs n) (made.rounds i).given

  input_value : (i k : ℕ) → k < length c.inputs → held i (get_or c.inputs k 0 / 2) ≡ flag_at (inputs i) k
  input_value i k small =
      ap (held i) (sym (input_at c k small))
      ∙ at_number i (1 + k) (omega (arith, small))
      ∙ part_input (inputs i) (latches i) (map (gate_value (held i)) c.gates) k (let e = made.letters i in omega (arith, small, e))

  latch_value : (i k : ℕ) → k < length c.latches → held i ((latch_at c.latches k).literal / 2) ≡ flag_at (latches i) k
  latch_value i k small =
      let e = made.letters i in
      let long = latches_long i in
      ap (held i) (sym (latch_variable c (1 + length c.inputs + k) k refl small))
      ∙ at_number i (1 + length c.inputs + k) (omega (arith, small))
      ∙ part_latch (inputs i) (latches i) (map (gate_value (held i)) c.gates) (1 + length c.inputs + k) k (omega (arith, e)) (omega (arith, small, long))

  run : IsCircuitRun c held
  run = record {
    each = λ i. (made.rounds i).round;
    starts = latches_by_place c (held 0) (λ (latch : Latch). latch.reset == 1) (λ k within. latch_value 0 k within
        ∙ ap (λ (xs : List Bool). flag_at xs k) made.first
        ∙ get_or-map (λ (latch : Latch). latch.reset == 1) c.latches k (record { literal = 0; next = 0; reset = 0 }) false within);
    goes_on = λ i. latches_by_place c (held (i + 1)) (λ (latch : Latch). literal_value (held i) latch.next) (λ k within. latch_value (i + 1) k within
        ∙ ap (λ (xs : List Bool). flag_at xs k) (made.nexts i (held i) (made.rounds i).by_variable)
        ∙ get_or-map (λ (latch : Latch). literal_value (held i) latch.next) c.latches k (record { literal = 0; next = 0; reset = 0 }) false within);
  }

  output_value : (i k : ℕ) → k < length c.outputs → flag_at (outputs i) k ≡ literal_value (held i) (get_or c.outputs k 0)
  output_value i k within =
      ap (λ (xs : List Bool). flag_at xs k) (made.ends i (held i) (made.rounds i).by_variable)
      ∙ get_or-map (λ literal. literal_value (held i) literal) c.outputs k 0 false within

  input_even : (k : ℕ) → k < length c.inputs → is_even (get_or c.inputs k 0) ≡ true
  input_even k small =
      let later : List ℕ = map (λ (latch : Latch). latch.literal) c.latches ++ map (λ (gate : Gate). gate.literal) c.gates in
      ap is_even (sym (get_or_append_left c.inputs later 0 k small))
      ∙ is.definitions.even (suc k) 0 (let e = variables_long c in let m = length-map (0 ∷ (c.inputs ++ later)) (λ n. n / 2) in omega (arith, e, m, small))

  has : HasRun c inputs values outputs
  has = record {
    rounds = held;
    run = run;
    reads = λ i k within. input_value i k within;
    same = λ i. (made.rounds i).by_variable;
    ends = output_value;
  }

  words : (word : NamedWord) → IsWordWith c inputs outputs word → IsWordOf c word
  words word with_these = record {
    rounds = held;
    run = run;
    inputs = λ i k within. with_these.letters i k within ∙ sym (input_value i k within) ∙ sym (even_value (held i) (get_or c.inputs k 0) (input_even k within));
    outputs = λ i k within. with_these.ends i k within ∙ output_value i k within;
  }

  pub are_run : AreRun c inputs values outputs
  are_run = record { has = has; words = words }

pub values_are_runs : ValuesAreRuns
values_are_runs c inputs latches values outputs is made = are_run c is inputs latches values outputs made
