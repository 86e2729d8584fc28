-- Rounds with the same inputs and latches have the same values.
use Rattle.std.proofs.Common.{◌≡◌, ℕ, ◌+◌, ◌/◌, ◌<◌, Bool, false, List, ◌∷◌, ◌++◌, length, map, get_or, refl, sym, ap, ◌∙◌, arith}
use Rattle.std.proofs.lemmas.List.{get_or-map, length-map, ext_get_or}
use Rattle.omega_circuit.specs.Circuit.{CircuitValue, IsCircuit, defined_variables}
use Rattle.omega_circuit.specs.Rounds.{AreValues, IsRound, gate_value, table_of}
use Rattle.omega_circuit.specs.private.Numbers.{first_gate}
use Rattle.omega_circuit.specs.private.Orders.{flag_at}
use Rattle.omega_circuit.specs.declared.latch.Latch.{Latch}
use Rattle.omega_circuit.proofs.Agreeing.{numbers_agree}
use Rattle.omega_circuit.proofs.Definitions.{input_at, latch_at, latch_variable, variable_at, variables_long}
use Rattle.omega_circuit.proofs.Evaluating.{part_input, part_latch}
use Rattle.omega_circuit_automaton.specs.declared.ternary.Ternary.{Ternary}
use Rattle.omega_circuit_automaton.specs.declared.ternary.Ternary.TheVariants.{False, True, Unknown}
use Rattle.omega_circuit_automaton.specs.private.Cuts.{is_true}
use Rattle.omega_circuit_automaton.specs.private.Ternary.{IsRoundOf, Matches, latch_values, ternary_at}

-- a value that is known is what a cube says
pub known_value : (value : Ternary) (b : Bool) → Matches value b → (value ≡ Unknown → ⊥) → b ≡ is_true value
known_value False b is there = is
known_value True b is there = is
known_value Unknown b is there = absurd (there refl)

module _ (c : CircuitValue) (is : IsCircuit c) (inputs latches values : List Bool) (are : AreValues c inputs latches values)
    (inputs_long : length inputs ≡ length c.inputs) (latches_long : length latches ≡ length c.latches) where
  at_number : (n : ℕ) → n < first_gate c + length c.gates
      → are.held (variable_at c n) ≡ flag_at (false ∷ (inputs ++ (latches ++ map (gate_value are.held) c.gates))) n
  at_number n within =
      sym (ap (λ (xs : List Bool). flag_at xs n) are.by_variable ∙ get_or-map are.held (defined_variables c) n 0 false (omega (arith, within, variables_long c)))
      ∙ ap (λ (xs : List Bool). flag_at xs n) are.given

  input_value : (k : ℕ) → k < length c.inputs → are.held (get_or c.inputs k 0 / 2) ≡ flag_at inputs k
  input_value k small =
      ap are.held (sym (input_at c k small))
      ∙ at_number (1 + k) (omega (arith, small))
      ∙ part_input inputs latches (map (gate_value are.held) c.gates) k (omega (arith, small, inputs_long))

  latch_value : (k : ℕ) → k < length c.latches → are.held ((latch_at c.latches k).literal / 2) ≡ flag_at latches k
  latch_value k small =
      ap are.held (sym (latch_variable c (1 + length c.inputs + k) k refl small))
      ∙ at_number (1 + length c.inputs + k) (omega (arith, small))
      ∙ part_latch inputs latches (map (gate_value are.held) c.gates) (1 + length c.inputs + k) k (omega (arith, inputs_long)) (omega (arith, small, latches_long))

  -- another round with these inputs and latches
  pub same_values : (round : ℕ → Bool) → IsRound c round → ((k : ℕ) → k < length c.inputs → round (get_or c.inputs k 0 / 2) ≡ flag_at inputs k)
      → latch_values c.latches round ≡ latches → values ≡ table_of c round
  same_values round other has_inputs has_latches =
      let agree : (n : ℕ) → n < first_gate c + length c.gates → are.held (variable_at c n) ≡ round (variable_at c n) =
      numbers_agree c is are.held round are.round other
      (λ k small. input_value k small ∙ sym (has_inputs k small))
      (λ k small. latch_value k small ∙ sym (ap (λ (xs : List Bool). flag_at xs k) has_latches)
      ∙ get_or-map (λ (latch : Latch). round (latch.literal / 2)) c.latches k (record { literal = 0; next = 0; reset = 0 }) false small) in
      are.by_variable
      ∙ ext_get_or false (map are.held (defined_variables c)) (map round (defined_variables c))
      (length-map (defined_variables c) are.held ∙ sym (length-map (defined_variables c) round))
      (λ n within. let small : n < length (defined_variables c) = omega (arith, within, length-map (defined_variables c) are.held) in
      get_or-map are.held (defined_variables c) n 0 false small
      ∙ agree n (omega (arith, small, variables_long c))
      ∙ sym (get_or-map round (defined_variables c) n 0 false small))

-- a round of a cube without unknown inputs
pub round_values : (c : CircuitValue) (is : IsCircuit c) (latches values inputs : List Bool) (cube : List Ternary) → length cube ≡ length c.inputs → length latches ≡ length c.latches
    → inputs ≡ map is_true cube → ((k : ℕ) → k < length cube → ternary_at cube k ≡ Unknown → ⊥) → AreValues c inputs latches values
    → (round : ℕ → Bool) → IsRoundOf c latches cube round → values ≡ table_of c round
round_values c is latches values inputs cube long latches_long same there are round of =
    same_values c is inputs latches values are (ap length same ∙ length-map cube is_true ∙ long) latches_long round of.is
    (λ k small. let within : k < length cube = omega (arith, small, long) in
    known_value (ternary_at cube k) (round (get_or c.inputs k 0 / 2)) (of.fits k) (there k within)
    ∙ sym (ap (λ (xs : List Bool). flag_at xs k) same ∙ get_or-map is_true cube k Unknown false within))
    of.latched
