-- The text that is written for a circuit in canonical form in the binary form says that circuit.
use Rattle.std.proofs.Common.{◌≡◌, inl, inr, ℕ, ◌+◌, ◌*◌, ◌/◌, ◌<◌, ◌≤◌, true, List, [], ◌∷◌, ◌++◌, All, length, get_or, decimal, refl, sym, ap, ◌∙◌, subst, arith, append_assoc, length-append}
use Rattle.std.specs.Prelude.{nat_eq}
use Rattle.std.specs.List.{IsDistinct, flat_map}
use Rattle.std.proofs.Math.Nat.{min-eq_left}
use Rattle.std.proofs.lemmas.List.{ext_get_or, get_or_default}
use Rattle.std.proofs.lemmas.List.Elements.{All-get_or}
use Rattle.std.proofs.lemmas.List.FromFn.{get_or-map-range_with_len, length-map-range_with_len}
use Rattle.omega_aiger.specs.BinaryText.{BinaryCircuitsAreRead, binary_rest, binary_text, deltas_text, next_text}
use Rattle.omega_aiger.specs.Deltas.{literal_of, no_literal}
use Rattle.omega_aiger.specs.Forms.{binary_body, circuit_layout, counts_of, counts_then, first_literals, form_layout, most_symbols, properties_then}
use Rattle.omega_aiger.specs.Layout.{Spells}
use Rattle.omega_aiger.specs.Written.{IsWritableAs, number_text, symbol_text}
use Rattle.omega_aiger.proofs.BinarySpelled.{AreGatesInOrder, AreLatchesInOrder, deltas_spelled, nexts_spelled}
use Rattle.omega_aiger.proofs.Parts.{parts_with, properties_with}
use Rattle.omega_aiger.proofs.Spelled.{IsSmallLatch, IsSmallSymbol, many_bytes, numbers_spelled, symbols_spelled}
use Rattle.omega_circuit.specs.Canonical.{IsCanonicalCircuit}
use Rattle.omega_circuit.specs.Circuit.{AreNamed, CircuitValue, positions_of}
use Rattle.omega_circuit.specs.Faults.{AreInRange, IsWithout}
use Rattle.omega_circuit.specs.Limits.{most_variables}
use Rattle.omega_circuit.specs.declared.gate.Gate.{Gate}
use Rattle.omega_circuit.specs.declared.latch.Latch.{Latch}
use Rattle.omega_circuit.specs.declared.parts.CircuitParts.{CircuitParts}
use Rattle.omega_circuit.specs.declared.symbol.SymbolKind.{SymbolKind}
use Rattle.omega_circuit.specs.declared.symbol.SymbolKind.TheVariants.{Bad, Constraint, Fairness, Justice}
use Rattle.omega_circuit.specs.private.Numbers.{first_gate, gate_at}
use Rattle.omega_circuit.specs.private.Renumbered.{latch_at}
use Rattle.omega_circuit.proofs.Canonicals.{literal_is, own_literal, uses_below}
use Rattle.omega_circuit.proofs.DefinedLiterals.{input_literal, latch_literal}
use Rattle.omega_text.specs.Limits.{most_number}
use Rattle.omega_text.specs.declared.refusal.circuit.CircuitFault.{CircuitFault}
use Rattle.omega_text.specs.declared.refusal.circuit.CircuitFault.TheVariants.{Cycle, Defined, LiteralRange, Name, Properties, Reset, Symbol as OfSymbol, Undefined, Variables}

abbrev no_gate : Gate
no_gate = record { literal = 0; left = 0; right = 0 }

abbrev no_latch : Latch
no_latch = record { literal = 0; next = 0; reset = 0 }

none_apart : IsDistinct nat_eq []
unfolding IsDistinct
none_apart = tt

module _ (c : CircuitValue) (canonical : IsCanonicalCircuit c) (is : IsWritableAs binary_text c) where
  abbrev count : ℕ
  count = length c.inputs + length c.latches + length c.gates

  -- the parts that the text says
  abbrev parts : CircuitParts
  parts = parts_with count true c.inputs c.latches c.outputs c.gates c.symbols (properties_with [] [] [] [] [])

  small_literal : (variable : ℕ) → variable ≤ most_variables → literal_of variable ≡ 2 * variable
  small_literal variable small = min-eq_left (let e : 2 * variable ≤ no_literal = omega (arith, small) in e)

  input_is : (k : ℕ) → k < length c.inputs → get_or c.inputs k 0 ≡ 2 * (1 + k)
  input_is k within = sym (input_literal c k within) ∙ literal_is c canonical (1 + k) (omega (arith, within))

  latch_is : (k : ℕ) → k < length c.latches → (latch_at c.latches k).literal ≡ 2 * (1 + length c.inputs + k)
  latch_is k within = sym (latch_literal c k within) ∙ literal_is c canonical (1 + length c.inputs + k) (omega (arith, within))

  gate_is : (k : ℕ) → k < length c.gates → (gate_at c.gates k).literal ≡ 2 * (first_gate c + k)
  gate_is k within = own_literal c canonical k within

  inputs_are : first_literals (length c.inputs) ≡ c.inputs
  inputs_are = ext_get_or 0 (first_literals (length c.inputs)) c.inputs (length-map-range_with_len literal_of 1 (length c.inputs))
      (λ k inside. let within : k < length c.inputs = let e = length-map-range_with_len literal_of 1 (length c.inputs) in omega (arith, inside, e) in
      get_or-map-range_with_len literal_of 1 (length c.inputs) k (1 + k) 0 within refl
      ∙ small_literal (1 + k) (let f = is.circuit.few in omega (arith, within, f))
      ∙ sym (input_is k within))

  latches_are : AreLatchesInOrder (length c.inputs + 1) c.latches
  latches_are k within =
      let f = is.circuit.few in
      latch_is k within ∙ sym (small_literal (length c.inputs + 1 + k) (omega (arith, within, f)) ∙ (let e : 2 * (length c.inputs + 1 + k) ≡ 2 * (1 + length c.inputs + k) = omega arith in e))

  gates_are : AreGatesInOrder (length c.inputs + length c.latches + 1) c.gates
  gates_are k within =
      let f = is.circuit.few in
      let operands = All-get_or (λ (gate : Gate). (gate.left < gate.literal) × (gate.right ≤ gate.left)) c.gates k no_gate within canonical.operands in
      let own = gate_is k within in
      record {
        own = own ∙ sym (small_literal (length c.inputs + length c.latches + 1 + k) (omega (arith, within, f))
            ∙ (let e : 2 * (length c.inputs + length c.latches + 1 + k) ≡ 2 * (first_gate c + k) = omega arith in e));
        left = operands.0;
        right = operands.1;
        small = omega (arith, own, within, f);
      }

  next_below : (k d : ℕ) → k < length c.latches → (latch_at c.latches k).next / 2 ≤ count
  next_below k d within = let u = (uses_below c canonical is.circuit).nexts k no_latch within in omega (arith, u)

  output_below : (k d : ℕ) → k < length c.outputs → get_or c.outputs k d / 2 ≤ count
  output_below k d within = let u = (uses_below c canonical is.circuit).outputs k d within in omega (arith, u)

  in_range : AreInRange parts
  in_range = record {
    inputs = λ k d within. let e = input_is k within in let f = get_or_default c.inputs k d 0 within in omega (arith, e, f, within);
    latches = λ k d within.
        subst (λ (latch : Latch). (latch.literal ≤ 2 * count + 1) × (latch.next ≤ 2 * count + 1)) (get_or_default c.latches k no_latch d within)
        (let e = latch_is k within in omega (arith, e, within), let n = next_below k 0 within in omega (arith, n));
    outputs = λ k d within. let n = output_below k d within in omega (arith, n);
    properties = record { bad = λ k d within. absurd (omega (arith, within)); constraints = λ k d within. absurd (omega (arith, within)); justice = λ k d within. absurd (omega (arith, within)); fairness = λ k d within. absurd (omega (arith, within)) };
    gates = λ k d within.
        subst (λ (gate : Gate). (gate.literal ≤ 2 * count + 1) × (gate.left ≤ 2 * count + 1) × (gate.right ≤ 2 * count + 1)) (get_or_default c.gates k no_gate d within)
        (let e = gate_is k within in
        let operands = All-get_or (λ (gate : Gate). (gate.left < gate.literal) × (gate.right ≤ gate.left)) c.gates k no_gate within canonical.operands in
        (omega (arith, e, within), omega (arith, e, within, operands.0), omega (arith, e, within, operands.0, operands.1)));
  }

  not_named : (kind : SymbolKind) → positions_of kind c.symbols ≡ [] → AreNamed kind 0 c.symbols
  not_named kind none = record {
    within = subst (λ (xs : List ℕ). All (λ position. position < 0) xs) (sym none) (λ k d within. absurd (omega (arith, within)));
    apart = subst (λ (xs : List ℕ). IsDistinct nat_eq xs) (sym none) none_apart;
  }

  faultless : (fault : CircuitFault) → IsWithout fault parts
  faultless Variables = record { enough = omega arith; dense = λ dense. refl; few = is.circuit.few }
  faultless LiteralRange = in_range
  faultless Defined = is.circuit.definitions
  faultless Undefined = record {
    circuit = is.circuit.complete;
    properties = record { bad = λ k d within. absurd (omega (arith, within)); constraints = λ k d within. absurd (omega (arith, within)); justice = λ k d within. absurd (omega (arith, within)); fairness = λ k d within. absurd (omega (arith, within)) };
  }
  faultless Cycle = is.circuit.acyclic
  faultless Reset = is.circuit.resets
  faultless OfSymbol = record {
    circuit = is.circuit.names;
    bad = not_named Bad is.bad;
    constraints = not_named Constraint is.constraints;
    justice = not_named Justice is.justice;
    fairness = not_named Fairness is.fairness;
  }
  faultless Properties = record { bad = refl; constraints = refl; justice = refl; fairness = refl }
  faultless Name = tt

  small_latches : All IsSmallLatch c.latches
  small_latches k d within = subst IsSmallLatch (get_or_default c.latches k no_latch d within) (record {
    own = let e = latch_is k within in let f = is.circuit.few in omega (arith, e, within, f);
    following = let n = next_below k 0 within in let f = is.circuit.few in omega (arith, n, f);
    first = let e = is.circuit.resets k no_latch within in omega (arith, e);
  })

  small_outputs : All (λ n. n ≤ most_number) c.outputs
  small_outputs k d within = let n = output_below k d within in let f = is.circuit.few in omega (arith, n, f)

  small_symbols : All IsSmallSymbol c.symbols
  small_symbols k d within = record { own = is.positions k d within; in_line = is.names k d within }

  -- the text from the counts on
  abbrev from_gates : List ℕ
  from_gates = decimal (length c.gates) ++ 10 ∷ binary_rest c

  abbrev from_outputs : List ℕ
  from_outputs = decimal (length c.outputs) ++ 32 ∷ from_gates

  abbrev from_latches : List ℕ
  from_latches = decimal (length c.latches) ++ 32 ∷ from_outputs

  abbrev from_inputs : List ℕ
  from_inputs = decimal (length c.inputs) ++ 32 ∷ from_latches

  abbrev from_count : List ℕ
  from_count = decimal count ++ 32 ∷ from_inputs

  text_is : binary_text c ≡ 97 ∷ 105 ∷ 103 ∷ 32 ∷ from_count
  unfolding binary_text
  text_is = ap (λ (l : List ℕ). 97 ∷ 105 ∷ 103 ∷ 32 ∷ l) (append_assoc (decimal count) _ (binary_rest c)
      ∙ ap (λ (l : List ℕ). decimal count ++ 32 ∷ l) (append_assoc (decimal (length c.inputs)) _ (binary_rest c)
      ∙ ap (λ (l : List ℕ). decimal (length c.inputs) ++ 32 ∷ l) (append_assoc (decimal (length c.latches)) _ (binary_rest c)
      ∙ ap (λ (l : List ℕ). decimal (length c.latches) ++ 32 ∷ l) (append_assoc (decimal (length c.outputs)) _ (binary_rest c)
      ∙ ap (λ (l : List ℕ). decimal (length c.outputs) ++ 32 ∷ l) (append_assoc (decimal (length c.gates)) (10 ∷ []) (binary_rest c))))))

  few_symbols : length c.symbols ≤ most_symbols
  unfolding most_symbols
  few_symbols =
      let e = is.short in
      let t = ap (λ (l : List ℕ). length l) text_is in
      let s = many_bytes c.symbols in
      let a = length-append (flat_map deltas_text c.gates) (flat_map symbol_text c.symbols) in
      let b = length-append (flat_map number_text c.outputs) (flat_map deltas_text c.gates ++ flat_map symbol_text c.symbols) in
      let d = length-append (flat_map next_text c.latches) (flat_map number_text c.outputs ++ (flat_map deltas_text c.gates ++ flat_map symbol_text c.symbols)) in
      let g = length-append (decimal (length c.gates)) (10 ∷ binary_rest c) in
      let h = length-append (decimal (length c.outputs)) (32 ∷ from_gates) in
      let i = length-append (decimal (length c.latches)) (32 ∷ from_outputs) in
      let j = length-append (decimal (length c.inputs)) (32 ∷ from_latches) in
      let l = length-append (decimal count) (32 ∷ from_inputs) in
      omega (arith, e, t, s, a, b, d, g, h, i, j, l)

  body_spelled : Spells (binary_body (counts_of count (length c.inputs) (length c.latches) (length c.outputs) (length c.gates) [])) (binary_rest c) parts
  unfolding binary_body properties_then
  body_spelled =
      subst (λ (inputs : List ℕ). Spells (binary_body (counts_of count (length c.inputs) (length c.latches) (length c.outputs) (length c.gates) [])) (binary_rest c)
      (parts_with count true inputs c.latches c.outputs c.gates c.symbols (properties_with [] [] [] [] []))) inputs_are
      (nexts_spelled c.latches small_latches (length c.inputs + 1) latches_are [] _ (flat_map number_text c.outputs ++ (flat_map deltas_text c.gates ++ flat_map symbol_text c.symbols))
      (parts_with count true (first_literals (length c.inputs)) c.latches c.outputs c.gates c.symbols (properties_with [] [] [] [] []))
      (numbers_spelled c.outputs small_outputs [] _ (flat_map deltas_text c.gates ++ flat_map symbol_text c.symbols)
      (parts_with count true (first_literals (length c.inputs)) c.latches c.outputs c.gates c.symbols (properties_with [] [] [] [] []))
      (deltas_spelled c.gates (length c.inputs + length c.latches + 1) gates_are [] _ (flat_map symbol_text c.symbols)
      (parts_with count true (first_literals (length c.inputs)) c.latches c.outputs c.gates c.symbols (properties_with [] [] [] [] []))
      (symbols_spelled c.symbols small_symbols most_symbols few_symbols [] _))))

  counts_spelled : Spells (counts_then binary_body) (32 ∷ from_count) parts
  unfolding counts_then
  counts_spelled =
      let few = is.circuit.few in (
        from_count,
        refl,
        (
          count,
          32 ∷ from_inputs,
          omega (arith, few),
          refl,
          (
            from_inputs,
            refl,
            (
              length c.inputs,
              32 ∷ from_latches,
              omega (arith, few),
              refl,
              (
                from_latches,
                refl,
                (
                  length c.latches,
                  32 ∷ from_outputs,
                  omega (arith, few),
                  refl,
                  (
                    from_outputs,
                    refl,
                    (
                      length c.outputs,
                      32 ∷ from_gates,
                      is.outputs,
                      refl,
                      (
                        from_gates,
                        refl,
                        (
                          length c.gates,
                          10 ∷ binary_rest c,
                          omega (arith, few),
                          refl,
                          inr (binary_rest c, refl, body_spelled),
                        ),
                      ),
                    ),
                  ),
                ),
              ),
            ),
          ),
        ),
      )

  spelled : Spells circuit_layout (binary_text c) parts
  unfolding circuit_layout form_layout
  spelled = subst (λ (text : List ℕ). Spells circuit_layout text parts) (sym text_is)
      (inr (105 ∷ 103 ∷ 32 ∷ from_count, refl, inl (103 ∷ 32 ∷ from_count, refl, (32 ∷ from_count, refl, counts_spelled))))

pub binary_read : BinaryCircuitsAreRead
binary_read c canonical is = record {
  parts = parts_with (length c.inputs + length c.latches + length c.gates) true c.inputs c.latches c.outputs c.gates c.symbols (properties_with [] [] [] [] []);
  says = record { short = is.short; spells = spelled c canonical is };
  makes = record { faultless = faultless c canonical is; same = refl };
}
