-- The text that is written for a circuit says that circuit.
use Rattle.std.proofs.Common.{◌≡◌, inr, ℕ, ◌+◌, ◌*◌, ◌/◌, ◌<◌, ◌≤◌, false, List, [], ◌∷◌, ◌++◌, All, length, get_or, map, decimal, refl, sym, ap, ◌∙◌, subst, arith, length-append}
use Rattle.std.specs.Prelude.{nat_eq}
use Rattle.std.specs.List.{IsDistinct, flat_map}
use Rattle.std.proofs.lemmas.Bool.{false≢true}
use Rattle.std.proofs.lemmas.List.{get_or-map, get_or_default, length-map}
use Rattle.omega_aiger.specs.Forms.{ascii_body, circuit_layout, counts_of, counts_then, form_layout, most_symbols, properties_then}
use Rattle.omega_aiger.specs.Layout.{Spells}
use Rattle.omega_aiger.specs.Written.{IsWritable, WrittenCircuitsAreRead, ascii_text, gate_text, greatest_literal, latch_text, lines_text, most_variable_of, number_text, symbol_text}
use Rattle.omega_aiger.proofs.Greatest.{below_greatest, greatest_small}
use Rattle.omega_aiger.proofs.Parts.{parts_with, properties_with}
use Rattle.omega_aiger.proofs.Spelled.{IsSmallGate, IsSmallLatch, IsSmallSymbol, gates_spelled, latches_spelled, many_bytes, numbers_spelled, symbols_spelled}
use Rattle.omega_circuit.specs.Circuit.{AreNamed, CircuitValue, IsDefined, defined_variables, positions_of}
use Rattle.omega_circuit.specs.Faults.{AreInRange, IsWithout}
use Rattle.omega_circuit.specs.Limits.{most_variables}
use Rattle.omega_circuit.specs.declared.gate.Gate.{Gate}
use Rattle.omega_circuit.specs.declared.latch.Latch.{Latch}
use Rattle.omega_circuit.specs.declared.parts.CircuitParts.{CircuitParts}
use Rattle.omega_circuit.specs.declared.symbol.SymbolKind.{SymbolKind}
use Rattle.omega_circuit.specs.declared.symbol.SymbolKind.TheVariants.{Bad, Constraint, Fairness, Justice}
use Rattle.omega_circuit.specs.private.Numbers.{first_gate, gate_at}
use Rattle.omega_circuit.proofs.Definitions.{Defines, defines, gate_variable, input_at, latch_at, latch_variable, of_false, of_gate, of_input, of_latch, variable_at, variables_long}
use Rattle.omega_text.specs.Limits.{most_number}
use Rattle.omega_text.specs.declared.refusal.circuit.CircuitFault.{CircuitFault}
use Rattle.omega_text.specs.declared.refusal.circuit.CircuitFault.TheVariants.{Cycle, Defined, LiteralRange, Name, Properties, Reset, Symbol as OfSymbol, Undefined, Variables}

none_apart : IsDistinct nat_eq []
unfolding IsDistinct
none_apart = tt

module _ (c : CircuitValue) (is : IsWritable c) where
  -- the parts that the text says
  abbrev parts : CircuitParts
  parts = parts_with (most_variable_of c) false c.inputs c.latches c.outputs c.gates c.symbols (properties_with [] [] [] [] [])

  input_small : (k : ℕ) → k < length c.inputs → get_or c.inputs k 0 ≤ 2 * most_variables + 1
  input_small k within =
      let v = input_at c k within in
      let s = is.circuit.small (1 + k) 0 (let e = variables_long c in omega (arith, e, within)) in
      omega (arith, v, s)

  latch_small : (k : ℕ) → k < length c.latches → (latch_at c.latches k).literal ≤ 2 * most_variables + 1
  latch_small k within =
      let v = latch_variable c (1 + length c.inputs + k) k refl within in
      let s = is.circuit.small (1 + length c.inputs + k) 0 (let e = variables_long c in omega (arith, e, within)) in
      omega (arith, v, s)

  gate_small : (k : ℕ) → k < length c.gates → (gate_at c.gates k).literal ≤ 2 * most_variables + 1
  gate_small k within =
      let v = gate_variable c (first_gate c + k) k refl within in
      let s = is.circuit.small (first_gate c + k) 0 (let e = variables_long c in omega (arith, e, within)) in
      omega (arith, v, s)

  latch_literal : (k : ℕ) → k < length c.latches → get_or (map (λ (latch : Latch). latch.literal) c.latches) k 0 ≡ (latch_at c.latches k).literal
  latch_literal k within = get_or-map (λ (latch : Latch). latch.literal) c.latches k (record { literal = 0; next = 0; reset = 0 }) 0 within

  gate_literal : (k : ℕ) → k < length c.gates → get_or (map (λ (gate : Gate). gate.literal) c.gates) k 0 ≡ (gate_at c.gates k).literal
  gate_literal k within = get_or-map (λ (gate : Gate). gate.literal) c.gates k (record { literal = 0; left = 0; right = 0 }) 0 within

  -- the greatest literal is small
  top_small : greatest_literal c ≤ 2 * most_variables + 1
  top_small =
      let i = greatest_small (2 * most_variables + 1) c.inputs input_small in
      let l = greatest_small (2 * most_variables + 1) (map (λ (latch : Latch). latch.literal) c.latches) (λ k within.
      let small : k < length c.latches = let e = length-map c.latches (λ (latch : Latch). latch.literal) in omega (arith, e, within) in
      let e = latch_literal k small in let f = latch_small k small in omega (arith, e, f)) in
      let g = greatest_small (2 * most_variables + 1) (map (λ (gate : Gate). gate.literal) c.gates) (λ k within.
      let small : k < length c.gates = let e = length-map c.gates (λ (gate : Gate). gate.literal) in omega (arith, e, within) in
      let e = gate_literal k small in let f = gate_small k small in omega (arith, e, f)) in
      omega (arith, i, l, g)

  -- each variable that is defined is at most that of the header
  input_low : (k : ℕ) → k < length c.inputs → get_or c.inputs k 0 / 2 ≤ most_variable_of c
  input_low k within = let e = below_greatest c.inputs k within in omega (arith, e)

  latch_low : (k : ℕ) → k < length c.latches → (latch_at c.latches k).literal / 2 ≤ most_variable_of c
  latch_low k within =
      let e = below_greatest (map (λ (latch : Latch). latch.literal) c.latches) k (let n = length-map c.latches (λ (latch : Latch). latch.literal) in omega (arith, n, within)) in
      let f = latch_literal k within in omega (arith, e, f)

  gate_low : (k : ℕ) → k < length c.gates → (gate_at c.gates k).literal / 2 ≤ most_variable_of c
  gate_low k within =
      let e = below_greatest (map (λ (gate : Gate). gate.literal) c.gates) k (let n = length-map c.gates (λ (gate : Gate). gate.literal) in omega (arith, n, within)) in
      let f = gate_literal k within in omega (arith, e, f)

  defined_low : (n : ℕ) → Defines c n → variable_at c n ≤ most_variable_of c
  defined_low n (of_false none) = subst (λ m. variable_at c m ≤ most_variable_of c) (sym none) (omega arith)
  defined_low n (of_input k small where_is) = let e = ap (variable_at c) where_is ∙ input_at c k small in let f = input_low k small in omega (arith, e, f)
  defined_low n (of_latch k small where_is) = let e = latch_variable c n k where_is small in let f = latch_low k small in omega (arith, e, f)
  defined_low n (of_gate k small where_is) = let e = gate_variable c n k where_is small in let f = gate_low k small in omega (arith, e, f)

  used_low : (literal : ℕ) → IsDefined c literal → literal ≤ 2 * most_variable_of c + 1
  used_low literal there =
      let within : there.0 < first_gate c + length c.gates = let e = variables_long c in let w = there.1 in omega (arith, e, w) in
      let low = defined_low there.0 (defines c there.0 within) in
      let same = sym (get_or_default (defined_variables c) there.0 (literal / 2) 0 there.1) ∙ there.2 in
      omega (arith, low, same)

  used_small : (literal : ℕ) → IsDefined c literal → literal ≤ 2 * most_variables + 1
  used_small literal there = let s = is.circuit.small there.0 (literal / 2) there.1 in let e = there.2 in omega (arith, s, e)

  top_low : most_variable_of c ≤ most_variables
  top_low = let t = top_small in let f = is.circuit.few in omega (arith, t, f)

  in_range : AreInRange parts
  in_range = record {
    inputs = λ k d within. let e = input_low k within in let f = get_or_default c.inputs k d 0 within in omega (arith, e, f);
    latches = λ k d within.
        subst (λ (latch : Latch). (latch.literal ≤ 2 * most_variable_of c + 1) × (latch.next ≤ 2 * most_variable_of c + 1)) (get_or_default c.latches k (record { literal = 0; next = 0; reset = 0 }) d within)
        (let e = latch_low k within in omega (arith, e), used_low (latch_at c.latches k).next (is.circuit.complete.nexts k (record { literal = 0; next = 0; reset = 0 }) within));
    outputs = λ k d within. used_low (get_or c.outputs k d) (is.circuit.complete.outputs k d within);
    properties = record { bad = λ k d within. absurd (omega (arith, within)); constraints = λ k d within. absurd (omega (arith, within)); justice = λ k d within. absurd (omega (arith, within)); fairness = λ k d within. absurd (omega (arith, within)) };
    gates = λ k d within.
        subst (λ (gate : Gate). (gate.literal ≤ 2 * most_variable_of c + 1) × (gate.left ≤ 2 * most_variable_of c + 1) × (gate.right ≤ 2 * most_variable_of c + 1))
        (get_or_default c.gates k (record { literal = 0; left = 0; right = 0 }) d within)
        (let used = is.circuit.complete.gates k (record { literal = 0; left = 0; right = 0 }) within in
        (let e = gate_low k within in omega (arith, e), used_low (gate_at c.gates k).left used.0, used_low (gate_at c.gates k).right used.1));
  }

  -- if no symbol is of a kind, none names nothing
  not_named : (kind : SymbolKind) → positions_of kind c.symbols ≡ [] → AreNamed kind 0 c.symbols
  not_named kind none = record {
    within = subst (λ (xs : List ℕ). All (λ position. position < 0) xs) (sym none) (λ k d within. absurd (omega (arith, within)));
    apart = subst (λ (xs : List ℕ). IsDistinct nat_eq xs) (sym none) none_apart;
  }

  faultless : (fault : CircuitFault) → IsWithout fault parts
  faultless Variables = record { enough = omega arith; dense = λ dense. absurd (false≢true dense); few = top_low }
  faultless LiteralRange = in_range
  faultless Defined = is.circuit.definitions
  faultless Undefined = record {
    circuit = is.circuit.complete;
    properties = record { bad = λ k d within. absurd (omega (arith, within)); constraints = λ k d within. absurd (omega (arith, within)); justice = λ k d within. absurd (omega (arith, within)); fairness = λ k d within. absurd (omega (arith, within)) };
  }
  faultless Cycle = is.circuit.acyclic
  faultless Reset = is.circuit.resets
  faultless OfSymbol = record {
    circuit = is.circuit.names;
    bad = not_named Bad is.bad;
    constraints = not_named Constraint is.constraints;
    justice = not_named Justice is.justice;
    fairness = not_named Fairness is.fairness;
  }
  faultless Properties = record { bad = refl; constraints = refl; justice = refl; fairness = refl }
  faultless Name = tt

  small_inputs : All (λ n. n ≤ most_number) c.inputs
  small_inputs k d within = let e = input_small k within in let f = get_or_default c.inputs k d 0 within in omega (arith, e, f)

  small_latches : All IsSmallLatch c.latches
  small_latches k d within = subst IsSmallLatch (get_or_default c.latches k (record { literal = 0; next = 0; reset = 0 }) d within) (record {
    own = let e = latch_small k within in omega (arith, e);
    following = let e = used_small (latch_at c.latches k).next (is.circuit.complete.nexts k (record { literal = 0; next = 0; reset = 0 }) within) in omega (arith, e);
    first = let e = is.circuit.resets k (record { literal = 0; next = 0; reset = 0 }) within in omega (arith, e);
  })

  small_outputs : All (λ n. n ≤ most_number) c.outputs
  small_outputs k d within = let e = used_small (get_or c.outputs k d) (is.circuit.complete.outputs k d within) in omega (arith, e)

  small_gates : All IsSmallGate c.gates
  small_gates k d within =
      let used = is.circuit.complete.gates k (record { literal = 0; left = 0; right = 0 }) within in
      subst IsSmallGate (get_or_default c.gates k (record { literal = 0; left = 0; right = 0 }) d within) (record {
        own = let e = gate_small k within in omega (arith, e);
        one = let e = used_small (gate_at c.gates k).left used.0 in omega (arith, e);
        other = let e = used_small (gate_at c.gates k).right used.1 in omega (arith, e);
      })

  small_symbols : All IsSmallSymbol c.symbols
  small_symbols k d within = record { own = is.positions k d within; in_line = is.names k d within }

  few_symbols : length c.symbols ≤ most_symbols
  unfolding most_symbols ascii_text
  few_symbols =
      let e = is.short in
      let s = many_bytes c.symbols in
      let a = length-append (flat_map gate_text c.gates) (flat_map symbol_text c.symbols) in
      let b = length-append (flat_map number_text c.outputs) (flat_map gate_text c.gates ++ flat_map symbol_text c.symbols) in
      let d = length-append (flat_map latch_text c.latches) (flat_map number_text c.outputs ++ (flat_map gate_text c.gates ++ flat_map symbol_text c.symbols)) in
      let f = length-append (flat_map number_text c.inputs) (flat_map latch_text c.latches ++ (flat_map number_text c.outputs ++ (flat_map gate_text c.gates ++ flat_map symbol_text c.symbols))) in
      let g = length-append (decimal (length c.gates)) (10 ∷ lines_text c) in
      let h = length-append (decimal (length c.outputs)) (32 ∷ (decimal (length c.gates) ++ 10 ∷ lines_text c)) in
      let i = length-append (decimal (length c.latches)) (32 ∷ (decimal (length c.outputs) ++ 32 ∷ (decimal (length c.gates) ++ 10 ∷ lines_text c))) in
      let j = length-append (decimal (length c.inputs)) (32 ∷ (decimal (length c.latches) ++ 32 ∷ (decimal (length c.outputs) ++ 32 ∷ (decimal (length c.gates) ++ 10 ∷ lines_text c)))) in
      let l = length-append (decimal (most_variable_of c)) (32 ∷ (decimal (length c.inputs) ++ 32 ∷ (decimal (length c.latches) ++ 32 ∷ (decimal (length c.outputs) ++ 32 ∷ (decimal (length c.gates) ++ 10 ∷ lines_text c))))) in
      omega (arith, e, s, a, b, d, f, g, h, i, j, l)

  body_spelled : Spells (ascii_body (counts_of (most_variable_of c) (length c.inputs) (length c.latches) (length c.outputs) (length c.gates) [])) (lines_text c) parts
  unfolding ascii_body properties_then
  body_spelled =
      numbers_spelled c.inputs small_inputs [] _ (flat_map latch_text c.latches ++ (flat_map number_text c.outputs ++ (flat_map gate_text c.gates ++ flat_map symbol_text c.symbols))) parts
      (latches_spelled c.latches small_latches [] _ (flat_map number_text c.outputs ++ (flat_map gate_text c.gates ++ flat_map symbol_text c.symbols)) parts
      (numbers_spelled c.outputs small_outputs [] _ (flat_map gate_text c.gates ++ flat_map symbol_text c.symbols) parts
      (gates_spelled c.gates small_gates [] _ (flat_map symbol_text c.symbols) parts
      (symbols_spelled c.symbols small_symbols most_symbols few_symbols [] _))))

  spelled : Spells circuit_layout (ascii_text c) parts
  unfolding circuit_layout form_layout counts_then ascii_text
  spelled =
      let few = is.circuit.few in
      let low = top_low in
      let five : List ℕ = 10 ∷ lines_text c in
      let four : List ℕ = decimal (length c.gates) ++ five in
      let three : List ℕ = decimal (length c.outputs) ++ 32 ∷ four in
      let two : List ℕ = decimal (length c.latches) ++ 32 ∷ three in
      let one : List ℕ = decimal (length c.inputs) ++ 32 ∷ two in
      let all : List ℕ = decimal (most_variable_of c) ++ 32 ∷ one in
      inr (
        97 ∷ 103 ∷ 32 ∷ all,
        refl,
        inr (
          103 ∷ 32 ∷ all,
          refl,
          (
            32 ∷ all,
            refl,
            (
              all,
              refl,
              (
                most_variable_of c,
                32 ∷ one,
                omega (arith, low),
                refl,
                (
                  one,
                  refl,
                  (
                    length c.inputs,
                    32 ∷ two,
                    omega (arith, few),
                    refl,
                    (
                      two,
                      refl,
                      (
                        length c.latches,
                        32 ∷ three,
                        omega (arith, few),
                        refl,
                        (
                          three,
                          refl,
                          (
                            length c.outputs,
                            32 ∷ four,
                            is.outputs,
                            refl,
                            (
                              four,
                              refl,
                              (
                                length c.gates,
                                five,
                                omega (arith, few),
                                refl,
                                inr (lines_text c, refl, body_spelled),
                              ),
                            ),
                          ),
                        ),
                      ),
                    ),
                  ),
                ),
              ),
            ),
          ),
        ),
      )

pub written_read : WrittenCircuitsAreRead
written_read c is = record {
  parts = parts_with (most_variable_of c) false c.inputs c.latches c.outputs c.gates c.symbols (properties_with [] [] [] [] []);
  says = record { short = is.short; spells = spelled c is };
  makes = record { faultless = faultless c is; same = refl };
}
