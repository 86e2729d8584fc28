-- Circuits in canonical form: they are circuits, and their literals are their own numbers.
use Rattle.std.proofs.Common.{◌≡◌, ◌⊎◌, inl, inr, ℕ, ◌+◌, ◌-◌, ◌*◌, ◌/◌, ◌%◌, ◌<◌, ◌≤◌, List, All, length, map, get_or, take, refl, sym, ap, ◌∙◌, subst, arith}
use Rattle.std.specs.Prelude.{nat_eq}
use Rattle.std.specs.List.{AllPass, Contains, IsDistinct, range_with_len}
use Rattle.std.proofs.lemmas.Bool.{cases_lt}
use Rattle.std.proofs.lemmas.List.{ext_get_or, get_or-map, get_or-take, get_or_default, length-map, length-take}
use Rattle.std.proofs.lemmas.List.Elements.{All-from_get_or, All-get_or}
use Rattle.std.proofs.lemmas.List.FromFn.{get_or-map-range_with_len, get_or-range_with_len, length-range_with_len}
use Rattle.std.proofs.lemmas.Map.Keys.{IsDistinct-from_apart}
use Rattle.omega_circuit.specs.Canonical.{IsCanonicalCircuit}
use Rattle.omega_circuit.specs.Circuit.{AreResets, CircuitValue, HasNames, IsCircuit, defined_literals, defined_variables, is_even, variable_of}
use Rattle.omega_circuit.specs.Limits.{most_variables}
use Rattle.omega_circuit.specs.private.Numbers.{AreNets, AreNumbered, IsNumbered, first_gate, gate_at, next_literals}
use Rattle.omega_circuit.specs.private.Orders.{IsReady, IsSettled, IsWholeOrder}
use Rattle.omega_circuit.specs.private.Steps.{AreSteps, circuit_with}
use Rattle.omega_circuit.specs.private.Wires.{AreReads}
use Rattle.omega_circuit.specs.declared.gate.Gate.{Gate}
use Rattle.omega_circuit.specs.declared.latch.Latch.{Latch}
use Rattle.omega_circuit.specs.declared.symbol.Symbol.{Symbol}
use Rattle.omega_circuit.specs.declared.wiring.Reads.{Reads}
use Rattle.omega_circuit.proofs.DefinedLiterals.{gate_literal, literal_at, literals_long}
use Rattle.omega_circuit.proofs.Places.{other_number, same_number}

abbrev no_gate : Gate
no_gate = record { literal = 0; left = 0; right = 0 }

-- a literal has a variable below a count
abbrev pub IsBelow : ℕ → ℕ → Type 0
IsBelow count literal = literal / 2 < count

-- what is used has a variable that is defined
pub record AreUsesBelow (count : ℕ) (c : CircuitValue) : Type 0 where
  pub nexts : All (λ (latch : Latch). IsBelow count latch.next) c.latches
  pub outputs : All (λ literal. IsBelow count literal) c.outputs

module _ (c : CircuitValue) (is : IsCanonicalCircuit c) where
  -- how many variables are defined
  abbrev count : ℕ
  count = first_gate c + length c.gates

  pub literal_is : (n : ℕ) → n < count → literal_at c n ≡ 2 * n
  literal_is n within =
      let long : n < length (defined_literals c) = let e = literals_long c in omega (arith, within, e) in
      ap (λ (l : List ℕ). get_or l n 0) is.numbered ∙ get_or-map-range_with_len (λ variable. 2 * variable) 0 (length (defined_literals c)) n n 0 long (omega arith)

  pub own_literal : (k : ℕ) → k < length c.gates → (gate_at c.gates k).literal ≡ 2 * (first_gate c + k)
  own_literal k within = sym (gate_literal c k within) ∙ literal_is (first_gate c + k) (omega (arith, within))

  variables_long : length (defined_variables c) ≡ count
  variables_long = length-map (defined_literals c) variable_of ∙ literals_long c

  variable_is : (n : ℕ) → n < count → get_or (defined_variables c) n 0 ≡ n
  variable_is n within =
      let e = literals_long c in
      get_or-map variable_of (defined_literals c) n 0 0 (omega (arith, within, e)) ∙ ap variable_of (literal_is n within) ∙ (let half : (2 * n) / 2 ≡ n = omega arith in half)

  there : (literal : ℕ) → IsBelow count literal → Contains (defined_variables c) (literal / 2)
  there literal below =
      let within : literal / 2 < length (defined_variables c) = omega (arith, below, variables_long) in
      (literal / 2, within, get_or_default (defined_variables c) (literal / 2) (literal / 2) 0 within ∙ variable_is (literal / 2) below)

  -- a literal is its own number
  itself : (literal : ℕ) → IsBelow count literal → IsNumbered (defined_variables c) literal literal
  itself literal below = record {
    within = omega (arith, below, variables_long);
    variable = variable_is (literal / 2) below;
    sign = refl;
  }

  operands_at : (k : ℕ) → k < length c.gates → ((gate_at c.gates k).left < (gate_at c.gates k).literal) × ((gate_at c.gates k).right ≤ (gate_at c.gates k).left)
  operands_at k within = All-get_or (λ (gate : Gate). (gate.left < gate.literal) × (gate.right ≤ gate.left)) c.gates k no_gate within is.operands

  -- the operands of a gate have variables before its own
  pub left_before : (k : ℕ) → k < length c.gates → (gate_at c.gates k).left / 2 < first_gate c + k
  left_before k within = let o = operands_at k within in let e = own_literal k within in omega (arith, o.0, e)

  pub right_before : (k : ℕ) → k < length c.gates → (gate_at c.gates k).right / 2 < first_gate c + k
  right_before k within = let o = operands_at k within in let e = own_literal k within in omega (arith, o.0, o.1, e)

  even_literals : AllPass is_even (defined_literals c)
  even_literals n d within =
      let below : n < count = let e = literals_long c in omega (arith, within, e) in
      ap is_even (get_or_default (defined_literals c) n d 0 within ∙ literal_is n below) ∙ same_number ((2 * n) % 2) 0 (omega arith)

  apart : IsDistinct nat_eq (defined_variables c)
  apart = IsDistinct-from_apart nat_eq (defined_variables c) (λ i j d earlier within.
      let below : j < count = omega (arith, within, variables_long) in
      let one : get_or (defined_variables c) i d ≡ i = get_or_default (defined_variables c) i d 0 (omega (arith, earlier, within)) ∙ variable_is i (omega (arith, earlier, below)) in
      let other : get_or (defined_variables c) j d ≡ j = get_or_default (defined_variables c) j d 0 within ∙ variable_is j below in
      other_number (get_or (defined_variables c) i d) (get_or (defined_variables c) j d) (λ same. omega (arith, same, one, other, earlier)))

  -- with few variables and defined uses, resets and names it is a circuit
  pub is_circuit : count ≤ most_variables + 1 → AreUsesBelow count c → AreResets c.latches → HasNames c → IsCircuit c
  is_circuit few uses resets names = record {
    few = omega (arith, few);
    small = All-from_get_or (λ variable. variable ≤ most_variables) (defined_variables c) 0
        (λ n within. let below : n < count = omega (arith, within, variables_long) in let e = variable_is n below in omega (arith, e, below, few));
    definitions = record { even = even_literals; apart = apart };
    complete = record {
      nexts = λ k d within. there (get_or c.latches k d).next (uses.nexts k d within);
      outputs = λ k d within. there (get_or c.outputs k d) (uses.outputs k d within);
      gates = All-from_get_or (λ (gate : Gate). Contains (defined_variables c) (gate.left / 2) × Contains (defined_variables c) (gate.right / 2)) c.gates no_gate
          (λ k within. (
            there (gate_at c.gates k).left (let e = left_before k within in omega (arith, e, within)),
            there (gate_at c.gates k).right (let e = right_before k within in omega (arith, e, within)),
          ));
    };
    acyclic = record {
      number = λ variable. variable;
      rises = All-from_get_or (λ (gate : Gate). (gate.left / 2 < gate.literal / 2) × (gate.right / 2 < gate.literal / 2)) c.gates no_gate
          (λ k within. let e = own_literal k within in let l = left_before k within in let r = right_before k within in (omega (arith, e, l), omega (arith, e, r)));
    };
    resets = resets;
    names = names;
  }

  -- its gates are numbered, in an order
  abbrev order : List ℕ
  order = range_with_len 0 (length c.gates)

  order_long : length order ≡ length c.gates
  order_long = length-range_with_len 0 (length c.gates)

  at_order : (j d : ℕ) → j < length c.gates → get_or order j d ≡ j
  at_order j d within = get_or-range_with_len 0 (length c.gates) j d within ∙ (let e : 0 + j ≡ j = omega arith in e)

  earlier_there : (j k : ℕ) → k < j → j ≤ length c.gates → Contains (take j order) k
  earlier_there j k before within =
      let front : length (take j order) ≡ j = let e = length-take j order in omega (arith, e, order_long, within) in
      (k, omega (arith, before, front), get_or-take j order k k before ∙ at_order k k (omega (arith, before, within)))

  settled : (j literal : ℕ) → j < length c.gates → literal / 2 < first_gate c + j → IsSettled (first_gate c) (take j order) literal
  settled j literal within before = go (cases_lt (literal / 2) (first_gate c))
    where
      go : ((literal / 2) < first_gate c) ⊎ (first_gate c ≤ literal / 2) → IsSettled (first_gate c) (take j order) literal
      go (inl early) = inl early
      go (inr late) = inr (literal / 2 - first_gate c, omega (arith, late), earlier_there j (literal / 2 - first_gate c) (omega (arith, late, before)) (omega (arith, within)))

  nets : AreNets (defined_variables c) (first_gate c) c.gates c.gates
  nets = record {
    long = refl;
    each = λ k within. record {
      numbered = own_literal k within;
      left = itself (gate_at c.gates k).left (let e = left_before k within in omega (arith, e, within));
      right = itself (gate_at c.gates k).right (let e = right_before k within in omega (arith, e, within));
    };
  }

  whole : IsWholeOrder (first_gate c) c.gates order
  whole = record {
    sorted = record {
      within = All-from_get_or (λ k. k < length c.gates) order 0 (λ j small. let within : j < length c.gates = omega (arith, small, order_long) in let e = at_order j 0 within in omega (arith, e, within));
      ready = λ j small. let within : j < length c.gates = omega (arith, small, order_long) in
          subst (λ m. IsReady (first_gate c) (take j order) (gate_at c.gates m)) (sym (at_order j 0 within))
          (record {
            left = settled j (gate_at c.gates j).left within (left_before j within);
            right = settled j (gate_at c.gates j).right within (right_before j within);
          });
    };
    whole = λ k within. (k, omega (arith, within, order_long), at_order k k within);
  }

  pub steps : AreSteps c c.gates
  steps = record {
    nets = c.gates;
    numbered = nets;
    order = order;
    ordered = whole;
    same = ext_get_or no_gate c.gates (map (gate_at c.gates) order) (sym (length-map order (gate_at c.gates) ∙ order_long))
        (λ k within. sym (get_or-map (gate_at c.gates) order k 0 no_gate (omega (arith, within, order_long)) ∙ ap (gate_at c.gates) (at_order k 0 within)));
  }

  numbers_itself : (literals : List ℕ) → All (λ literal. IsBelow count literal) literals → AreNumbered (defined_variables c) literals literals
  numbers_itself literals below = record {
    long = refl;
    each = λ k within. itself (get_or literals k 0) (below k 0 within);
  }

  -- and what is read is numbered
  pub reads : (wires : Reads) → wires.nexts.items ≡ next_literals c.latches → wires.outputs.items ≡ c.outputs → AreUsesBelow count c → AreReads c wires
  reads wires nexts outputs uses = record {
    nexts = subst (AreNumbered (defined_variables c) (next_literals c.latches)) (sym nexts) (numbers_itself (next_literals c.latches) next_below);
    outputs = subst (AreNumbered (defined_variables c) c.outputs) (sym outputs) (numbers_itself c.outputs uses.outputs);
  }
    where
      next_below : All (λ literal. IsBelow count literal) (next_literals c.latches)
      next_below = All-from_get_or (λ literal. IsBelow count literal) (next_literals c.latches) 0
          (λ k within. let small : k < length c.latches = let e = length-map c.latches (λ (latch : Latch). latch.next) in omega (arith, within, e) in
          subst (λ n. IsBelow count n) (sym (get_or-map (λ (latch : Latch). latch.next) c.latches k (record { literal = 0; next = 0; reset = 0 }) 0 small))
          (uses.nexts k (record { literal = 0; next = 0; reset = 0 }) small))

-- the uses of a circuit in canonical form are below the count
pub uses_below : (c : CircuitValue) → IsCanonicalCircuit c → IsCircuit c → AreUsesBelow (first_gate c + length c.gates) c
uses_below c is circuit = record {
  nexts = λ k d within. below (get_or c.latches k d).next (circuit.complete.nexts k d within);
  outputs = λ k d within. below (get_or c.outputs k d) (circuit.complete.outputs k d within);
}
  where
    below : (literal : ℕ) → Contains (defined_variables c) (literal / 2) → IsBelow (first_gate c + length c.gates) literal
    below literal has =
        let inside : has.0 < first_gate c + length c.gates = let e = variables_long c is in omega (arith, has.1, e) in
        let e : literal / 2 ≡ has.0 = sym has.2 ∙ get_or_default (defined_variables c) has.0 (literal / 2) 0 has.1 ∙ variable_is c is has.0 inside in
        omega (arith, e, inside)

-- the circuit of the same lists
pub same_lists : (is inputs : List ℕ) (ls latches : List Latch) (os outputs : List ℕ) (gs gates : List Gate) (ss symbols : List Symbol)
    → is ≡ inputs → ls ≡ latches → os ≡ outputs → gs ≡ gates → ss ≡ symbols → circuit_with is ls os gs ss ≡ circuit_with inputs latches outputs gates symbols
same_lists is inputs ls latches os outputs gs gates ss symbols one two three four five =
    ap (λ (x : List ℕ). circuit_with x ls os gs ss) one
    ∙ ap (λ (x : List Latch). circuit_with inputs x os gs ss) two
    ∙ ap (λ (x : List ℕ). circuit_with inputs latches x gs ss) three
    ∙ ap (λ (x : List Gate). circuit_with inputs latches outputs x ss) four
    ∙ ap (λ (x : List Symbol). circuit_with inputs latches outputs gates x) five

-- a circuit in canonical form has its own lists as wires
pub own_wires : (made c : CircuitValue) (steps : List Gate) (wires : Reads) → made ≡ c → steps ≡ c.gates → wires.nexts.items ≡ next_literals c.latches → wires.outputs.items ≡ c.outputs
    → IsCanonicalCircuit c → IsCircuit c → IsCircuit made × AreSteps made steps × AreReads made wires
own_wires made c steps_made wires same gates nexts outputs is circuit =
    subst (λ (x : CircuitValue). IsCircuit x × AreSteps x steps_made × AreReads x wires) (sym same)
    (circuit, subst (AreSteps c) (sym gates) (steps c is), reads c is wires nexts outputs (uses_below c is circuit))
