-- The circuit that is made with the numbers of an order: it is in canonical form, and means the same.
use Rattle.std.proofs.Common.{◌≡◌, ◌⊎◌, inl, inr, ℕ, ◌+◌, ◌-◌, ◌*◌, ◌/◌, ◌%◌, ◌<◌, ◌≤◌, Bool, cond, List, All, length, map, get_or, take, refl, sym, ap, ◌∙◌, subst, arith}
use Rattle.std.specs.Prelude.{nat_eq}
use Rattle.std.specs.List.{Contains, IsDistinct}
use Rattle.std.proofs.lemmas.Bool.{cases_lt, le-ltb, lt-ltb}
use Rattle.std.proofs.lemmas.Bool.Decides.{Decides-eqb}
use Rattle.std.proofs.lemmas.List.{get_or-map, get_or-take, get_or_default, length-map, length-take}
use Rattle.std.proofs.lemmas.List.Elements.{All-from_get_or, All-get_or}
use Rattle.std.proofs.lemmas.List.FromFn.{fill_by_all, get_or-map-range_with_len, length-map-range_with_len}
use Rattle.std.proofs.lemmas.Map.Keys.{IsDistinct-from_apart}
use Rattle.std.proofs.lemmas.Map.Steps.{le-length_from_below, length-le_from_distinct_below}
use Rattle.omega_circuit.specs.Canonical.{IsCanonicalCircuit, MeanTheSame, literals_from}
use Rattle.omega_circuit.specs.Circuit.{AreNamed, AreResets, CircuitValue, HasNames, IsCircuit, defined_literals, defined_variables}
use Rattle.omega_circuit.specs.private.Numbers.{AreNets, AreNumbered, IsNumbered, first_gate, gate_at, next_literals}
use Rattle.omega_circuit.specs.private.Orders.{IsReady, IsSettled}
use Rattle.omega_circuit.specs.private.Renumbered.{AreLatchesFrom, AreReady, IsEarlier, IsGateOf, IsLatchOf, IsNumbering, IsRenumbered, exchanged_gate, greater_first, latch_at, own}
use Rattle.omega_circuit.specs.private.Steps.{AreSteps, circuit_with}
use Rattle.omega_circuit.specs.declared.gate.Gate.{Gate}
use Rattle.omega_circuit.specs.declared.latch.Latch.{Latch}
use Rattle.omega_circuit.specs.declared.symbol.SymbolKind.TheVariants.{Input, Latch as OfLatch, Output}
use Rattle.omega_circuit.proofs.Canonicals.{AreUsesBelow, is_circuit}
use Rattle.omega_circuit.proofs.DefinedLiterals.{gate_literal, input_literal, latch_literal, literal_at, literals_long}
use Rattle.omega_circuit.proofs.Definitions.{Defines, defines, of_false, of_gate, of_input, of_latch, variables_long}
use Rattle.omega_circuit.proofs.Members.{found_with, there_any}
use Rattle.omega_circuit.proofs.Places.{contained_at, other_number, same_number}
use Rattle.omega_circuit.proofs.Renumbering.{renumbered_means_the_same}
use Rattle.omega_circuit.proofs.Reordering.{first_number, net_number, numbers_long, place_is, there_at}

abbrev no_gate : Gate
no_gate = record { literal = 0; left = 0; right = 0 }

abbrev no_latch : Latch
no_latch = record { literal = 0; next = 0; reset = 0 }

-- the greater operand is first already, or the operands are exchanged
exchanged : (gate : Gate) → gate.left < gate.right → greater_first gate ≡ exchanged_gate gate
exchanged gate up = ap (λ (b : Bool). cond b (exchanged_gate gate) gate) (lt-ltb gate.left gate.right up)

not_exchanged : (gate : Gate) → gate.right ≤ gate.left → greater_first gate ≡ gate
not_exchanged gate down = ap (λ (b : Bool). cond b (exchanged_gate gate) gate) (le-ltb gate.left gate.right down)

literal_kept : (gate : Gate) → (greater_first gate).literal ≡ gate.literal
literal_kept gate = go (cases_lt gate.left gate.right)
  where
    go : (gate.left < gate.right) ⊎ (gate.right ≤ gate.left) → (greater_first gate).literal ≡ gate.literal
    go (inl up) = ap (λ (g : Gate). g.literal) (exchanged gate up)
    go (inr down) = ap (λ (g : Gate). g.literal) (not_exchanged gate down)

-- so the operands are below it, the greater one first
in_order : (gate : Gate) → gate.left < gate.literal → gate.right < gate.literal
    → ((greater_first gate).left < (greater_first gate).literal) × ((greater_first gate).right ≤ (greater_first gate).left)
in_order gate one other = go (cases_lt gate.left gate.right)
  where
    go : (gate.left < gate.right) ⊎ (gate.right ≤ gate.left) → ((greater_first gate).left < (greater_first gate).literal) × ((greater_first gate).right ≤ (greater_first gate).left)
    go (inl up) = subst (λ (g : Gate). (g.left < g.literal) × (g.right ≤ g.left)) (sym (exchanged gate up)) (other, omega (arith, up))
    go (inr down) = subst (λ (g : Gate). (g.left < g.literal) × (g.right ≤ g.left)) (sym (not_exchanged gate down)) (one, down)

-- and it is the same gate
same_gate : (all : List ℕ) (gate made : Gate) → IsNumbered all gate.literal made.literal → IsNumbered all gate.left made.left → IsNumbered all gate.right made.right → IsGateOf all gate (greater_first made)
same_gate all gate made literal left right = go (cases_lt made.left made.right)
  where
    go : (made.left < made.right) ⊎ (made.right ≤ made.left) → IsGateOf all gate (greater_first made)
    go (inl up) = subst (IsGateOf all gate) (sym (exchanged made up)) (record { literal = literal; operands = inr (left, right) })
    go (inr down) = subst (IsGateOf all gate) (sym (not_exchanged made down)) (record { literal = literal; operands = inl (left, right) })

-- how many inputs and latches a circuit has, of whose value these are the lists
pub long_inputs : (c now : CircuitValue) (inputs : List ℕ) → c ≡ now → inputs ≡ now.inputs → length inputs ≡ length c.inputs
long_inputs c now inputs same are = ap (λ (xs : List ℕ). length xs) (are ∙ ap (λ (x : CircuitValue). x.inputs) (sym same))

pub long_latches : (c now : CircuitValue) (latches : List Latch) → c ≡ now → latches ≡ now.latches → length latches ≡ length c.latches
long_latches c now latches same are = ap (λ (xs : List Latch). length xs) (are ∙ ap (λ (x : CircuitValue). x.latches) (sym same))

-- a circuit, and its canonical form
pub record IsRemade (c d : CircuitValue) : Type 0 where
  pub shape : IsCanonicalCircuit d
  pub circuit : IsCircuit d
  pub same : MeanTheSame c d

-- a numbering of the same steps
pub same_numbering : (first seen_first : ℕ) (steps seen : List Gate) (numbers : List ℕ) (nets : List Gate) → seen_first ≡ first → seen ≡ steps → IsNumbering seen_first seen numbers nets
    → IsNumbering first steps numbers nets
same_numbering first seen_first steps seen numbers nets is_first is_seen is =
    subst (λ n. IsNumbering n steps numbers nets) is_first (subst (λ (l : List Gate). IsNumbering seen_first l numbers nets) is_seen is)

-- what the steps of a circuit are
module _ (c : CircuitValue) (steps : List Gate) (are : AreSteps c steps) where
  order_within : (i : ℕ) → i < length are.order → get_or are.order i 0 < length c.gates
  order_within i within = let e = are.ordered.sorted.within i 0 within in let l = are.numbered.long in omega (arith, e, l)

  steps_long : length steps ≡ length are.order
  steps_long = ap (λ (l : List Gate). length l) are.same ∙ length-map are.order (gate_at are.nets)

  pub step_at : (i : ℕ) → i < length steps → gate_at steps i ≡ gate_at are.nets (get_or are.order i 0)
  step_at i within =
      ap (λ (l : List Gate). gate_at l i) are.same ∙ get_or-map (gate_at are.nets) are.order i 0 no_gate (let e = steps_long in omega (arith, within, e))

  pub own_step : (i : ℕ) → i < length steps → own (gate_at steps i) ≡ first_gate c + get_or are.order i 0
  own_step i within =
      let k : ℕ = get_or are.order i 0 in
      let small : k < length c.gates = order_within i (let e = steps_long in omega (arith, within, e)) in
      ap own (step_at i within) ∙ (let e = (are.numbered.each k small).numbered in let half : own (gate_at are.nets k) ≡ first_gate c + k = omega (arith, e) in half)

  pub place_small : (i : ℕ) → i < length steps → get_or are.order i 0 < length c.gates
  place_small i within = order_within i (let e = steps_long in omega (arith, within, e))

  -- each comes after those that it uses
  earlier : (i : ℕ) → i < length steps → (literal : ℕ) → IsSettled (first_gate c) (take i are.order) literal → IsEarlier (first_gate c) (take i steps) literal
  earlier i within literal (inl small) = inl small
  earlier i within literal (inr gate) =
      let k : ℕ = gate.0 in
      let is = gate.1 in
      let at = contained_at (take i are.order) k gate.2 in
      let e = steps_long in
      let front = length-take i are.order in
      let before : at.0 < i = omega (arith, at.1, front, e, within) in
      let inside : at.0 < length steps = omega (arith, before, within) in
      let taken = length-take i steps in
      let same : get_or are.order at.0 0 ≡ k = sym (get_or-take i are.order at.0 0 before) ∙ at.2 in
      inr (there_at (map own (take i steps)) at.0 (literal / 2) (let l = length-map (take i steps) own in omega (arith, l, taken, before, within))
      (get_or-map own (take i steps) at.0 no_gate 0 (omega (arith, taken, before, within))
      ∙ ap own (get_or-take i steps at.0 no_gate before)
      ∙ own_step at.0 inside
      ∙ (let q : first_gate c + get_or are.order at.0 0 ≡ literal / 2 = omega (arith, same, is) in q)))

  pub steps_ready : AreReady (first_gate c) steps
  steps_ready i within =
      let r : IsReady (first_gate c) (take i are.order) (gate_at are.nets (get_or are.order i 0)) = are.ordered.sorted.ready i (let e = steps_long in omega (arith, within, e)) in
      subst (λ (g : Gate). IsEarlier (first_gate c) (take i steps) g.left × IsEarlier (first_gate c) (take i steps) g.right) (sym (step_at i within))
      (earlier i within (gate_at are.nets (get_or are.order i 0)).left r.left, earlier i within (gate_at are.nets (get_or are.order i 0)).right r.right)

  module _ (circuit : IsCircuit c) (numbers : List ℕ) (nets : List Gate) (numbering : IsNumbering (first_gate c) steps numbers nets) where
    abbrev first : ℕ
    first = first_gate c

    abbrev count : ℕ
    count = first_gate c + length c.gates

    -- the step that a gate is
    net_source : (j : ℕ) → j < length nets → (i : ℕ) × (i < length steps) × (gate_at nets j ≡ gate_at steps i)
    net_source j within =
        let there = numbering.some j within in
        (there.0, there.1, sym (get_or_default steps there.0 no_gate (gate_at nets j) there.1 ∙ there.2))

    number_small : (p : ℕ) → p < length numbers → get_or numbers p 0 < count
    number_small p within = go (cases_lt p first)
      where
        go : (p < first) ⊎ (first ≤ p) → get_or numbers p 0 < count
        go (inl small) = let e = first_number first steps numbers nets numbering p small in omega (arith, e, small)
        go (inr late) =
            let long = numbers_long first steps numbers nets numbering in
            let inside : p - first < length nets = omega (arith, long, within, late) in
            let place : first + (p - first) ≡ p = omega (arith, late) in
            let source = net_source (p - first) inside in
            let e : get_or numbers p 0 ≡ first + get_or are.order source.0 0 =
            ap (λ n. get_or numbers n 0) (sym place) ∙ net_number first steps numbers nets numbering (p - first) inside ∙ ap own source.2 ∙ own_step source.0 source.1 in
            let s = place_small source.0 source.1 in
            omega (arith, e, s)

    pub gate_there : (k : ℕ) → k < length c.gates → Contains numbers (first + k)
    gate_there k within =
        let at = contained_at are.order k (are.ordered.whole k (let l = are.numbered.long in omega (arith, within, l))) in
        let inside : at.0 < length steps = let e = steps_long in omega (arith, at.1, e) in
        subst (Contains numbers) (own_step at.0 inside ∙ ap (λ n. first + n) at.2) (numbering.every at.0 inside)

    pub number_there : (n : ℕ) → n < count → Contains numbers n
    number_there n within = go (cases_lt n first)
      where
        go : (n < first) ⊎ (first ≤ n) → Contains numbers n
        go (inl small) = let long = numbers_long first steps numbers nets numbering in there_at numbers n n (omega (arith, small, long)) (first_number first steps numbers nets numbering n small)
        go (inr late) =
            let place : first + (n - first) ≡ n = omega (arith, late) in
            subst (Contains numbers) place (gate_there (n - first) (omega (arith, within, late)))

    pub whole_long : length numbers ≡ count
    whole_long =
        let most : length numbers ≤ count = length-le_from_distinct_below numbers count numbering.apart (λ q any.
        let at = contained_at numbers q (found_with numbers q any) in
        let s = number_small at.0 at.1 in omega (arith, s, at.2)) in
        let least : count ≤ length numbers = le-length_from_below numbers count (λ q small.
        there_any (nat_eq q) q (same_number q q refl) numbers (number_there q small)) in
        omega (arith, most, least)

    pub nets_long : length nets ≡ length c.gates
    nets_long = let e = numbers_long first steps numbers nets numbering in let w = whole_long in omega (arith, e, w)

    -- so numbers that are read are there
    pub read_there : (literals read : List ℕ) → AreNumbered (defined_variables c) literals read → All (λ number. Contains numbers (number / 2)) read
    read_there literals read are_read = All-from_get_or (λ number. Contains numbers (number / 2)) read 0
        (λ k small. number_there (get_or read k 0 / 2)
        (let e = (are_read.each k (let l = are_read.long in omega (arith, small, l))).within in let v = variables_long c in omega (arith, e, v)))

    -- and the operands of gates
    front_there : (n x : ℕ) → Contains (take n numbers) x → Contains numbers x
    front_there n x there =
        let at = contained_at (take n numbers) x there in
        let front = length-take n numbers in
        let before : at.0 < n = omega (arith, at.1, front) in
        there_at numbers at.0 x (omega (arith, at.1, front)) (sym (get_or-take n numbers at.0 0 before) ∙ at.2)

    pub nets_there : All (λ (net : Gate). Contains numbers (net.left / 2) × Contains numbers (net.right / 2)) nets
    nets_there = All-from_get_or (λ (net : Gate). Contains numbers (net.left / 2) × Contains numbers (net.right / 2)) nets no_gate
        (λ j small. let r = numbering.ready j small in
        (front_there (first + j) ((gate_at nets j).left / 2) r.0, front_there (first + j) ((gate_at nets j).right / 2) r.1))

    -- the variables in the new order
    abbrev old : ℕ → ℕ
    old n = get_or (defined_variables c) n 0

    abbrev variables : List ℕ
    variables = map old numbers

    variables_count : length variables ≡ count
    variables_count = length-map numbers old ∙ whole_long

    old_at : (p : ℕ) → p < count → get_or variables p 0 ≡ old (get_or numbers p 0)
    old_at p within = get_or-map old numbers p 0 0 (let w = whole_long in omega (arith, within, w))

    abbrev known : ℕ
    known = length (defined_variables c)

    apart : IsDistinct nat_eq variables
    apart = IsDistinct-from_apart nat_eq variables (λ p q d earlier within.
        let low : q < count = let e = variables_count in omega (arith, within, e) in
        let inside : q < length numbers = let w = whole_long in omega (arith, low, w) in
        let one : get_or variables p d ≡ old (get_or numbers p 0) = get_or_default variables p d 0 (omega (arith, earlier, within)) ∙ old_at p (omega (arith, earlier, low)) in
        let other : get_or variables q d ≡ old (get_or numbers q 0) = get_or_default variables q d 0 within ∙ old_at q low in
        other_number (get_or variables p d) (get_or variables q d) (λ same.
        let v = variables_long c in
        let a = number_small p (omega (arith, earlier, inside)) in
        let b = number_small q inside in
        let numbers_same : get_or numbers p 0 ≡ get_or numbers q 0 =
        place_is (defined_variables c) (get_or numbers p 0) (get_or numbers q 0) circuit.definitions.apart (omega (arith, v, a)) (omega (arith, v, b)) (sym one ∙ same ∙ other) in
        let places : p ≡ q = place_is numbers p q numbering.apart (omega (arith, earlier, inside)) inside numbers_same in
        omega (arith, places, earlier)))

    -- a literal that is numbered twice
    number_of_number : (literal number made : ℕ) → IsNumbered (defined_variables c) literal number → IsNumbered numbers number made → IsNumbered variables literal made
    number_of_number literal number made one other = record {
      within = let e = length-map numbers old in omega (arith, other.within, e);
      variable = get_or-map old numbers (made / 2) 0 0 other.within ∙ ap old other.variable ∙ one.variable;
      sign = other.sign ∙ one.sign;
    }

    numbers_of_numbers : (literals read made : List ℕ) → AreNumbered (defined_variables c) literals read → AreNumbered numbers read made → AreNumbered variables literals made
    numbers_of_numbers literals read made one other = record {
      long = other.long ∙ one.long;
      each = λ k within. number_of_number (get_or literals k 0) (get_or read k 0) (get_or made k 0) (one.each k within) (other.each k (let e = one.long in omega (arith, within, e)));
    }

    -- a literal of the first ones, which are no gates
    even_literal : (n : ℕ) → n < count → literal_at c n % 2 ≡ 0
    even_literal n within =
        (Decides-eqb (literal_at c n % 2) 0).0 (circuit.definitions.even n 0 (let e = literals_long c in omega (arith, within, e)))

    own_literal : (literal p n : ℕ) → p < count → n < count → get_or numbers p 0 ≡ n → literal_at c n ≡ literal → IsNumbered variables literal (2 * p)
    own_literal literal p n place small is same = record {
      within = let e = variables_count in omega (arith, place, e);
      variable = let half : (2 * p) / 2 ≡ p = omega arith in
          ap (λ m. get_or variables m 0) half ∙ old_at p place ∙ ap old is
          ∙ get_or-map (λ (l : ℕ). l / 2) (defined_literals c) n 0 0 (let e = literals_long c in omega (arith, small, e)) ∙ ap (λ (l : ℕ). l / 2) same;
      sign = let e = even_literal n small in let z : (2 * p) % 2 ≡ 0 = omega arith in z ∙ sym (ap (λ (l : ℕ). l % 2) (sym same) ∙ e);
    }

    module _ (nexts outputs read_nexts read_outputs : List ℕ) (latches : List Latch) (made : List Gate)
        (nexts_read : AreNumbered (defined_variables c) (next_literals c.latches) read_nexts) (nexts_made : AreNumbered numbers read_nexts nexts)
        (outputs_read : AreNumbered (defined_variables c) c.outputs read_outputs) (outputs_made : AreNumbered numbers read_outputs outputs)
        (latches_made : AreLatchesFrom (1 + length c.inputs) c.latches nexts latches) (gates_made : AreNets numbers first nets made) where
      abbrev inputs : List ℕ
      inputs = literals_from 1 (length c.inputs)

      abbrev gates : List Gate
      gates = map greater_first made

      abbrev d : CircuitValue
      d = circuit_with inputs latches outputs gates c.symbols

      inputs_long : length inputs ≡ length c.inputs
      inputs_long = length-map-range_with_len (λ variable. 2 * variable) 1 (length c.inputs)

      made_long : length made ≡ length c.gates
      made_long = let e = gates_made.long in let n = nets_long in omega (arith, e, n)

      gates_long : length gates ≡ length c.gates
      gates_long = length-map made greater_first ∙ made_long

      input_is : (k : ℕ) → k < length c.inputs → get_or inputs k 0 ≡ 2 * (1 + k)
      input_is k within = get_or-map-range_with_len (λ variable. 2 * variable) 1 (length c.inputs) k (1 + k) 0 within refl

      gate_is : (j : ℕ) → j < length c.gates → gate_at gates j ≡ greater_first (gate_at made j)
      gate_is j within = get_or-map greater_first made j no_gate no_gate (let e = made_long in omega (arith, within, e))

      made_literal : (j : ℕ) → j < length c.gates → (gate_at made j).literal ≡ 2 * (first + j)
      made_literal j within = (gates_made.each j (let e = nets_long in omega (arith, within, e))).numbered

      gate_literal_is : (j : ℕ) → j < length c.gates → (gate_at gates j).literal ≡ 2 * (first + j)
      gate_literal_is j within = ap (λ (g : Gate). g.literal) (gate_is j within) ∙ literal_kept (gate_at made j) ∙ made_literal j within

      -- its literals are in order
      same_first : first_gate d ≡ first
      same_first = let i = inputs_long in let l = latches_made.long in omega (arith, i, l)

      literal_is : (n : ℕ) → n < first_gate d + length d.gates → literal_at d n ≡ 2 * n
      literal_is n within = go (defines d n within)
        where
          go : Defines d n → literal_at d n ≡ 2 * n
          go (of_false is) = ap (literal_at d) is ∙ (let z : 0 ≡ 2 * n = omega (arith, is) in z)
          go (of_input k small is) =
              ap (literal_at d) is ∙ input_literal d k small ∙ input_is k (let e = inputs_long in omega (arith, small, e)) ∙ ap (λ m. 2 * m) (sym is)
          go (of_latch k small is) =
              let low : k < length c.latches = let e = latches_made.long in omega (arith, small, e) in
              ap (literal_at d) is ∙ latch_literal d k small ∙ ap (λ (l : Latch). l.literal) (latches_made.each k low)
              ∙ (let e = inputs_long in let q : 2 * (1 + length c.inputs + k) ≡ 2 * n = omega (arith, is, e) in q)
          go (of_gate k small is) =
              let low : k < length c.gates = let e = gates_long in omega (arith, small, e) in
              ap (literal_at d) is ∙ gate_literal d k small ∙ gate_literal_is k low
              ∙ (let e = same_first in let q : 2 * (first + k) ≡ 2 * n = omega (arith, is, e) in q)

      d_long : length (defined_literals d) ≡ count
      d_long = literals_long d ∙ (let e = same_first in let g = gates_long in omega (arith, e, g))

      -- the operands of a gate are below it
      operand_below : (j operand number : ℕ) → j < length c.gates → IsNumbered numbers operand number → Contains (take (first + j) numbers) (operand / 2) → number / 2 < first + j
      operand_below j operand number within is there =
          let at = contained_at (take (first + j) numbers) (operand / 2) there in
          let front = length-take (first + j) numbers in
          let w = whole_long in
          let before : at.0 < first + j = omega (arith, at.1, front) in
          let inside : at.0 < length numbers = omega (arith, before, w, within) in
          let same : at.0 ≡ number / 2 = place_is numbers at.0 (number / 2) numbering.apart inside is.within
          (sym (get_or-take (first + j) numbers at.0 0 before) ∙ at.2 ∙ sym is.variable) in
          omega (arith, same, before)

      operands : (j : ℕ) → j < length gates → ((gate_at gates j).left < (gate_at gates j).literal) × ((gate_at gates j).right ≤ (gate_at gates j).left)
      operands j small =
          let within : j < length c.gates = let e = gates_long in omega (arith, small, e) in
          let in_nets : j < length nets = let e = nets_long in omega (arith, within, e) in
          let net = gates_made.each j in_nets in
          let ready = numbering.ready j in_nets in
          let left = operand_below j (gate_at nets j).left (gate_at made j).left within net.left ready.0 in
          let right = operand_below j (gate_at nets j).right (gate_at made j).right within net.right ready.1 in
          let own_is = made_literal j within in
          subst (λ (g : Gate). (g.left < g.literal) × (g.right ≤ g.left)) (sym (gate_is j within))
          (in_order (gate_at made j) (omega (arith, left, own_is)) (omega (arith, right, own_is)))

      shape : IsCanonicalCircuit d
      shape = record {
        numbered = fill_by_all (λ variable. 2 * variable) (defined_literals d) (length (defined_literals d)) 0 refl
            (λ n within. literal_is n (let e = literals_long d in omega (arith, within, e)));
        operands = All-from_get_or (λ (gate : Gate). (gate.left < gate.literal) × (gate.right ≤ gate.left)) gates no_gate operands;
      }

      -- it is the circuit renumbered
      latch_of : (k : ℕ) → k < length c.latches → IsLatchOf variables (latch_at c.latches k) (latch_at latches k)
      latch_of k within =
          let place : 1 + length c.inputs + k < count = omega (arith, within) in
          let next_long : k < length (next_literals c.latches) = let e = length-map c.latches (λ (l : Latch). l.next) in omega (arith, within, e) in
          let next = (numbers_of_numbers (next_literals c.latches) read_nexts nexts nexts_read nexts_made).each k next_long in
          subst (IsLatchOf variables (latch_at c.latches k)) (sym (latches_made.each k within)) (record {
            literal = own_literal (latch_at c.latches k).literal (1 + length c.inputs + k) (1 + length c.inputs + k) place place
                (first_number first steps numbers nets numbering (1 + length c.inputs + k) (omega (arith, within))) (latch_literal c k within);
            next = subst (λ n. IsNumbered variables n (get_or nexts k 0)) (get_or-map (λ (l : Latch). l.next) c.latches k no_latch 0 within) next;
            reset = refl;
          })

      gate_of : (j k i : ℕ) → j < length c.gates → k < length c.gates → i < length steps → gate_at nets j ≡ gate_at steps i → get_or are.order i 0 ≡ k
          → IsGateOf variables (gate_at c.gates k) (gate_at gates j)
      gate_of j k i within small inside same is =
          let in_nets : j < length nets = let e = nets_long in omega (arith, within, e) in
          let net_is : gate_at nets j ≡ gate_at are.nets k = same ∙ step_at i inside ∙ ap (gate_at are.nets) is in
          let number_is : get_or numbers (first + j) 0 ≡ first + k = net_number first steps numbers nets numbering j in_nets ∙ ap own same ∙ own_step i inside ∙ ap (λ n. first + n) is in
          let old_net = are.numbered.each k small in
          let new_net = gates_made.each j in_nets in
          let left : IsNumbered variables (gate_at c.gates k).left (gate_at made j).left =
          number_of_number (gate_at c.gates k).left (gate_at are.nets k).left (gate_at made j).left old_net.left (subst (λ (g : Gate). IsNumbered numbers g.left (gate_at made j).left) net_is new_net.left) in
          let right : IsNumbered variables (gate_at c.gates k).right (gate_at made j).right =
          number_of_number (gate_at c.gates k).right (gate_at are.nets k).right (gate_at made j).right old_net.right (subst (λ (g : Gate). IsNumbered numbers g.right (gate_at made j).right) net_is new_net.right) in
          let literal : IsNumbered variables (gate_at c.gates k).literal (2 * (first + j)) =
          own_literal (gate_at c.gates k).literal (first + j) (first + k) (omega (arith, within)) (omega (arith, small)) number_is (gate_literal c k small) in
          subst (IsGateOf variables (gate_at c.gates k)) (sym (gate_is j within))
          (same_gate variables (gate_at c.gates k) (gate_at made j) (subst (IsNumbered variables (gate_at c.gates k).literal) (sym (made_literal j within)) literal) left right)

      source : (j : ℕ) → j < length gates → (k : ℕ) × (k < length c.gates) × IsGateOf variables (gate_at c.gates k) (gate_at gates j)
      source j small =
          let within : j < length c.gates = let e = gates_long in omega (arith, small, e) in
          let s = net_source j (let e = nets_long in omega (arith, within, e)) in
          (get_or are.order s.0 0, place_small s.0 s.1, gate_of j (get_or are.order s.0 0) s.0 within (place_small s.0 s.1) s.1 s.2 refl)

      image : (k : ℕ) → k < length c.gates → (j : ℕ) × (j < length gates) × IsGateOf variables (gate_at c.gates k) (gate_at gates j)
      image k within = go (cases_lt at.0 first)
        where
          at : (p : ℕ) × (p < length numbers) × (get_or numbers p 0 ≡ first + k)
          at = contained_at numbers (first + k) (gate_there k within)

          go : (at.0 < first) ⊎ (first ≤ at.0) → (j : ℕ) × (j < length gates) × IsGateOf variables (gate_at c.gates k) (gate_at gates j)
          go (inl small) = let e = first_number first steps numbers nets numbering at.0 small in let v = at.2 in absurd (omega (arith, e, v, small))
          go (inr late) =
              let j : ℕ = at.0 - first in
              let w = whole_long in
              let low : j < length c.gates = omega (arith, w, at.1, late) in
              let in_nets : j < length nets = let e = nets_long in omega (arith, low, e) in
              let place : first + j ≡ at.0 = omega (arith, late) in
              let s = net_source j in_nets in
              let e : first + get_or are.order s.0 0 ≡ first + k =
              sym (ap (λ n. get_or numbers n 0) (sym place) ∙ net_number first steps numbers nets numbering j in_nets ∙ ap own s.2 ∙ own_step s.0 s.1) ∙ at.2 in
              (j, (let g = gates_long in omega (arith, low, g)), gate_of j k s.0 low within s.1 s.2 (omega (arith, e)))

      renumbered : IsRenumbered variables c d
      renumbered = record {
        constant = old_at 0 (omega arith) ∙ ap old (first_number first steps numbers nets numbering 0 (omega arith));
        apart = apart;
        inputs = record {
          long = inputs_long;
          each = λ k within. subst (IsNumbered variables (get_or c.inputs k 0)) (sym (input_is k within))
              (own_literal (get_or c.inputs k 0) (1 + k) (1 + k) (omega (arith, within)) (omega (arith, within))
              (first_number first steps numbers nets numbering (1 + k) (omega (arith, within))) (input_literal c k within));
        };
        latches = record { long = latches_made.long; each = latch_of };
        outputs = numbers_of_numbers c.outputs read_outputs outputs outputs_read outputs_made;
        gates = record { long = gates_long; sources = source; images = image };
        symbols = refl;
      }

      same : MeanTheSame c d
      same = renumbered_means_the_same variables c d renumbered

      -- and a circuit
      below_count : (literal number : ℕ) → IsNumbered variables literal number → number / 2 < first_gate d + length d.gates
      below_count literal number is = let e = variables_count in let s = same_first in let g = gates_long in let w = is.within in omega (arith, e, s, g, w)

      uses : AreUsesBelow (first_gate d + length d.gates) d
      uses = record {
        nexts = All-from_get_or (λ (latch : Latch). latch.next / 2 < first_gate d + length d.gates) latches no_latch
            (λ k small. let within : k < length c.latches = let e = latches_made.long in omega (arith, small, e) in below_count (latch_at c.latches k).next (latch_at latches k).next (latch_of k within).next);
        outputs = All-from_get_or (λ literal. literal / 2 < first_gate d + length d.gates) outputs 0
            (λ k small. let within : k < length c.outputs = let e = renumbered.outputs.long in omega (arith, small, e) in
            below_count (get_or c.outputs k 0) (get_or outputs k 0) (renumbered.outputs.each k within));
      }

      resets : AreResets latches
      resets = All-from_get_or (λ (latch : Latch). latch.reset ≤ 1) latches no_latch
          (λ k small. let within : k < length c.latches = let e = latches_made.long in omega (arith, small, e) in
          let e = (latch_of k within).reset in
          let low = All-get_or (λ (latch : Latch). latch.reset ≤ 1) c.latches k no_latch within circuit.resets in
          omega (arith, e, low))

      names : HasNames d
      names = record {
        inputs = subst (λ n. AreNamed Input n c.symbols) (sym inputs_long) circuit.names.inputs;
        latches = subst (λ n. AreNamed OfLatch n c.symbols) (sym latches_made.long) circuit.names.latches;
        outputs = subst (λ n. AreNamed Output n c.symbols) (sym renumbered.outputs.long) circuit.names.outputs;
      }

      made_is_circuit : IsCircuit d
      made_is_circuit = is_circuit d shape (let s = same_first in let g = gates_long in let f = circuit.few in omega (arith, s, g, f)) uses resets names

      pub remade : IsRemade c d
      remade = record { shape = shape; circuit = made_is_circuit; same = same }
