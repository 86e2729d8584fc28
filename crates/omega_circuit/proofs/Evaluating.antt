-- An evaluation of all gates in an order makes the values of a round.
use Rattle.std.proofs.Common.{◌≡◌, ◌≢◌, ◌⊎◌, inl, inr, ℕ, suc, ◌+◌, ◌/◌, ◌<◌, Bool, false, List, [], ◌∷◌, ◌++◌, length, map, get_or, take, set, refl, sym, ap, ap₂, ◌&&◌, ◌∙◌, subst, arith, append_assoc, length-append}
use Rattle.std.specs.List.{Contains}
use Rattle.std.specs.Prelude.{replicate}
use Rattle.std.proofs.lemmas.Bool.{cases_eq}
use Rattle.std.proofs.lemmas.List.{append-nil, ext_get_or, get_or-append-add, get_or-map, get_or-set_other, get_or-set_same, get_or_append_left, get_or_at, length-map, length-replicate, length-set, take_at}
use Rattle.std.proofs.lemmas.List.Elements.{Contains-push_cases}
use Rattle.omega_circuit.specs.Circuit.{CircuitValue, IsCircuit, defined_variables}
use Rattle.omega_circuit.specs.Rounds.{AreValues, IsRound, gate_value, literal_value}
use Rattle.omega_circuit.specs.private.Numbers.{AreNets, IsNumbered, first_gate, gate_at}
use Rattle.omega_circuit.specs.private.Orders.{IsOrder, IsReady, IsSettled, flag_at}
use Rattle.omega_circuit.specs.private.Steps.{AreSteps, AreWithin, evaluated}
use Rattle.omega_circuit.specs.declared.gate.Gate.{Gate}
use Rattle.omega_circuit.proofs.Completing.{complete, complete_input, complete_latch, complete_false}
use Rattle.omega_circuit.proofs.Definitions.{Defines, defines, gate_variable, input_at, latch_variable, of_false, of_gate, of_input, of_latch, variable_at, variables_long}
use Rattle.omega_circuit.proofs.Runs.{complete_round}
use Rattle.omega_circuit.proofs.Values.{signs_alike}

-- an evaluation keeps the number of values
pub evaluated_long : (steps : List Gate) (values : List Bool) → length (evaluated steps values) ≡ length values
evaluated_long [] values = refl
evaluated_long (step ∷ steps) values =
    evaluated_long steps (set values (step.literal / 2) (gate_value (flag_at values) step)) ∙ length-set values (step.literal / 2) (gate_value (flag_at values) step)

module _ (c : CircuitValue) (held : ℕ → Bool) (round : IsRound c held) (nets : List Gate) (numbered : AreNets (defined_variables c) (first_gate c) c.gates nets) where
  -- the values are those of the round at false, inputs, latches and these gates
  abbrev Agrees : List ℕ → List Bool → Type 0
  Agrees done values = (n : ℕ) → n < first_gate c + length c.gates → (n < first_gate c) ⊎ ((k : ℕ) × (n ≡ first_gate c + k) × Contains done k)
      → flag_at values n ≡ held (variable_at c n)

  of_literal : (done : List ℕ) (values : List Bool) (literal number : ℕ) → Agrees done values → IsNumbered (defined_variables c) literal number
      → IsSettled (first_gate c) done number → literal_value (flag_at values) number ≡ literal_value held literal
  of_literal done values literal number agrees is settled =
      signs_alike (flag_at values) held literal number is.sign (agrees (number / 2) (omega (arith, is.within, variables_long c)) settled ∙ ap held is.variable)

  own_number : (k : ℕ) → k < length c.gates → (gate_at nets k).literal / 2 ≡ first_gate c + k
  own_number k small = let e = (numbered.each k small).numbered in omega (arith, e)

  of_step : (done : List ℕ) (values : List Bool) (k : ℕ) → k < length c.gates → IsReady (first_gate c) done (gate_at nets k) → length values ≡ first_gate c + length c.gates
      → Agrees done values → Agrees (done ++ k ∷ []) (set values ((gate_at nets k).literal / 2) (gate_value (flag_at values) (gate_at nets k)))
  of_step done values k small ready long agrees n within settled = go (cases_eq n ((gate_at nets k).literal / 2))
    where
      own : (gate_at nets k).literal / 2 ≡ first_gate c + k
      own = own_number k small

      value : gate_value (flag_at values) (gate_at nets k) ≡ held ((gate_at c.gates k).literal / 2)
      value =
          let is = numbered.each k small in
          let left = of_literal done values (gate_at c.gates k).left (gate_at nets k).left agrees is.left ready.left in
          let right = of_literal done values (gate_at c.gates k).right (gate_at nets k).right agrees is.right ready.right in
          ap₂ (λ (a b : Bool). a && b) left right ∙ sym (round.gates k (record { literal = 0; left = 0; right = 0 }) small)

      before : (n ≢ (gate_at nets k).literal / 2) → (n < first_gate c) ⊎ ((m : ℕ) × (n ≡ first_gate c + m) × Contains (done ++ k ∷ []) m)
          → (n < first_gate c) ⊎ ((m : ℕ) × (n ≡ first_gate c + m) × Contains done m)
      before apart (inl low) = inl low
      before apart (inr gate) = later (Contains-push_cases done k gate.0 gate.2)
        where
          later : Contains done gate.0 ⊎ (k ≡ gate.0) → (n < first_gate c) ⊎ ((m : ℕ) × (n ≡ first_gate c + m) × Contains done m)
          later (inl there) = inr (gate.0, gate.1, there)
          later (inr is) = absurd (apart (omega (arith, own, gate.1, is)))

      go : (n ≡ (gate_at nets k).literal / 2) ⊎ (n ≢ (gate_at nets k).literal / 2)
          → flag_at (set values ((gate_at nets k).literal / 2) (gate_value (flag_at values) (gate_at nets k))) n ≡ held (variable_at c n)
      go (inl same) =
          ap (flag_at (set values ((gate_at nets k).literal / 2) (gate_value (flag_at values) (gate_at nets k)))) same
          ∙ get_or-set_same values ((gate_at nets k).literal / 2) (gate_value (flag_at values) (gate_at nets k)) false (omega (arith, own, small, long))
          ∙ value ∙ ap held (sym (gate_variable c n k (same ∙ own) small))
      go (inr apart) =
          get_or-set_other values ((gate_at nets k).literal / 2) n (gate_value (flag_at values) (gate_at nets k)) false apart
          ∙ agrees n within (before apart settled)

  -- gates may be evaluated one after the other
  abbrev Along : List ℕ → List ℕ → Type 0
  Along done [] = Unit {0}
  Along done (k ∷ rest) = (k < length c.gates) × IsReady (first_gate c) done (gate_at nets k) × Along (done ++ k ∷ []) rest

  along : (order : List ℕ) → IsOrder (first_gate c) nets order → (done rest : List ℕ) → done ++ rest ≡ order → Along done rest
  along order is done [] whole = tt
  along order is done (k ∷ rest) whole =
      let long : length (done ++ (k ∷ rest)) ≡ length order = ap length whole in
      let count = length-append done (k ∷ rest) in
      let small : length done < length order = omega (arith, long, count) in
      let here : get_or order (length done) 0 ≡ k = ap (λ (xs : List ℕ). get_or xs (length done) 0) (sym whole) ∙ get_or_at done k rest 0 (length done) refl in
      let front : take (length done) order ≡ done = ap (take (length done)) (sym whole) ∙ take_at done (k ∷ rest) (length done) refl in
      let inside : k < length nets = subst (λ m. m < length nets) here (is.within (length done) 0 small) in (
        omega (arith, inside, numbered.long),
        subst (λ m. IsReady (first_gate c) done (gate_at nets m)) here
            (subst (λ (xs : List ℕ). IsReady (first_gate c) xs (gate_at nets (get_or order (length done) 0))) front (is.ready (length done) small)),
        along order is (done ++ k ∷ []) rest (append_assoc done (k ∷ []) rest ∙ whole),
      )

  of_steps : (done rest : List ℕ) (values : List Bool) → length values ≡ first_gate c + length c.gates → Along done rest → Agrees done values
      → Agrees (done ++ rest) (evaluated (map (gate_at nets) rest) values)
  of_steps done [] values long ready agrees = subst (λ (xs : List ℕ). Agrees xs values) (sym (append-nil done)) agrees
  of_steps done (k ∷ rest) values long ready agrees =
      let next : List Bool = set values ((gate_at nets k).literal / 2) (gate_value (flag_at values) (gate_at nets k)) in
      subst (λ (xs : List ℕ). Agrees xs (evaluated (map (gate_at nets) rest) next)) (append_assoc done (k ∷ []) rest)
      (of_steps (done ++ k ∷ []) rest next (length-set values ((gate_at nets k).literal / 2) (gate_value (flag_at values) (gate_at nets k)) ∙ long) ready.2
      (of_step done values k ready.0 ready.1 long agrees))

-- a list of false, inputs, latches and others, place by place
module _ (inputs latches rest : List Bool) where
  abbrev parts : List Bool
  parts = false ∷ (inputs ++ (latches ++ rest))

  pub part_input : (k : ℕ) → k < length inputs → flag_at parts (1 + k) ≡ flag_at inputs k
  part_input k small =
      ap (flag_at parts) (let e : 1 + k ≡ suc k = omega arith in e) ∙ get_or_append_left inputs (latches ++ rest) false k small

  pub part_latch : (n k : ℕ) → n ≡ 1 + length inputs + k → k < length latches → flag_at parts n ≡ flag_at latches k
  part_latch n k is small =
      ap (flag_at parts) (let e : n ≡ suc (length inputs + k) = omega (arith, is) in e)
      ∙ get_or-append-add inputs (latches ++ rest) k false
      ∙ get_or_append_left latches rest false k small

  pub part_rest : (n k : ℕ) → n ≡ 1 + length inputs + length latches + k → flag_at parts n ≡ flag_at rest k
  part_rest n k is =
      ap (flag_at parts) (let e : n ≡ suc (length inputs + (length latches + k)) = omega (arith, is) in e)
      ∙ get_or-append-add inputs (latches ++ rest) (length latches + k) false
      ∙ get_or-append-add latches rest k false

  pub parts_long : length parts ≡ 1 + length inputs + length latches + length rest
  parts_long = omega (arith, length-append inputs (latches ++ rest), length-append latches rest)

-- the steps of a circuit are within its numbers
pub steps_within : (c : CircuitValue) (steps : List Gate) → AreSteps c steps → (count : ℕ) → count ≡ first_gate c + length c.gates → AreWithin count steps
steps_within c steps are count is = subst (AreWithin count) (sym are.same) each
  where
    each : AreWithin count (map (gate_at are.nets) are.order)
    each j d within =
        let small : j < length are.order = omega (arith, within, length-map are.order (gate_at are.nets)) in
        let k : ℕ = get_or are.order j 0 in
        let inside : k < length c.gates = let e = are.ordered.sorted.within j 0 small in omega (arith, e, are.numbered.long) in
        let net = are.numbered.each k inside in
        let own = net.numbered in
        subst (λ (g : Gate). (g.literal / 2 < count) × (g.left / 2 < count) × (g.right / 2 < count)) (sym (get_or-map (gate_at are.nets) are.order j 0 d small))
        (omega (arith, own, inside, is), omega (arith, net.left.within, variables_long c, is), omega (arith, net.right.within, variables_long c, is))

module _ (c : CircuitValue) (is : IsCircuit c) (steps : List Gate) (are : AreSteps c steps) (inputs latches : List Bool)
    (all_inputs : length inputs ≡ length c.inputs) (all_latches : length latches ≡ length c.latches) where
  held : ℕ → Bool
  held = complete c (flag_at inputs) (flag_at latches) is

  abbrev gates : List Bool
  gates = map (gate_value held) c.gates

  start : List Bool
  start = false ∷ (inputs ++ (latches ++ replicate (length c.gates) false))

  -- what the steps make
  pub values : List Bool
  values = evaluated steps (false ∷ (inputs ++ (latches ++ replicate (length c.gates) false)))

  round : IsRound c held
  unfolding held
  round = complete_round c is (flag_at inputs) (flag_at latches)

  start_long : length start ≡ first_gate c + length c.gates
  unfolding start
  start_long = let e = parts_long inputs latches (replicate (length c.gates) false) in omega (arith, e, length-replicate (length c.gates) false, all_inputs, all_latches)

  -- a list of the given values and others has the values of the round
  given_part : (rest : List Bool) (n : ℕ) → n < first_gate c → flag_at (false ∷ (inputs ++ (latches ++ rest))) n ≡ held (variable_at c n)
  unfolding held
  given_part rest n low = go (defines c n (omega (arith, low)))
    where
      go : Defines c n → flag_at (false ∷ (inputs ++ (latches ++ rest))) n ≡ complete c (flag_at inputs) (flag_at latches) is (variable_at c n)
      go (of_false none) =
          subst (λ m. flag_at (false ∷ (inputs ++ (latches ++ rest))) m ≡ complete c (flag_at inputs) (flag_at latches) is (variable_at c m)) (sym none)
          (sym (complete_false c (flag_at inputs) (flag_at latches) is))
      go (of_input k small is_input) =
          ap (flag_at (false ∷ (inputs ++ (latches ++ rest)))) is_input ∙ part_input inputs latches rest k (omega (arith, small, all_inputs))
          ∙ sym (complete_input c (flag_at inputs) (flag_at latches) is k small)
          ∙ ap (complete c (flag_at inputs) (flag_at latches) is) (sym (ap (variable_at c) is_input ∙ input_at c k small))
      go (of_latch k small is_latch) =
          part_latch inputs latches rest n k (omega (arith, is_latch, all_inputs)) (omega (arith, small, all_latches))
          ∙ sym (complete_latch c (flag_at inputs) (flag_at latches) is k small)
          ∙ ap (complete c (flag_at inputs) (flag_at latches) is) (sym (latch_variable c n k is_latch small))
      go (of_gate k small is_gate) = absurd (omega (arith, is_gate, low))

  agrees : (n : ℕ) → n < first_gate c + length c.gates → flag_at values n ≡ held (variable_at c n)
  unfolding values start
  agrees n within =
      subst (λ (xs : List Gate). flag_at (evaluated xs start) n ≡ held (variable_at c n)) (sym are.same)
      (of_steps c held round are.nets are.numbered [] are.order start start_long
      (along c held round are.nets are.numbered are.order are.ordered.sorted [] are.order refl) begins n within (settled (defines c n within)))
    where
      begins : (m : ℕ) → m < first_gate c + length c.gates → (m < first_gate c) ⊎ ((k : ℕ) × (m ≡ first_gate c + k) × Contains [] k)
          → flag_at start m ≡ held (variable_at c m)
      begins m inside (inl low) = given_part (replicate (length c.gates) false) m low
      begins m inside (inr gate) = absurd (omega (arith, gate.2.1))

      settled : Defines c n → (n < first_gate c) ⊎ ((k : ℕ) × (n ≡ first_gate c + k) × Contains are.order k)
      settled (of_false none) = inl (omega (arith, none))
      settled (of_input k small is_input) = inl (omega (arith, small, is_input))
      settled (of_latch k small is_latch) = inl (omega (arith, small, is_latch))
      settled (of_gate k small is_gate) = inr (k, is_gate, are.ordered.whole k (omega (arith, small, are.numbered.long)))

  values_long : length values ≡ first_gate c + length c.gates
  unfolding values start
  values_long = evaluated_long steps start ∙ start_long

  pub values_are : AreValues c inputs latches values
  unfolding held
  values_are = record {
    held = held;
    round = round;
    by_variable = ext_get_or false values (map held (defined_variables c)) (values_long ∙ sym (length-map (defined_variables c) held ∙ variables_long c))
        (λ n within. let small : n < first_gate c + length c.gates = omega (arith, within, values_long) in
        agrees n small ∙ sym (get_or-map held (defined_variables c) n 0 false (omega (arith, small, variables_long c))));
    given = ext_get_or false values (false ∷ (inputs ++ (latches ++ gates))) (values_long ∙ sym given_long)
        (λ n within. let small : n < first_gate c + length c.gates = omega (arith, within, values_long) in
        agrees n small ∙ sym (given_at n small (defines c n small)));
  }
    where
      given_long : length (false ∷ (inputs ++ (latches ++ gates))) ≡ first_gate c + length c.gates
      given_long = let e = parts_long inputs latches (map (gate_value held) c.gates) in omega (arith, e, length-map c.gates (gate_value held), all_inputs, all_latches)

      given_at : (n : ℕ) → n < first_gate c + length c.gates → Defines c n → flag_at (false ∷ (inputs ++ (latches ++ gates))) n ≡ held (variable_at c n)
      given_at n small (of_false none) = given_part gates n (omega (arith, none))
      given_at n small (of_input k low is_input) = given_part gates n (omega (arith, low, is_input))
      given_at n small (of_latch k low is_latch) = given_part gates n (omega (arith, low, is_latch))
      given_at n small (of_gate k low is_gate) =
          part_rest inputs latches gates n k (omega (arith, is_gate, all_inputs, all_latches))
          ∙ of_gates k low
          ∙ sym (round.gates k (record { literal = 0; left = 0; right = 0 }) low)
          ∙ ap held (sym (gate_variable c n k is_gate low))
        where
          of_gates : (m : ℕ) → m < length c.gates → flag_at gates m ≡ gate_value held (gate_at c.gates m)
          of_gates m less = get_or-map (gate_value held) c.gates m (record { literal = 0; left = 0; right = 0 }) false less

  -- the same of values that were made so
  pub evaluated_are : (begun result : List Bool) → begun ≡ false ∷ (inputs ++ (latches ++ replicate (length c.gates) false)) → result ≡ evaluated steps begun → AreValues c inputs latches result
  unfolding values
  evaluated_are begun result is_begun is_result = subst (AreValues c inputs latches) (sym (is_result ∙ ap (evaluated steps) is_begun)) values_are

  -- and they were as many as there are numbers
  pub begun_long : (begun : List Bool) → begun ≡ false ∷ (inputs ++ (latches ++ replicate (length c.gates) false)) → length begun ≡ first_gate c + length c.gates
  unfolding start
  begun_long begun is_begun = ap length is_begun ∙ start_long
