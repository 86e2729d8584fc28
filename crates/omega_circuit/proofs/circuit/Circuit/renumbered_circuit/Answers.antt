-- The canonical form is made of numbers in the order of the wires.
use Rattle.std.proofs.Common.{◌≡◌, ◌+◌, ◌/◌, ℕ, List, All, length, map, refl, sym, ap, ◌∙◌, subst, arith}
use Rattle.std.specs.List.{Contains}
use Rattle.std.proofs.lemmas.List.{length-map}
use Rattle.omega_circuit.specs.Canonical.{IsCanonicalCircuit, MeanTheSame, literals_from}
use Rattle.omega_circuit.specs.Circuit.{CircuitValue}
use Rattle.omega_circuit.specs.private.Numbers.{AreNets, AreNumbered, first_gate, next_literals}
use Rattle.omega_circuit.specs.private.Renumbered.{AreLatchesFrom, AreReady, IsNumbering, greater_first}
use Rattle.omega_circuit.specs.private.Steps.{circuit_with}
use Rattle.omega_circuit.specs.declared.gate.Gate.{Gate}
use Rattle.omega_circuit.specs.declared.latch.Latch.{Latch}
use Rattle.omega_circuit.proofs.Canonicals.{same_lists}
use Rattle.omega_circuit.proofs.Remaking.{IsRemade, long_inputs, long_latches, nets_long, nets_there, read_there, remade, same_numbering, steps_ready, whole_long}
use Rattle.omega_circuit.proofs.circuit.Circuit.renumbered_circuit.Goals as goal
use Rattle.omega_circuit.proofs.circuit.Circuit.renumbered_circuit.Goals.{After-as_slice, In_ok-numbers, In_ok-symbols}

-- once the variables of the first latch and gate are known
module _ (c : After-as_slice) where
  abbrev held_circuit : CircuitValue
  held_circuit = let inside = c.self.inside in circuit_with inside.inputs inside.latches inside.outputs inside.gates inside.symbols

  first_is : 1 + length c.inputs.result.now + length c.latches.result.now ≡ first_gate held_circuit
  first_is =
      let i = long_inputs held_circuit c.args.self.now c.inputs.result.now c.self.view_is c.inputs.ensures in
      let l = long_latches held_circuit c.args.self.now c.latches.result.now c.self.view_is c.latches.ensures in
      omega (arith, i, l)

-- once there is a numbering
module _ (c : In_ok-numbers) where
  abbrev numbered_circuit : CircuitValue
  numbered_circuit = let inside = c.self.inside in circuit_with inside.inputs inside.latches inside.outputs inside.gates inside.symbols

  numbering : IsNumbering (first_gate numbered_circuit) c.self.inside.wires.gates.items c.in_ok-numbers.numbers.keys c.in_ok-numbers.nets.items
  numbering =
      let i = long_inputs numbered_circuit c.args.self.now c.inputs.result.now c.self.view_is c.inputs.ensures in
      let l = long_latches numbered_circuit c.args.self.now c.latches.result.now c.self.view_is c.latches.ensures in
      same_numbering (first_gate numbered_circuit) (1 + length c.inputs.result.now + length c.latches.result.now) c.self.inside.wires.gates.items c.as_slice.result.now
      c.in_ok-numbers.numbers.keys c.in_ok-numbers.nets.items (omega (arith, i, l)) c.as_slice.ensures.value c.in_ok-numbers.ensures

  -- it has all numbers
  all_there : length c.in_ok-numbers.numbers.keys ≡ first_gate numbered_circuit + length numbered_circuit.gates
  all_there = whole_long numbered_circuit c.self.inside.wires.gates.items c.self.invariant.1 c.self.invariant.0 c.in_ok-numbers.numbers.keys c.in_ok-numbers.nets.items numbering

-- once all parts are made
remade_here : (c : In_ok-symbols) → IsRemade
    (circuit_with c.self.inside.inputs c.self.inside.latches c.self.inside.outputs c.self.inside.gates c.self.inside.symbols)
    (circuit_with c.in_ok-inputs.inputs.items c.in_ok-latches.latches.items c.in_ok-outputs.outputs.items c.in_ok-gates.gates.items c.in_ok-symbols.symbols.items)
remade_here c =
    let inside = c.self.inside in
    let v : CircuitValue = circuit_with inside.inputs inside.latches inside.outputs inside.gates inside.symbols in
    let i = long_inputs v c.args.self.now c.inputs.result.now c.self.view_is c.inputs.ensures in
    let l = long_latches v c.args.self.now c.latches.result.now c.self.view_is c.latches.ensures in
    let is_first : 1 + length c.inputs.result.now + length c.latches.result.now ≡ first_gate v = omega (arith, i, l) in
    let steps : List Gate = inside.wires.gates.items in
    let numbers : List ℕ = c.in_ok-numbers.numbers.keys in
    let nets : List Gate = c.in_ok-numbers.nets.items in
    let numbering : IsNumbering (first_gate v) steps numbers nets =
    same_numbering (first_gate v) (1 + length c.inputs.result.now + length c.latches.result.now) steps c.as_slice.result.now numbers nets is_first c.as_slice.ensures.value c.in_ok-numbers.ensures in
    let nexts_made : AreNumbered numbers inside.wires.reads.nexts.items c.in_ok-nexts.nexts.items =
    subst (λ (read : List ℕ). AreNumbered numbers read c.in_ok-nexts.nexts.items) c.as_slice-2.ensures.value c.in_ok-nexts.ensures in
    let outputs_made : AreNumbered numbers inside.wires.reads.outputs.items c.in_ok-outputs.outputs.items =
    subst (λ (read : List ℕ). AreNumbered numbers read c.in_ok-outputs.outputs.items) c.as_slice-3.ensures.value c.in_ok-outputs.ensures in
    let gates : List Gate = c.in_ok-gates.ensures.0 in
    let gates_made : AreNets numbers (first_gate v) nets gates =
    subst (λ n. AreNets numbers n nets gates) is_first (subst (λ (seen : List Gate). AreNets numbers (1 + length c.inputs.result.now + length c.latches.result.now) seen gates) c.as_slice-4.ensures.value c.in_ok-gates.ensures.1) in
    let old_latches : c.latches-2.result.now ≡ v.latches = c.latches-2.ensures ∙ ap (λ (x : CircuitValue). x.latches) (sym c.self.view_is) in
    let latches_made : AreLatchesFrom (1 + length v.inputs) v.latches c.in_ok-nexts.nexts.items c.in_ok-latches.latches.items =
    subst (λ n. AreLatchesFrom n v.latches c.in_ok-nexts.nexts.items c.in_ok-latches.latches.items) (let e : 1 + length c.inputs.result.now ≡ 1 + length v.inputs = omega (arith, i) in e)
    (subst (λ (latches : List Latch). AreLatchesFrom (1 + length c.inputs.result.now) latches c.in_ok-nexts.nexts.items c.in_ok-latches.latches.items) old_latches
    (subst (λ (nexts : List ℕ). AreLatchesFrom (1 + length c.inputs.result.now) c.latches-2.result.now nexts c.in_ok-latches.latches.items) c.as_slice-5.ensures.value c.in_ok-latches.ensures)) in
    let inputs : c.in_ok-inputs.inputs.items ≡ literals_from 1 (length v.inputs) =
    c.in_ok-inputs.ensures ∙ ap (literals_from 1) (ap (λ (xs : List ℕ). length xs) c.inputs-2.ensures ∙ ap (λ (x : CircuitValue). length x.inputs) (sym c.self.view_is)) in
    let symbols : c.in_ok-symbols.symbols.items ≡ v.symbols = c.in_ok-symbols.ensures ∙ c.symbols.ensures ∙ ap (λ (x : CircuitValue). x.symbols) (sym c.self.view_is) in
    let lists : circuit_with c.in_ok-inputs.inputs.items c.in_ok-latches.latches.items c.in_ok-outputs.outputs.items c.in_ok-gates.gates.items c.in_ok-symbols.symbols.items
    ≡ circuit_with (literals_from 1 (length v.inputs)) c.in_ok-latches.latches.items c.in_ok-outputs.outputs.items (map greater_first gates) v.symbols =
    same_lists c.in_ok-inputs.inputs.items (literals_from 1 (length v.inputs)) c.in_ok-latches.latches.items c.in_ok-latches.latches.items c.in_ok-outputs.outputs.items c.in_ok-outputs.outputs.items
    c.in_ok-gates.gates.items (map greater_first gates) c.in_ok-symbols.symbols.items v.symbols inputs refl refl c.in_ok-gates.ensures.2 symbols in
    subst (IsRemade v) (sym lists)
    (remade v steps c.self.invariant.1 c.self.invariant.0 numbers nets numbering c.in_ok-nexts.nexts.items c.in_ok-outputs.outputs.items inside.wires.reads.nexts.items inside.wires.reads.outputs.items c.in_ok-latches.latches.items gates
    c.self.invariant.2.nexts nexts_made c.self.invariant.2.outputs outputs_made latches_made gates_made)

pub numbering_of-requires-clause-first : goal.numbering_of-requires-clause-first
numbering_of-requires-clause-first c = let first = first_is (goal.at.numbering_of-requires-clause-first c).After-as_slice in let few = c.self.invariant.0.few in omega (arith, few, first)

pub numbering_of-requires-clause-ready : goal.numbering_of-requires-clause-ready
numbering_of-requires-clause-ready c =
    let after = (goal.at.numbering_of-requires-clause-ready c).After-as_slice in
    subst (λ n. AreReady n c.as_slice.result.now) (sym (first_is after))
    (subst (AreReady (first_gate (held_circuit after))) (sym c.as_slice.ensures.value) (steps_ready (held_circuit after) c.self.inside.wires.gates.items c.self.invariant.1))

pub all_numbers-requires-clause-few : goal.all_numbers-requires-clause-few
all_numbers-requires-clause-few c = let long = all_there (goal.at.all_numbers-requires-clause-few c).In_ok-numbers in let few = c.self.invariant.0.few in omega (arith, long, few)

pub all_numbers-requires-clause-there : goal.all_numbers-requires-clause-there
all_numbers-requires-clause-there c =
    let after = (goal.at.all_numbers-requires-clause-there c).In_ok-numbers in
    subst (λ (read : List ℕ). All (λ number. Contains c.in_ok-numbers.numbers.keys (number / 2)) read) (sym c.as_slice-2.ensures.value)
    (read_there (numbered_circuit after) c.self.inside.wires.gates.items c.self.invariant.1 c.self.invariant.0 c.in_ok-numbers.numbers.keys c.in_ok-numbers.nets.items (numbering after)
    (next_literals (numbered_circuit after).latches) c.self.inside.wires.reads.nexts.items c.self.invariant.2.nexts)

pub all_numbers-requires-2-clause-few : goal.all_numbers-requires-2-clause-few
all_numbers-requires-2-clause-few c = let long = all_there (goal.at.all_numbers-requires-2-clause-few c).In_ok-numbers in let few = c.self.invariant.0.few in omega (arith, long, few)

pub all_numbers-requires-2-clause-there : goal.all_numbers-requires-2-clause-there
all_numbers-requires-2-clause-there c =
    let after = (goal.at.all_numbers-requires-2-clause-there c).In_ok-numbers in
    subst (λ (read : List ℕ). All (λ number. Contains c.in_ok-numbers.numbers.keys (number / 2)) read) (sym c.as_slice-3.ensures.value)
    (read_there (numbered_circuit after) c.self.inside.wires.gates.items c.self.invariant.1 c.self.invariant.0 c.in_ok-numbers.numbers.keys c.in_ok-numbers.nets.items (numbering after)
    (numbered_circuit after).outputs c.self.inside.wires.reads.outputs.items c.self.invariant.2.outputs)

pub gates_of-requires-clause-few : goal.gates_of-requires-clause-few
gates_of-requires-clause-few c = let long = all_there (goal.at.gates_of-requires-clause-few c).In_ok-numbers in let few = c.self.invariant.0.few in omega (arith, long, few)

pub gates_of-requires-clause-room : goal.gates_of-requires-clause-room
gates_of-requires-clause-room c =
    let after = (goal.at.gates_of-requires-clause-room c).In_ok-numbers in
    let few = c.self.invariant.0.few in
    let first = first_is (goal.at.gates_of-requires-clause-room c).After-as_slice in
    let n = nets_long (numbered_circuit after) c.self.inside.wires.gates.items c.self.invariant.1 c.self.invariant.0 c.in_ok-numbers.numbers.keys c.in_ok-numbers.nets.items (numbering after) in
    let s : length c.as_slice-4.result.now ≡ length c.in_ok-numbers.nets.items = ap (λ (xs : List Gate). length xs) c.as_slice-4.ensures.value in
    omega (arith, n, s, first, few)

pub gates_of-requires-clause-there : goal.gates_of-requires-clause-there
gates_of-requires-clause-there c =
    let after = (goal.at.gates_of-requires-clause-there c).In_ok-numbers in
    subst (λ (all : List Gate). All (λ (net : Gate). Contains c.in_ok-numbers.numbers.keys (net.left / 2) × Contains c.in_ok-numbers.numbers.keys (net.right / 2)) all) (sym c.as_slice-4.ensures.value)
    (nets_there (numbered_circuit after) c.self.inside.wires.gates.items c.self.invariant.1 c.self.invariant.0 c.in_ok-numbers.numbers.keys c.in_ok-numbers.nets.items (numbering after))

pub input_literals-requires : goal.input_literals-requires
input_literals-requires c =
    let after = (goal.at.input_literals-requires c).After-as_slice in
    let few = c.self.invariant.0.few in
    let i = long_inputs (held_circuit after) c.args.self.now c.inputs-2.result.now c.self.view_is c.inputs-2.ensures in
    omega (arith, i, few)

pub latches_from-requires-clause-room : goal.latches_from-requires-clause-room
latches_from-requires-clause-room c =
    let after = (goal.at.latches_from-requires-clause-room c).After-as_slice in
    let few = c.self.invariant.0.few in
    let i = long_inputs (held_circuit after) c.args.self.now c.inputs.result.now c.self.view_is c.inputs.ensures in
    let l = long_latches (held_circuit after) c.args.self.now c.latches-2.result.now c.self.view_is c.latches-2.ensures in
    omega (arith, i, l, few)

pub latches_from-requires-clause-nexts : goal.latches_from-requires-clause-nexts
latches_from-requires-clause-nexts c =
    let after = (goal.at.latches_from-requires-clause-nexts c).After-as_slice in
    ap (λ (xs : List ℕ). length xs) c.as_slice-5.ensures.value ∙ c.in_ok-nexts.ensures.long ∙ ap (λ (xs : List ℕ). length xs) c.as_slice-2.ensures.value
    ∙ c.self.invariant.2.nexts.long ∙ length-map (held_circuit after).latches (λ (latch : Latch). latch.next)
    ∙ sym (long_latches (held_circuit after) c.args.self.now c.latches-2.result.now c.self.view_is c.latches-2.ensures)

pub circuit_of_lists-requires-clause-shape : goal.circuit_of_lists-requires-clause-shape
circuit_of_lists-requires-clause-shape c = (remade_here (goal.at.circuit_of_lists-requires-clause-shape c).In_ok-symbols).shape

pub circuit_of_lists-requires-clause-circuit : goal.circuit_of_lists-requires-clause-circuit
circuit_of_lists-requires-clause-circuit c = (remade_here (goal.at.circuit_of_lists-requires-clause-circuit c).In_ok-symbols).circuit

pub returns-clause-shape : goal.returns-clause-shape
returns-clause-shape c = subst IsCanonicalCircuit (sym c.in_ok-made.ensures) (remade_here (goal.at.returns-clause-shape c).In_ok-symbols).shape

pub returns-clause-same : goal.returns-clause-same
returns-clause-same c =
    let whole : CircuitValue = held_circuit (goal.at.returns-clause-same c).After-as_slice in
    subst (λ (x : CircuitValue). MeanTheSame x c.in_ok-made.made) c.self.view_is
    (subst (MeanTheSame whole) (sym c.in_ok-made.ensures) (remade_here (goal.at.returns-clause-same c).In_ok-symbols).same)
