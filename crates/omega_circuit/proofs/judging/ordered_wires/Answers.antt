-- The faults from the fifth on, in their order.
use Rattle.std.proofs.Common.{ℕ, List, Vec, refl, sym, subst, ◌∙◌}
use Rattle.std.specs.Global.{Global}
use Rattle.std.proofs.lemmas.Bool.{false≢true}
use Rattle.std.proofs.lemmas.Option.{MatchOption-at_none, MatchOption-at_some}
use Rattle.omega_circuit.specs.Circuit.{AreResets}
use Rattle.omega_circuit.specs.Faults.{value_of}
use Rattle.omega_circuit.specs.private.Orders.{IsCyclic, IsWholeOrder}
use Rattle.omega_text.specs.declared.refusal.circuit.CircuitFault.TheVariants.{Properties, Reset, Symbol}
use Rattle.omega_circuit.specs.declared.gate.Gate.{Gate}
use Rattle.omega_circuit.proofs.Ordered.{none_of_five}
use Rattle.omega_circuit.proofs.FirstFaults.{HasNoneBelow, none_at_all, none_of_four, one_more}
use Rattle.omega_circuit.proofs.Ordering.{cyclic_refutes}
use Rattle.omega_circuit.proofs.judging.ordered_wires.Goals as goal

pub returns-in_default-clause-fault : goal.returns-in_default-clause-fault
returns-in_default-clause-fault c =
    let parts = c.args.parts.now in
    let cycle : IsCyclic c.first_gate.result c.as_slice.result.now =
    MatchOption-at_none (IsCyclic c.first_gate.result c.as_slice.result.now) (λ (order : Vec ℕ Global). Unit {0}) c.in_default.is c.in_ok-order.ensures.cycle in
    record {
      before = none_of_four parts c.in_ok-wires.ensures.room c.in_ok-wires.ensures.range c.in_ok-wires.ensures.definitions c.in_ok-wires.ensures.uses;
      has = λ is. cyclic_refutes (value_of parts) c.in_ok-wires.wires.gates.items c.in_ok-wires.ensures.wires.gates is
          (subst (λ (n : ℕ). IsCyclic n c.in_ok-wires.wires.gates.items) c.first_gate.ensures (subst (λ (nets : List Gate). IsCyclic c.first_gate.result nets) c.as_slice.ensures.value cycle));
    }

pub returns-then-not-are_resets-clause-fault : goal.returns-then-not-are_resets-clause-fault
returns-then-not-are_resets-clause-fault c =
    let parts = c.args.parts.now in
    record {
      before = none_of_five parts c.in_ok-wires.wires.gates.items c.first_gate.result c.as_slice.result.now c.in-Some.order.items c.in_ok-wires.ensures.room c.in_ok-wires.ensures.range
          c.in_ok-wires.ensures.definitions c.in_ok-wires.ensures.uses c.in_ok-wires.ensures.wires.gates c.first_gate.ensures c.as_slice.ensures.value
          (MatchOption-at_some (Unit {0}) (λ (order : Vec ℕ Global). IsWholeOrder c.first_gate.result c.as_slice.result.now order.items) c.in-Some.order c.in-Some.is c.in_ok-order.ensures.order);
      has = λ is. false≢true (sym c.if-not-are_resets.true ∙ c.are_resets.ensures.1 (subst AreResets (sym c.as_slice-2.ensures) is));
    }

pub returns-then-not-branch-clause-fault : goal.returns-then-not-branch-clause-fault
returns-then-not-branch-clause-fault c =
    let parts = c.args.parts.now in
    let five : HasNoneBelow parts 75 = none_of_five parts c.in_ok-wires.wires.gates.items c.first_gate.result c.as_slice.result.now c.in-Some.order.items c.in_ok-wires.ensures.room c.in_ok-wires.ensures.range
    c.in_ok-wires.ensures.definitions c.in_ok-wires.ensures.uses c.in_ok-wires.ensures.wires.gates c.first_gate.ensures c.as_slice.ensures.value
    (MatchOption-at_some (Unit {0}) (λ (order : Vec ℕ Global). IsWholeOrder c.first_gate.result c.as_slice.result.now order.items) c.in-Some.order c.in-Some.is c.in_ok-order.ensures.order) in
    record {
      before = one_more parts Reset 75 refl five (subst AreResets c.as_slice-2.ensures (c.are_resets.ensures.0 c.if-not-are_resets.false));
      has = λ is. false≢true (sym c.if-not-branch.true ∙ c.in_ok-are_symbols.ensures.1 is);
    }

pub returns-then-not-has_no_properties-clause-fault : goal.returns-then-not-has_no_properties-clause-fault
returns-then-not-has_no_properties-clause-fault c =
    let parts = c.args.parts.now in
    let five : HasNoneBelow parts 75 = none_of_five parts c.in_ok-wires.wires.gates.items c.first_gate.result c.as_slice.result.now c.in-Some.order.items c.in_ok-wires.ensures.room c.in_ok-wires.ensures.range
    c.in_ok-wires.ensures.definitions c.in_ok-wires.ensures.uses c.in_ok-wires.ensures.wires.gates c.first_gate.ensures c.as_slice.ensures.value
    (MatchOption-at_some (Unit {0}) (λ (order : Vec ℕ Global). IsWholeOrder c.first_gate.result c.as_slice.result.now order.items) c.in-Some.order c.in-Some.is c.in_ok-order.ensures.order) in
    let six : HasNoneBelow parts 76 = one_more parts Reset 75 refl five (subst AreResets c.as_slice-2.ensures (c.are_resets.ensures.0 c.if-not-are_resets.false)) in
    record {
      before = one_more parts Symbol 76 refl six (c.in_ok-are_symbols.ensures.0 c.if-not-branch.false);
      has = λ is. false≢true (sym c.if-not-has_no_properties.true ∙ c.has_no_properties.ensures.1 is);
    }

pub returns-clause-faultless : goal.returns-clause-faultless
returns-clause-faultless c =
    let parts = c.args.parts.now in
    let five : HasNoneBelow parts 75 = none_of_five parts c.in_ok-wires.wires.gates.items c.first_gate.result c.as_slice.result.now c.in-Some.order.items c.in_ok-wires.ensures.room c.in_ok-wires.ensures.range
    c.in_ok-wires.ensures.definitions c.in_ok-wires.ensures.uses c.in_ok-wires.ensures.wires.gates c.first_gate.ensures c.as_slice.ensures.value
    (MatchOption-at_some (Unit {0}) (λ (order : Vec ℕ Global). IsWholeOrder c.first_gate.result c.as_slice.result.now order.items) c.in-Some.order c.in-Some.is c.in_ok-order.ensures.order) in
    let six : HasNoneBelow parts 76 = one_more parts Reset 75 refl five (subst AreResets c.as_slice-2.ensures (c.are_resets.ensures.0 c.if-not-are_resets.false)) in
    let seven : HasNoneBelow parts 77 = one_more parts Symbol 76 refl six (c.in_ok-are_symbols.ensures.0 c.if-not-branch.false) in
    none_at_all parts (one_more parts Properties 77 refl seven (c.has_no_properties.ensures.0 c.if-not-has_no_properties.false))
