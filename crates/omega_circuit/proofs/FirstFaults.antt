-- The first fault of parts, found in the order of the numbers, and the circuit of parts without faults.
use Rattle.std.proofs.Common.{◌≡◌, ◌⊎◌, inl, inr, ℕ, ◌+◌, ◌*◌, ◌/◌, ◌<◌, ◌≤◌, ◌==◌, cond, get_or, All, refl, sym, ap, ◌∙◌, subst, arith}
use Rattle.std.proofs.lemmas.Bool.{cases_lt}
use Rattle.std.proofs.lemmas.List.{get_or_default}
use Rattle.omega_circuit.specs.Circuit.{CircuitValue, IsCircuit, defined_variables}
use Rattle.omega_text.specs.Refusal.{circuit_number}
use Rattle.omega_circuit.specs.Faults.{AreInRange, HasRoom, IsFirstFault, IsWithout, value_of}
use Rattle.omega_circuit.specs.Laws.{PartsAreJudged}
use Rattle.omega_circuit.specs.Limits.{most_variables}
use Rattle.omega_circuit.specs.private.Numbers.{gate_at}
use Rattle.omega_text.specs.declared.refusal.circuit.CircuitFault.{CircuitFault}
use Rattle.omega_text.specs.declared.refusal.circuit.CircuitFault.TheVariants.{Cycle, Defined, LiteralRange, Name, Properties, Reset, Symbol, Undefined, Variables}
use Rattle.omega_circuit.specs.declared.parts.CircuitParts.{CircuitParts}
use Rattle.omega_circuit.proofs.Definitions.{Defines, defines, gate_variable, input_at, latch_at, latch_variable, of_false, of_gate, of_input, of_latch, variable_at, variables_long}

-- the fault of a number
fault_of : ℕ → CircuitFault
fault_of n = cond (n == 70) Variables (cond (n == 71) LiteralRange (cond (n == 72) Defined (cond (n == 73) Undefined
    (cond (n == 74) Cycle (cond (n == 75) Reset (cond (n == 76) Symbol (cond (n == 77) Properties Name)))))))

fault_back : (fault : CircuitFault) → fault_of (circuit_number fault) ≡ fault
unfolding fault_of
fault_back Variables = refl
fault_back LiteralRange = refl
fault_back Defined = refl
fault_back Undefined = refl
fault_back Cycle = refl
fault_back Reset = refl
fault_back Symbol = refl
fault_back Properties = refl
fault_back Name = refl

-- numbers tell faults apart
pub same_fault : (fault other : CircuitFault) → circuit_number fault ≡ circuit_number other → fault ≡ other
same_fault fault other same = sym (fault_back fault) ∙ ap fault_of same ∙ fault_back other

-- parts have no fault of a number below this
abbrev pub HasNoneBelow : CircuitParts → ℕ → Type 0
HasNoneBelow parts n = (other : CircuitFault) → circuit_number other < n → IsWithout other parts

pub none_yet : (parts : CircuitParts) → HasNoneBelow parts 70
none_yet parts Variables less = absurd (omega (arith, less))
none_yet parts LiteralRange less = absurd (omega (arith, less))
none_yet parts Defined less = absurd (omega (arith, less))
none_yet parts Undefined less = absurd (omega (arith, less))
none_yet parts Cycle less = absurd (omega (arith, less))
none_yet parts Reset less = absurd (omega (arith, less))
none_yet parts Symbol less = absurd (omega (arith, less))
none_yet parts Properties less = absurd (omega (arith, less))
none_yet parts Name less = absurd (omega (arith, less))

-- one fault more is not there
pub one_more : (parts : CircuitParts) (fault : CircuitFault) (n : ℕ) → circuit_number fault ≡ n → HasNoneBelow parts n → IsWithout fault parts → HasNoneBelow parts (n + 1)
one_more parts fault n is none without other less = go (cases_lt (circuit_number other) n)
  where
    go : (circuit_number other < n) ⊎ (n ≤ circuit_number other) → IsWithout other parts
    go (inl before) = none other before
    go (inr past) = subst (λ f. IsWithout f parts) (same_fault fault other (omega (arith, is, less, past))) without

-- none at all
pub none_at_all : (parts : CircuitParts) → HasNoneBelow parts 78 → (fault : CircuitFault) → IsWithout fault parts
none_at_all parts none Variables = none Variables (omega arith)
none_at_all parts none LiteralRange = none LiteralRange (omega arith)
none_at_all parts none Defined = none Defined (omega arith)
none_at_all parts none Undefined = none Undefined (omega arith)
none_at_all parts none Cycle = none Cycle (omega arith)
none_at_all parts none Reset = none Reset (omega arith)
none_at_all parts none Symbol = none Symbol (omega arith)
none_at_all parts none Properties = none Properties (omega arith)
none_at_all parts none Name = tt

-- the first four faults are not there
pub none_of_four : (parts : CircuitParts) → IsWithout Variables parts → IsWithout LiteralRange parts → IsWithout Defined parts → IsWithout Undefined parts → HasNoneBelow parts 74
none_of_four parts room range definitions uses =
    one_more parts Undefined 73 refl (one_more parts Defined 72 refl (one_more parts LiteralRange 71 refl (one_more parts Variables 70 refl (none_yet parts) room) range) definitions) uses

-- all variables that parts without the first two faults define are small
pub small_variables : (parts : CircuitParts) → HasRoom parts → AreInRange parts → All (λ variable. variable ≤ most_variables) (defined_variables (value_of parts))
small_variables parts room range k d within =
    subst (λ v. v ≤ most_variables) (get_or_default (defined_variables c) k 0 d within) (go (defines c k (omega (arith, within, variables_long c))))
  where
    c : CircuitValue
    c = value_of parts

    half : (literal : ℕ) → literal ≤ 2 * parts.most_variable + 1 → literal / 2 ≤ most_variables
    half literal low = omega (arith, low, room.few)

    go : Defines c k → variable_at c k ≤ most_variables
    go (of_false none) = subst (λ n. variable_at c n ≤ most_variables) (sym none) (omega arith)
    go (of_input i small is) = subst (λ v. v ≤ most_variables) (sym (ap (variable_at c) is ∙ input_at c i small)) (half (get_or parts.inputs i 0) (range.inputs i 0 small))
    go (of_latch i small is) = subst (λ v. v ≤ most_variables) (sym (latch_variable c k i is small)) (half (latch_at parts.latches i).literal (range.latches i (record { literal = 0; next = 0; reset = 0 }) small).0)
    go (of_gate i small is) = subst (λ v. v ≤ most_variables) (sym (gate_variable c k i is small)) (half (gate_at parts.gates i).literal (range.gates i (record { literal = 0; left = 0; right = 0 }) small).0)

-- what parts without faults make is a circuit
pub faultless_is_circuit : (parts : CircuitParts) → ((fault : CircuitFault) → IsWithout fault parts) → IsCircuit (value_of parts)
faultless_is_circuit parts none = record {
  few = let room = none Variables in omega (arith, room.enough, room.few);
  small = small_variables parts (none Variables) (none LiteralRange);
  definitions = none Defined;
  complete = (none Undefined).circuit;
  acyclic = none Cycle;
  resets = none Reset;
  names = (none Symbol).circuit;
}

pub judged : (parts : CircuitParts) → PartsAreJudged parts
judged parts = record {
  one = λ fault other is also. one fault other is also (cases_lt (circuit_number fault) (circuit_number other));
  apart = λ fault c is made. is.has (made.faultless fault);
  circuit = λ c made. subst IsCircuit (sym made.same) (faultless_is_circuit parts made.faultless);
}
  where
    not_before : (fault other : CircuitFault) → IsFirstFault parts fault → IsFirstFault parts other → (circuit_number other < circuit_number fault) ⊎ (circuit_number fault ≤ circuit_number other)
        → circuit_number fault ≤ circuit_number other
    not_before fault other is also (inl before) = absurd (also.has (is.before other before))
    not_before fault other is also (inr past) = past

    one : (fault other : CircuitFault) → IsFirstFault parts fault → IsFirstFault parts other → (circuit_number fault < circuit_number other) ⊎ (circuit_number other ≤ circuit_number fault)
        → fault ≡ other
    one fault other is also (inl before) = absurd (is.has (also.before fault before))
    one fault other is also (inr past) =
        let other_way = not_before fault other is also (cases_lt (circuit_number other) (circuit_number fault)) in
        same_fault fault other (omega (arith, past, other_way))
