-- Circuits over the names of propositions: what a circuit that means the same is over, and that their texts are read.
use Rattle.std.proofs.Common.{◌≡◌, ◌∙◌, ℕ, ◌<◌, ◌≤◌, true, false, List, length, get_or, refl, sym, ap, subst, arith}
use Rattle.std.specs.Prelude.{All}
use Rattle.std.proofs.lemmas.List.{get_or-map, length-map}
use Rattle.std.proofs.lemmas.List.Elements.{All-weaker}
use Rattle.omega_aiger.specs.BinaryText.{BinaryCircuitsAreRead, binary_text}
use Rattle.omega_aiger.specs.Text.{IsCircuitText}
use Rattle.omega_aiger.specs.Written.{IsWritableAs, WrittenCircuitsAreRead, ascii_text}
use Rattle.omega_answers_circuit.specs.Circuit.{circuit_text}
use Rattle.omega_answers_circuit.specs.ControllerCircuit.{IsCircuitOver}
use Rattle.omega_answers_circuit.specs.declared.circuit_form.CircuitForm.{CircuitForm}
use Rattle.omega_answers_circuit.specs.declared.circuit_form.CircuitForm.TheVariants.{Ascii, Binary}
use Rattle.omega_answers_circuit.proofs.NamedSymbols.{IsOneLine, IsPlainBelow, both_plain, kinds_apart, side_short}
use Rattle.omega_circuit.specs.Canonical.{IsCanonicalCircuit, MeanTheSame}
use Rattle.omega_circuit.specs.Circuit.{CircuitValue, IsCircuit, positions_of}
use Rattle.omega_circuit.specs.declared.latch.Latch.{Latch}
use Rattle.omega_circuit.specs.declared.symbol.Symbol.{Symbol}
use Rattle.omega_circuit.specs.declared.symbol.SymbolKind.TheVariants.{Bad, Constraint, Fairness, Input, Justice, Output}
use Rattle.omega_circuit_encoder.specs.Canonical.{IsCanonical}
use Rattle.omega_circuit_encoder.specs.Names.{HasNamesOf, IsSymbolName, names_of}
use Rattle.omega_hoa_automaton.specs.Limits.{most_propositions}
use Rattle.omega_text.specs.Limits.{most_number, most_text}

-- each latch begins with 0, if those of a circuit with the same resets do
starts_same : (c d : CircuitValue) → IsCanonical c → MeanTheSame c d → All (λ (latch : Latch). latch.reset ≡ 0) d.latches
starts_same c d is same k e low =
    let long : length c.latches ≡ length d.latches =
    sym (length-map c.latches (λ (latch : Latch). latch.reset)) ∙ (ap length same.resets ∙ length-map d.latches (λ (latch : Latch). latch.reset)) in
    let within : k < length c.latches = omega (arith, long, low) in
    sym (get_or-map (λ (latch : Latch). latch.reset) d.latches k e 0 low)
    ∙ (ap (λ (numbers : List ℕ). get_or numbers k 0) (sym same.resets)
    ∙ (get_or-map (λ (latch : Latch). latch.reset) c.latches k e 0 within ∙ (is.latches k e within).reset))

-- what means the same as a circuit over names is over them
pub over_same : (names : List (List ℕ)) (controlled : List ℕ) (c d : CircuitValue) → All IsSymbolName names → IsCanonical c → HasNamesOf names controlled c
    → IsCircuit d → IsCanonicalCircuit d → MeanTheSame c d → IsCircuitOver names controlled d
over_same names controlled c d all is named circuit shape same = record {
  circuit = circuit;
  shape = shape;
  named = record {
    inputs = sym same.inputs ∙ named.inputs;
    outputs = sym same.outputs ∙ named.outputs;
    symbols = sym same.symbols ∙ named.symbols;
  };
  starts = starts_same c d is same;
  writable = all;
}

module _ (names : List (List ℕ)) (controlled : List ℕ) (d : CircuitValue) (few : length names ≤ most_propositions)
    (over : IsCircuitOver names controlled d) where
  plain : All (IsPlainBelow (length names)) d.symbols
  plain = subst (All (IsPlainBelow (length names))) (sym over.named.symbols) (both_plain Input Output names controlled over.writable)

  -- its text can be written, if it is short
  writable : (text : CircuitValue → List ℕ) → length (text d) ≤ most_text → IsWritableAs text d
  writable text short = record {
    circuit = over.circuit;
    names = All-weaker (IsPlainBelow (length names)) (λ (symbol : Symbol). IsOneLine symbol.name) (λ symbol is. is.0) d.symbols plain;
    positions = All-weaker (IsPlainBelow (length names)) (λ (symbol : Symbol). symbol.position ≤ most_number) (λ symbol is. omega (arith, is.1, few)) d.symbols plain;
    bad = ap (positions_of Bad) over.named.symbols ∙ kinds_apart Input Output Bad refl refl (names_of false names controlled) (names_of true names controlled);
    constraints = ap (positions_of Constraint) over.named.symbols ∙ kinds_apart Input Output Constraint refl refl (names_of false names controlled) (names_of true names controlled);
    justice = ap (positions_of Justice) over.named.symbols ∙ kinds_apart Input Output Justice refl refl (names_of false names controlled) (names_of true names controlled);
    fairness = ap (positions_of Fairness) over.named.symbols ∙ kinds_apart Input Output Fairness refl refl (names_of false names controlled) (names_of true names controlled);
    outputs = omega (arith, over.named.outputs, side_short true names controlled, few);
    short = short;
  }

  -- so it is read
  pub text_read : WrittenCircuitsAreRead → BinaryCircuitsAreRead → (form : CircuitForm) → length (circuit_text form d) ≤ most_text
      → IsCircuitText (circuit_text form d) d
  text_read ascii binary Ascii short = ascii d (writable ascii_text short)
  text_read ascii binary Binary short = binary d over.shape (writable binary_text short)
