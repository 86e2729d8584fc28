-- The text of a canonical form is read back to it.
use Rattle.std.proofs.Common.{◌≤◌, ℕ, List, length, subst, sym}
use Rattle.omega_aiger.specs.BinaryText.{BinaryCircuitsAreRead, SameCircuitsAreWritable, binary_text}
use Rattle.omega_aiger.specs.Text.{IsCircuitText}
use Rattle.omega_aiger.specs.Written.{WrittenCircuitsAreRead, ascii_text}
use Rattle.omega_answers_circuit.specs.Canon.{IsCanonicalText, IsCanonicalTextRead}
use Rattle.omega_answers_circuit.specs.Circuit.{circuit_text}
use Rattle.omega_answers_circuit.specs.declared.circuit_form.CircuitForm.{CircuitForm}
use Rattle.omega_answers_circuit.specs.declared.circuit_form.CircuitForm.TheVariants.{Ascii, Binary}
use Rattle.omega_circuit.specs.Circuit.{CircuitValue}
use Rattle.omega_text.specs.Limits.{most_text}

module _ (writable : SameCircuitsAreWritable) (ascii : WrittenCircuitsAreRead) (binary : BinaryCircuitsAreRead) where
  -- the text in a form, if it is short
  back_of : (form : CircuitForm) (text : List ℕ) (c : CircuitValue) (output : List ℕ) → IsCircuitText text c
      → (made : IsCanonicalText form c output) → length (circuit_text form made.canonical) ≤ most_text
      → IsCircuitText (circuit_text form made.canonical) made.canonical
  back_of Ascii text c output read made short =
      let is = made.canonical_is in
      ascii made.canonical (writable text c made.canonical read is.circuit is.same ascii_text short)
  back_of Binary text c output read made short =
      let is = made.canonical_is in
      binary made.canonical is.shape (writable text c made.canonical read is.circuit is.same binary_text short)

  -- so it is what `canon` answers
  pub canonical_read : (form : CircuitForm) (text : List ℕ) (c : CircuitValue) (output : List ℕ) → IsCircuitText text c
      → IsCanonicalText form c output → IsCanonicalTextRead form c output
  canonical_read form text c output read made = record {
    text = made;
    read = subst (λ (l : List ℕ). IsCircuitText l made.canonical) (sym made.written)
        (back_of form text c output read made (subst (λ (l : List ℕ). length l ≤ most_text) made.written made.short));
  }
