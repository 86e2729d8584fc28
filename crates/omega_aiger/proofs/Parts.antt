-- Parts with the same lists, and the first fault of parts that are not dense.
use Rattle.std.proofs.Common.{◌≡◌, ℕ, Bool, true, List, length, refl, sym, ap, ◌∙◌, arith}
use Rattle.std.specs.List.{range_with_len}
use Rattle.std.proofs.lemmas.List.{length-map}
use Rattle.std.proofs.lemmas.List.FromFn.{length-range_with_len}
use Rattle.omega_aiger.specs.Deltas.{literal_of}
use Rattle.omega_aiger.specs.Forms.{Counts, first_literals}
use Rattle.omega_aiger.specs.private.Headers.{IsDense}
use Rattle.omega_circuit.specs.Faults.{IsFirstFault}
use Rattle.omega_circuit.specs.declared.gate.Gate.{Gate}
use Rattle.omega_circuit.specs.declared.latch.Latch.{Latch}
use Rattle.omega_circuit.specs.declared.parts.CircuitParts.{CircuitParts}
use Rattle.omega_circuit.specs.declared.properties.Properties.{Properties}
use Rattle.omega_circuit.specs.declared.symbol.Symbol.{Symbol}
use Rattle.omega_circuit.proofs.FirstFaults.{none_yet}
use Rattle.omega_text.specs.declared.refusal.circuit.CircuitFault.TheVariants.{Variables}

abbrev pub parts_with : ℕ → Bool → List ℕ → List Latch → List ℕ → List Gate → List Symbol → Properties → CircuitParts
parts_with most dense inputs latches outputs gates symbols properties = record {
  most_variable = most;
  is_dense = dense;
  inputs = inputs;
  latches = latches;
  outputs = outputs;
  gates = gates;
  symbols = symbols;
  properties = properties;
}

pub same_parts : (most : ℕ) (dense : Bool) (properties : Properties) (i j o u : List ℕ) (l m : List Latch) (g h : List Gate) (s t : List Symbol)
    → j ≡ i → m ≡ l → u ≡ o → h ≡ g → t ≡ s → parts_with most dense i l o g s properties ≡ parts_with most dense j m u h t properties
same_parts most dense properties i j o u l m g h s t inputs latches outputs gates symbols =
    ap (λ (x : List ℕ). parts_with most dense x l o g s properties) (sym inputs)
    ∙ ap (λ (x : List Latch). parts_with most dense j x o g s properties) (sym latches)
    ∙ ap (λ (x : List ℕ). parts_with most dense j m x g s properties) (sym outputs)
    ∙ ap (λ (x : List Gate). parts_with most dense j m u x s properties) (sym gates)
    ∙ ap (λ (x : List Symbol). parts_with most dense j m u h x properties) (sym symbols)

abbrev pub properties_with : List ℕ → List ℕ → List ℕ → List ℕ → List ℕ → Properties
properties_with bad constraints sizes justice fairness = record {
  bad = bad;
  constraints = constraints;
  justice_sizes = sizes;
  justice = justice;
  fairness = fairness;
}

pub same_properties : (b c s j f b' c' s' j' f' : List ℕ) → b' ≡ b → c' ≡ c → s' ≡ s → j' ≡ j → f' ≡ f → properties_with b c s j f ≡ properties_with b' c' s' j' f'
same_properties b c s j f b' c' s' j' f' bad constraints sizes justice fairness =
    ap (λ (x : List ℕ). properties_with x c s j f) (sym bad)
    ∙ ap (λ (x : List ℕ). properties_with b' x s j f) (sym constraints)
    ∙ ap (λ (x : List ℕ). properties_with b' c' x j f) (sym sizes)
    ∙ ap (λ (x : List ℕ). properties_with b' c' s' x f) (sym justice)
    ∙ ap (λ (x : List ℕ). properties_with b' c' s' j' x) (sym fairness)

-- parts in the binary form whose header isn't dense have no room, which is the first fault
pub sparse_fault : (counts : Counts) (latches : List Latch) (outputs : List ℕ) (gates : List Gate) (symbols : List Symbol) (properties : Properties)
    → length latches ≡ counts.latches → length gates ≡ counts.gates → (IsDense counts → ⊥)
    → IsFirstFault (parts_with counts.most_variable true (first_literals counts.inputs) latches outputs gates symbols properties) Variables
sparse_fault counts latches outputs gates symbols properties all_latches all_gates sparse = record {
  before = none_yet (parts_with counts.most_variable true (first_literals counts.inputs) latches outputs gates symbols properties);
  has = λ room. sparse (record {
    few = room.few;
    all = let d = room.dense refl in
        let n = length-map (range_with_len 1 counts.inputs) literal_of in
        let m = length-range_with_len 1 counts.inputs in
        omega (arith, d, n, m, all_latches, all_gates);
  });
}
