-- Circuits that mean the same: the other way round, and one after the other.
use Rattle.std.proofs.Common.{◌∙◌, sym, ℕ, Bool}
use Rattle.omega_circuit.specs.Canonical.{HaveSameValues, MeanTheSame, RunsAs}
use Rattle.omega_circuit.specs.Circuit.{CircuitValue}

-- the second means the same as the first
pub same_back : (c d : CircuitValue) → MeanTheSame c d → MeanTheSame d c
same_back c d is = record {
  inputs = sym is.inputs;
  resets = sym is.resets;
  outputs = sym is.outputs;
  gates = sym is.gates;
  symbols = sym is.symbols;
  onward = is.back;
  back = is.onward;
  words = λ word. ((is.words word).1, (is.words word).0);
}

-- equal values, and again equal values
values_on : (c d e : CircuitValue) (one two three : ℕ → Bool) → HaveSameValues c d one two → HaveSameValues d e two three
    → HaveSameValues c e one three
values_on c d e one two three first second = record {
  inputs = first.inputs ∙ second.inputs;
  latches = first.latches ∙ second.latches;
  outputs = first.outputs ∙ second.outputs;
}

-- runs of the first are runs of the third
runs_on : (c d e : CircuitValue) → RunsAs c d → RunsAs d e → RunsAs c e
runs_on c d e first second rounds run =
    let middle = first rounds run in
    let last = second middle.0 middle.1 in
    (last.0, last.1, λ i. values_on c d e (rounds i) (middle.0 i) (last.0 i) (middle.2 i) (last.2 i))

-- the first means the same as the third
pub same_on : (c d e : CircuitValue) → MeanTheSame c d → MeanTheSame d e → MeanTheSame c e
same_on c d e first second = record {
  inputs = first.inputs ∙ second.inputs;
  resets = first.resets ∙ second.resets;
  outputs = first.outputs ∙ second.outputs;
  gates = first.gates ∙ second.gates;
  symbols = first.symbols ∙ second.symbols;
  onward = runs_on c d e first.onward second.onward;
  back = runs_on e d c second.back first.back;
  words = λ word. (
    λ of_first. (second.words word).0 ((first.words word).0 of_first),
    λ of_third. (first.words word).1 ((second.words word).1 of_third),
  );
}
