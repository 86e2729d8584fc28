-- The lists are those of the circuit.
use Rattle.std.proofs.Common.{◌≡◌, sym, ◌∙◌, subst}
use Rattle.omega_circuit.specs.Canonical.{IsCanonicalCircuit}
use Rattle.omega_circuit.specs.Circuit.{CircuitValue, IsCircuit}
use Rattle.omega_circuit.specs.private.Steps.{circuit_with}
use Rattle.omega_circuit.proofs.Canonicals.{same_lists}
use Rattle.omega_circuit.proofs.canonical.copy_of.Goals as goal
use Rattle.omega_circuit.proofs.canonical.copy_of.Goals.{In_ok-symbols}

copied : (c : In_ok-symbols) → circuit_with c.in_ok-inputs.inputs.items c.in_ok-latches.latches.items c.in_ok-outputs.outputs.items c.in_ok-gates.gates.items c.in_ok-symbols.symbols.items
    ≡ c.args.circuit.now
copied c =
    let v : CircuitValue = c.args.circuit.now in
    same_lists c.in_ok-inputs.inputs.items v.inputs c.in_ok-latches.latches.items v.latches c.in_ok-outputs.outputs.items v.outputs c.in_ok-gates.gates.items v.gates c.in_ok-symbols.symbols.items v.symbols
    (c.in_ok-inputs.ensures.items ∙ c.inputs.ensures) (c.in_ok-latches.ensures.items ∙ c.latches.ensures) (c.in_ok-outputs.ensures.items ∙ c.outputs.ensures)
    (c.in_ok-gates.ensures.items ∙ c.gates.ensures) (c.in_ok-symbols.ensures ∙ c.symbols.ensures)

pub circuit_of_lists-requires-clause-shape : goal.circuit_of_lists-requires-clause-shape
circuit_of_lists-requires-clause-shape c = subst IsCanonicalCircuit (sym (copied (goal.at.circuit_of_lists-requires-clause-shape c).In_ok-symbols)) c.requires

pub circuit_of_lists-requires-clause-circuit : goal.circuit_of_lists-requires-clause-circuit
circuit_of_lists-requires-clause-circuit c = subst IsCircuit (sym (copied (goal.at.circuit_of_lists-requires-clause-circuit c).In_ok-symbols)) c.is_circuit.ensures

pub returns : goal.returns
returns c = c.in_ok-made.ensures ∙ copied (goal.at.returns c).In_ok-symbols
