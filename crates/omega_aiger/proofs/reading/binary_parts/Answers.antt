-- The parts, one after the other.
use Rattle.std.proofs.Common.{◌+◌, ℕ, true, List, [], Ok, ap, ◌∙◌, subst}
use Rattle.std.proofs.lemmas.Result.{err_from_is_err_and}
use Rattle.omega_aiger.specs.Forms.{binary_body, most_symbols, properties_then}
use Rattle.omega_aiger.specs.Layout.{Layout}
use Rattle.omega_aiger.specs.Lines.{gate_deltas, next_lines, number_lines}
use Rattle.omega_aiger.specs.Symbols.{symbols_then}
use Rattle.omega_aiger.specs.private.Headers.{header_counts}
use Rattle.omega_aiger.specs.private.Outcome.{GoesOn, Stops}
use Rattle.omega_circuit.specs.declared.gate.Gate.{Gate}
use Rattle.omega_circuit.specs.declared.latch.Latch.{Latch}
use Rattle.omega_circuit.specs.declared.parts.CircuitParts.{CircuitParts}
use Rattle.omega_circuit.specs.declared.properties.Properties.{Properties}
use Rattle.omega_aiger.proofs.Steps.{fails_after, stops_fails}
use Rattle.omega_aiger.proofs.Parts.{parts_with, same_parts, sparse_fault}
use Rattle.omega_aiger.specs.Forms.{first_literals}
use Rattle.std.proofs.Common.{ap₂}
use Rattle.omega_aiger.proofs.reading.binary_parts.Goals as goal

pub returns-in_err-latches-clause-fails : goal.returns-in_err-latches-clause-fails
unfolding binary_body
returns-in_err-latches-clause-fails c =
    let p = err_from_is_err_and c.from_residual.result c.from_residual.ensures.1 in rw (p.1, p.2) (stops_fails c.args.text.now c.args.at (next_lines (c.args.header.now.inputs + 1) c.args.header.now.latches [] (λ latches. number_lines c.args.header.now.outputs [] (λ outputs. properties_then c.args.header.now.properties.items (λ properties. gate_deltas (c.args.header.now.inputs + c.args.header.now.latches + 1) c.args.header.now.gates [] (λ gates. symbols_then most_symbols [] (λ symbols. parts_with c.args.header.now.most_variable true (first_literals c.args.header.now.inputs) latches outputs gates symbols properties)))))) c.in_err-latches.field-0.0 (subst (λ (hole : ℕ). Stops c.args.text.now c.args.at (next_lines hole c.args.header.now.latches [] (λ latches. number_lines c.args.header.now.outputs [] (λ outputs. properties_then c.args.header.now.properties.items (λ properties. gate_deltas (c.args.header.now.inputs + c.args.header.now.latches + 1) c.args.header.now.gates [] (λ gates. symbols_then most_symbols [] (λ symbols. parts_with c.args.header.now.most_variable true (first_literals c.args.header.now.inputs) latches outputs gates symbols properties)))))) c.in_err-latches.field-0.0) (ap (λ n. n + 1) c.from-first_latch.ensures) (c.in_err-latches.ensures.stops (λ latches. number_lines c.args.header.now.outputs [] (λ outputs. properties_then c.args.header.now.properties.items (λ properties. gate_deltas (c.args.header.now.inputs + c.args.header.now.latches + 1) c.args.header.now.gates [] (λ gates. symbols_then most_symbols [] (λ symbols. parts_with c.args.header.now.most_variable true (first_literals c.args.header.now.inputs) latches outputs gates symbols properties))))))))

pub returns-in_err-outputs-clause-fails : goal.returns-in_err-outputs-clause-fails
unfolding binary_body
returns-in_err-outputs-clause-fails c =
    let p = err_from_is_err_and c.from_residual-in_err-outputs.result c.from_residual-in_err-outputs.ensures.1 in rw (p.1, p.2) (fails_after c.args.text.now c.args.at c.in_ok-latches.at (binary_body (header_counts c.args.header.now)) (number_lines c.args.header.now.outputs [] (λ outputs. properties_then c.args.header.now.properties.items (λ properties. gate_deltas (c.args.header.now.inputs + c.args.header.now.latches + 1) c.args.header.now.gates [] (λ gates. symbols_then most_symbols [] (λ symbols. parts_with c.args.header.now.most_variable true (first_literals c.args.header.now.inputs) c.in_ok-latches.latches.items outputs gates symbols properties))))) (subst (λ (hole : ℕ). GoesOn c.args.text.now c.args.at (next_lines hole c.args.header.now.latches [] (λ latches. number_lines c.args.header.now.outputs [] (λ outputs. properties_then c.args.header.now.properties.items (λ properties. gate_deltas (c.args.header.now.inputs + c.args.header.now.latches + 1) c.args.header.now.gates [] (λ gates. symbols_then most_symbols [] (λ symbols. parts_with c.args.header.now.most_variable true (first_literals c.args.header.now.inputs) latches outputs gates symbols properties)))))) c.in_ok-latches.at (let f : List Latch → Layout = λ latches. number_lines c.args.header.now.outputs [] (λ outputs. properties_then c.args.header.now.properties.items (λ properties. gate_deltas (c.args.header.now.inputs + c.args.header.now.latches + 1) c.args.header.now.gates [] (λ gates. symbols_then most_symbols [] (λ symbols. parts_with c.args.header.now.most_variable true (first_literals c.args.header.now.inputs) latches outputs gates symbols properties)))) in f c.in_ok-latches.latches.items)) (ap (λ n. n + 1) c.from-first_latch.ensures) (c.in_ok-latches.ensures.read (λ latches. number_lines c.args.header.now.outputs [] (λ outputs. properties_then c.args.header.now.properties.items (λ properties. gate_deltas (c.args.header.now.inputs + c.args.header.now.latches + 1) c.args.header.now.gates [] (λ gates. symbols_then most_symbols [] (λ symbols. parts_with c.args.header.now.most_variable true (first_literals c.args.header.now.inputs) latches outputs gates symbols properties))))))) c.in_err-outputs.field-0.0 (stops_fails c.args.text.now c.in_ok-latches.at (number_lines c.args.header.now.outputs [] (λ outputs. properties_then c.args.header.now.properties.items (λ properties. gate_deltas (c.args.header.now.inputs + c.args.header.now.latches + 1) c.args.header.now.gates [] (λ gates. symbols_then most_symbols [] (λ symbols. parts_with c.args.header.now.most_variable true (first_literals c.args.header.now.inputs) c.in_ok-latches.latches.items outputs gates symbols properties))))) c.in_err-outputs.field-0.0 (subst (λ (hole : ℕ). Stops c.args.text.now c.in_ok-latches.at (number_lines hole [] (λ outputs. properties_then c.args.header.now.properties.items (λ properties. gate_deltas (c.args.header.now.inputs + c.args.header.now.latches + 1) c.args.header.now.gates [] (λ gates. symbols_then most_symbols [] (λ symbols. parts_with c.args.header.now.most_variable true (first_literals c.args.header.now.inputs) c.in_ok-latches.latches.items outputs gates symbols properties))))) c.in_err-outputs.field-0.0) (c.from-3.ensures) (c.in_err-outputs.ensures.stops (λ outputs. properties_then c.args.header.now.properties.items (λ properties. gate_deltas (c.args.header.now.inputs + c.args.header.now.latches + 1) c.args.header.now.gates [] (λ gates. symbols_then most_symbols [] (λ symbols. parts_with c.args.header.now.most_variable true (first_literals c.args.header.now.inputs) c.in_ok-latches.latches.items outputs gates symbols properties))))))))

pub returns-in_err-properties-clause-fails : goal.returns-in_err-properties-clause-fails
unfolding binary_body
returns-in_err-properties-clause-fails c =
    let p = err_from_is_err_and c.from_residual-in_err-properties.result c.from_residual-in_err-properties.ensures.1 in rw (p.1, p.2) (fails_after c.args.text.now c.args.at c.in_ok-outputs.at (binary_body (header_counts c.args.header.now)) (properties_then c.args.header.now.properties.items (λ properties. gate_deltas (c.args.header.now.inputs + c.args.header.now.latches + 1) c.args.header.now.gates [] (λ gates. symbols_then most_symbols [] (λ symbols. parts_with c.args.header.now.most_variable true (first_literals c.args.header.now.inputs) c.in_ok-latches.latches.items c.in_ok-outputs.outputs.items gates symbols properties)))) (subst (λ (hole : ℕ). GoesOn c.args.text.now c.args.at (next_lines hole c.args.header.now.latches [] (λ latches. number_lines c.args.header.now.outputs [] (λ outputs. properties_then c.args.header.now.properties.items (λ properties. gate_deltas (c.args.header.now.inputs + c.args.header.now.latches + 1) c.args.header.now.gates [] (λ gates. symbols_then most_symbols [] (λ symbols. parts_with c.args.header.now.most_variable true (first_literals c.args.header.now.inputs) latches outputs gates symbols properties)))))) c.in_ok-latches.at (let f : List Latch → Layout = λ latches. number_lines c.args.header.now.outputs [] (λ outputs. properties_then c.args.header.now.properties.items (λ properties. gate_deltas (c.args.header.now.inputs + c.args.header.now.latches + 1) c.args.header.now.gates [] (λ gates. symbols_then most_symbols [] (λ symbols. parts_with c.args.header.now.most_variable true (first_literals c.args.header.now.inputs) latches outputs gates symbols properties)))) in f c.in_ok-latches.latches.items)) (ap (λ n. n + 1) c.from-first_latch.ensures) (c.in_ok-latches.ensures.read (λ latches. number_lines c.args.header.now.outputs [] (λ outputs. properties_then c.args.header.now.properties.items (λ properties. gate_deltas (c.args.header.now.inputs + c.args.header.now.latches + 1) c.args.header.now.gates [] (λ gates. symbols_then most_symbols [] (λ symbols. parts_with c.args.header.now.most_variable true (first_literals c.args.header.now.inputs) latches outputs gates symbols properties)))))) ∙ subst (λ (hole : ℕ). GoesOn c.args.text.now c.in_ok-latches.at (number_lines hole [] (λ outputs. properties_then c.args.header.now.properties.items (λ properties. gate_deltas (c.args.header.now.inputs + c.args.header.now.latches + 1) c.args.header.now.gates [] (λ gates. symbols_then most_symbols [] (λ symbols. parts_with c.args.header.now.most_variable true (first_literals c.args.header.now.inputs) c.in_ok-latches.latches.items outputs gates symbols properties))))) c.in_ok-outputs.at (let f : List ℕ → Layout = λ outputs. properties_then c.args.header.now.properties.items (λ properties. gate_deltas (c.args.header.now.inputs + c.args.header.now.latches + 1) c.args.header.now.gates [] (λ gates. symbols_then most_symbols [] (λ symbols. parts_with c.args.header.now.most_variable true (first_literals c.args.header.now.inputs) c.in_ok-latches.latches.items outputs gates symbols properties))) in f c.in_ok-outputs.outputs.items)) (c.from-3.ensures) (c.in_ok-outputs.ensures.read (λ outputs. properties_then c.args.header.now.properties.items (λ properties. gate_deltas (c.args.header.now.inputs + c.args.header.now.latches + 1) c.args.header.now.gates [] (λ gates. symbols_then most_symbols [] (λ symbols. parts_with c.args.header.now.most_variable true (first_literals c.args.header.now.inputs) c.in_ok-latches.latches.items outputs gates symbols properties)))))) c.in_err-properties.field-0.0 (stops_fails c.args.text.now c.in_ok-outputs.at (properties_then c.args.header.now.properties.items (λ properties. gate_deltas (c.args.header.now.inputs + c.args.header.now.latches + 1) c.args.header.now.gates [] (λ gates. symbols_then most_symbols [] (λ symbols. parts_with c.args.header.now.most_variable true (first_literals c.args.header.now.inputs) c.in_ok-latches.latches.items c.in_ok-outputs.outputs.items gates symbols properties)))) c.in_err-properties.field-0.0 (subst (λ (hole : List ℕ). Stops c.args.text.now c.in_ok-outputs.at (properties_then hole (λ properties. gate_deltas (c.args.header.now.inputs + c.args.header.now.latches + 1) c.args.header.now.gates [] (λ gates. symbols_then most_symbols [] (λ symbols. parts_with c.args.header.now.most_variable true (first_literals c.args.header.now.inputs) c.in_ok-latches.latches.items c.in_ok-outputs.outputs.items gates symbols properties)))) c.in_err-properties.field-0.0) (c.as_slice.ensures.value) (c.in_err-properties.ensures.stops (λ properties. gate_deltas (c.args.header.now.inputs + c.args.header.now.latches + 1) c.args.header.now.gates [] (λ gates. symbols_then most_symbols [] (λ symbols. parts_with c.args.header.now.most_variable true (first_literals c.args.header.now.inputs) c.in_ok-latches.latches.items c.in_ok-outputs.outputs.items gates symbols properties)))))))

pub returns-in_err-gates-clause-fails : goal.returns-in_err-gates-clause-fails
unfolding binary_body
returns-in_err-gates-clause-fails c =
    let p = err_from_is_err_and c.from_residual-in_err-gates.result c.from_residual-in_err-gates.ensures.1 in rw (p.1, p.2) (fails_after c.args.text.now c.args.at c.in_ok-properties.at (binary_body (header_counts c.args.header.now)) (gate_deltas (c.args.header.now.inputs + c.args.header.now.latches + 1) c.args.header.now.gates [] (λ gates. symbols_then most_symbols [] (λ symbols. parts_with c.args.header.now.most_variable true (first_literals c.args.header.now.inputs) c.in_ok-latches.latches.items c.in_ok-outputs.outputs.items gates symbols c.in_ok-properties.properties))) (subst (λ (hole : ℕ). GoesOn c.args.text.now c.args.at (next_lines hole c.args.header.now.latches [] (λ latches. number_lines c.args.header.now.outputs [] (λ outputs. properties_then c.args.header.now.properties.items (λ properties. gate_deltas (c.args.header.now.inputs + c.args.header.now.latches + 1) c.args.header.now.gates [] (λ gates. symbols_then most_symbols [] (λ symbols. parts_with c.args.header.now.most_variable true (first_literals c.args.header.now.inputs) latches outputs gates symbols properties)))))) c.in_ok-latches.at (let f : List Latch → Layout = λ latches. number_lines c.args.header.now.outputs [] (λ outputs. properties_then c.args.header.now.properties.items (λ properties. gate_deltas (c.args.header.now.inputs + c.args.header.now.latches + 1) c.args.header.now.gates [] (λ gates. symbols_then most_symbols [] (λ symbols. parts_with c.args.header.now.most_variable true (first_literals c.args.header.now.inputs) latches outputs gates symbols properties)))) in f c.in_ok-latches.latches.items)) (ap (λ n. n + 1) c.from-first_latch.ensures) (c.in_ok-latches.ensures.read (λ latches. number_lines c.args.header.now.outputs [] (λ outputs. properties_then c.args.header.now.properties.items (λ properties. gate_deltas (c.args.header.now.inputs + c.args.header.now.latches + 1) c.args.header.now.gates [] (λ gates. symbols_then most_symbols [] (λ symbols. parts_with c.args.header.now.most_variable true (first_literals c.args.header.now.inputs) latches outputs gates symbols properties)))))) ∙ subst (λ (hole : ℕ). GoesOn c.args.text.now c.in_ok-latches.at (number_lines hole [] (λ outputs. properties_then c.args.header.now.properties.items (λ properties. gate_deltas (c.args.header.now.inputs + c.args.header.now.latches + 1) c.args.header.now.gates [] (λ gates. symbols_then most_symbols [] (λ symbols. parts_with c.args.header.now.most_variable true (first_literals c.args.header.now.inputs) c.in_ok-latches.latches.items outputs gates symbols properties))))) c.in_ok-outputs.at (let f : List ℕ → Layout = λ outputs. properties_then c.args.header.now.properties.items (λ properties. gate_deltas (c.args.header.now.inputs + c.args.header.now.latches + 1) c.args.header.now.gates [] (λ gates. symbols_then most_symbols [] (λ symbols. parts_with c.args.header.now.most_variable true (first_literals c.args.header.now.inputs) c.in_ok-latches.latches.items outputs gates symbols properties))) in f c.in_ok-outputs.outputs.items)) (c.from-3.ensures) (c.in_ok-outputs.ensures.read (λ outputs. properties_then c.args.header.now.properties.items (λ properties. gate_deltas (c.args.header.now.inputs + c.args.header.now.latches + 1) c.args.header.now.gates [] (λ gates. symbols_then most_symbols [] (λ symbols. parts_with c.args.header.now.most_variable true (first_literals c.args.header.now.inputs) c.in_ok-latches.latches.items outputs gates symbols properties))))) ∙ subst (λ (hole : List ℕ). GoesOn c.args.text.now c.in_ok-outputs.at (properties_then hole (λ properties. gate_deltas (c.args.header.now.inputs + c.args.header.now.latches + 1) c.args.header.now.gates [] (λ gates. symbols_then most_symbols [] (λ symbols. parts_with c.args.header.now.most_variable true (first_literals c.args.header.now.inputs) c.in_ok-latches.latches.items c.in_ok-outputs.outputs.items gates symbols properties)))) c.in_ok-properties.at (let f : Properties → Layout = λ properties. gate_deltas (c.args.header.now.inputs + c.args.header.now.latches + 1) c.args.header.now.gates [] (λ gates. symbols_then most_symbols [] (λ symbols. parts_with c.args.header.now.most_variable true (first_literals c.args.header.now.inputs) c.in_ok-latches.latches.items c.in_ok-outputs.outputs.items gates symbols properties)) in f c.in_ok-properties.properties)) (c.as_slice.ensures.value) (c.in_ok-properties.ensures.read (λ properties. gate_deltas (c.args.header.now.inputs + c.args.header.now.latches + 1) c.args.header.now.gates [] (λ gates. symbols_then most_symbols [] (λ symbols. parts_with c.args.header.now.most_variable true (first_literals c.args.header.now.inputs) c.in_ok-latches.latches.items c.in_ok-outputs.outputs.items gates symbols properties))))) c.in_err-gates.field-0.0 (stops_fails c.args.text.now c.in_ok-properties.at (gate_deltas (c.args.header.now.inputs + c.args.header.now.latches + 1) c.args.header.now.gates [] (λ gates. symbols_then most_symbols [] (λ symbols. parts_with c.args.header.now.most_variable true (first_literals c.args.header.now.inputs) c.in_ok-latches.latches.items c.in_ok-outputs.outputs.items gates symbols c.in_ok-properties.properties))) c.in_err-gates.field-0.0 (subst (λ (hole : ℕ). Stops c.args.text.now c.in_ok-properties.at (gate_deltas hole c.args.header.now.gates [] (λ gates. symbols_then most_symbols [] (λ symbols. parts_with c.args.header.now.most_variable true (first_literals c.args.header.now.inputs) c.in_ok-latches.latches.items c.in_ok-outputs.outputs.items gates symbols c.in_ok-properties.properties))) c.in_err-gates.field-0.0) (ap₂ (λ (n m : ℕ). n + m + 1) c.from.ensures c.from-2.ensures) (c.in_err-gates.ensures.stops (λ gates. symbols_then most_symbols [] (λ symbols. parts_with c.args.header.now.most_variable true (first_literals c.args.header.now.inputs) c.in_ok-latches.latches.items c.in_ok-outputs.outputs.items gates symbols c.in_ok-properties.properties))))))

pub returns-in_err-symbols-clause-fails : goal.returns-in_err-symbols-clause-fails
unfolding binary_body
returns-in_err-symbols-clause-fails c =
    let p = err_from_is_err_and c.from_residual-in_err-symbols.result c.from_residual-in_err-symbols.ensures.1 in rw (p.1, p.2) (fails_after c.args.text.now c.args.at c.in_ok-gates.at (binary_body (header_counts c.args.header.now)) (symbols_then most_symbols [] (λ symbols. parts_with c.args.header.now.most_variable true (first_literals c.args.header.now.inputs) c.in_ok-latches.latches.items c.in_ok-outputs.outputs.items c.in_ok-gates.gates.items symbols c.in_ok-properties.properties)) (subst (λ (hole : ℕ). GoesOn c.args.text.now c.args.at (next_lines hole c.args.header.now.latches [] (λ latches. number_lines c.args.header.now.outputs [] (λ outputs. properties_then c.args.header.now.properties.items (λ properties. gate_deltas (c.args.header.now.inputs + c.args.header.now.latches + 1) c.args.header.now.gates [] (λ gates. symbols_then most_symbols [] (λ symbols. parts_with c.args.header.now.most_variable true (first_literals c.args.header.now.inputs) latches outputs gates symbols properties)))))) c.in_ok-latches.at (let f : List Latch → Layout = λ latches. number_lines c.args.header.now.outputs [] (λ outputs. properties_then c.args.header.now.properties.items (λ properties. gate_deltas (c.args.header.now.inputs + c.args.header.now.latches + 1) c.args.header.now.gates [] (λ gates. symbols_then most_symbols [] (λ symbols. parts_with c.args.header.now.most_variable true (first_literals c.args.header.now.inputs) latches outputs gates symbols properties)))) in f c.in_ok-latches.latches.items)) (ap (λ n. n + 1) c.from-first_latch.ensures) (c.in_ok-latches.ensures.read (λ latches. number_lines c.args.header.now.outputs [] (λ outputs. properties_then c.args.header.now.properties.items (λ properties. gate_deltas (c.args.header.now.inputs + c.args.header.now.latches + 1) c.args.header.now.gates [] (λ gates. symbols_then most_symbols [] (λ symbols. parts_with c.args.header.now.most_variable true (first_literals c.args.header.now.inputs) latches outputs gates symbols properties)))))) ∙ subst (λ (hole : ℕ). GoesOn c.args.text.now c.in_ok-latches.at (number_lines hole [] (λ outputs. properties_then c.args.header.now.properties.items (λ properties. gate_deltas (c.args.header.now.inputs + c.args.header.now.latches + 1) c.args.header.now.gates [] (λ gates. symbols_then most_symbols [] (λ symbols. parts_with c.args.header.now.most_variable true (first_literals c.args.header.now.inputs) c.in_ok-latches.latches.items outputs gates symbols properties))))) c.in_ok-outputs.at (let f : List ℕ → Layout = λ outputs. properties_then c.args.header.now.properties.items (λ properties. gate_deltas (c.args.header.now.inputs + c.args.header.now.latches + 1) c.args.header.now.gates [] (λ gates. symbols_then most_symbols [] (λ symbols. parts_with c.args.header.now.most_variable true (first_literals c.args.header.now.inputs) c.in_ok-latches.latches.items outputs gates symbols properties))) in f c.in_ok-outputs.outputs.items)) (c.from-3.ensures) (c.in_ok-outputs.ensures.read (λ outputs. properties_then c.args.header.now.properties.items (λ properties. gate_deltas (c.args.header.now.inputs + c.args.header.now.latches + 1) c.args.header.now.gates [] (λ gates. symbols_then most_symbols [] (λ symbols. parts_with c.args.header.now.most_variable true (first_literals c.args.header.now.inputs) c.in_ok-latches.latches.items outputs gates symbols properties))))) ∙ subst (λ (hole : List ℕ). GoesOn c.args.text.now c.in_ok-outputs.at (properties_then hole (λ properties. gate_deltas (c.args.header.now.inputs + c.args.header.now.latches + 1) c.args.header.now.gates [] (λ gates. symbols_then most_symbols [] (λ symbols. parts_with c.args.header.now.most_variable true (first_literals c.args.header.now.inputs) c.in_ok-latches.latches.items c.in_ok-outputs.outputs.items gates symbols properties)))) c.in_ok-properties.at (let f : Properties → Layout = λ properties. gate_deltas (c.args.header.now.inputs + c.args.header.now.latches + 1) c.args.header.now.gates [] (λ gates. symbols_then most_symbols [] (λ symbols. parts_with c.args.header.now.most_variable true (first_literals c.args.header.now.inputs) c.in_ok-latches.latches.items c.in_ok-outputs.outputs.items gates symbols properties)) in f c.in_ok-properties.properties)) (c.as_slice.ensures.value) (c.in_ok-properties.ensures.read (λ properties. gate_deltas (c.args.header.now.inputs + c.args.header.now.latches + 1) c.args.header.now.gates [] (λ gates. symbols_then most_symbols [] (λ symbols. parts_with c.args.header.now.most_variable true (first_literals c.args.header.now.inputs) c.in_ok-latches.latches.items c.in_ok-outputs.outputs.items gates symbols properties)))) ∙ subst (λ (hole : ℕ). GoesOn c.args.text.now c.in_ok-properties.at (gate_deltas hole c.args.header.now.gates [] (λ gates. symbols_then most_symbols [] (λ symbols. parts_with c.args.header.now.most_variable true (first_literals c.args.header.now.inputs) c.in_ok-latches.latches.items c.in_ok-outputs.outputs.items gates symbols c.in_ok-properties.properties))) c.in_ok-gates.at (let f : List Gate → Layout = λ gates. symbols_then most_symbols [] (λ symbols. parts_with c.args.header.now.most_variable true (first_literals c.args.header.now.inputs) c.in_ok-latches.latches.items c.in_ok-outputs.outputs.items gates symbols c.in_ok-properties.properties) in f c.in_ok-gates.gates.items)) (ap₂ (λ (n m : ℕ). n + m + 1) c.from.ensures c.from-2.ensures) (c.in_ok-gates.ensures.read (λ gates. symbols_then most_symbols [] (λ symbols. parts_with c.args.header.now.most_variable true (first_literals c.args.header.now.inputs) c.in_ok-latches.latches.items c.in_ok-outputs.outputs.items gates symbols c.in_ok-properties.properties)))) c.in_err-symbols.field-0.0 (stops_fails c.args.text.now c.in_ok-gates.at (symbols_then most_symbols [] (λ symbols. parts_with c.args.header.now.most_variable true (first_literals c.args.header.now.inputs) c.in_ok-latches.latches.items c.in_ok-outputs.outputs.items c.in_ok-gates.gates.items symbols c.in_ok-properties.properties)) c.in_err-symbols.field-0.0 (c.in_err-symbols.ensures.stops (λ symbols. parts_with c.args.header.now.most_variable true (first_literals c.args.header.now.inputs) c.in_ok-latches.latches.items c.in_ok-outputs.outputs.items c.in_ok-gates.gates.items symbols c.in_ok-properties.properties))))

pub returns-clause-parts : goal.returns-clause-parts
unfolding binary_body
returns-clause-parts c =
    subst (λ (hole : ℕ). GoesOn c.args.text.now c.args.at (next_lines hole c.args.header.now.latches [] (λ latches. number_lines c.args.header.now.outputs [] (λ outputs. properties_then c.args.header.now.properties.items (λ properties. gate_deltas (c.args.header.now.inputs + c.args.header.now.latches + 1) c.args.header.now.gates [] (λ gates. symbols_then most_symbols [] (λ symbols. parts_with c.args.header.now.most_variable true (first_literals c.args.header.now.inputs) latches outputs gates symbols properties)))))) c.in_ok-latches.at (let f : List Latch → Layout = λ latches. number_lines c.args.header.now.outputs [] (λ outputs. properties_then c.args.header.now.properties.items (λ properties. gate_deltas (c.args.header.now.inputs + c.args.header.now.latches + 1) c.args.header.now.gates [] (λ gates. symbols_then most_symbols [] (λ symbols. parts_with c.args.header.now.most_variable true (first_literals c.args.header.now.inputs) latches outputs gates symbols properties)))) in f c.in_ok-latches.latches.items)) (ap (λ n. n + 1) c.from-first_latch.ensures) (c.in_ok-latches.ensures.read (λ latches. number_lines c.args.header.now.outputs [] (λ outputs. properties_then c.args.header.now.properties.items (λ properties. gate_deltas (c.args.header.now.inputs + c.args.header.now.latches + 1) c.args.header.now.gates [] (λ gates. symbols_then most_symbols [] (λ symbols. parts_with c.args.header.now.most_variable true (first_literals c.args.header.now.inputs) latches outputs gates symbols properties)))))) ∙ subst (λ (hole : ℕ). GoesOn c.args.text.now c.in_ok-latches.at (number_lines hole [] (λ outputs. properties_then c.args.header.now.properties.items (λ properties. gate_deltas (c.args.header.now.inputs + c.args.header.now.latches + 1) c.args.header.now.gates [] (λ gates. symbols_then most_symbols [] (λ symbols. parts_with c.args.header.now.most_variable true (first_literals c.args.header.now.inputs) c.in_ok-latches.latches.items outputs gates symbols properties))))) c.in_ok-outputs.at (let f : List ℕ → Layout = λ outputs. properties_then c.args.header.now.properties.items (λ properties. gate_deltas (c.args.header.now.inputs + c.args.header.now.latches + 1) c.args.header.now.gates [] (λ gates. symbols_then most_symbols [] (λ symbols. parts_with c.args.header.now.most_variable true (first_literals c.args.header.now.inputs) c.in_ok-latches.latches.items outputs gates symbols properties))) in f c.in_ok-outputs.outputs.items)) (c.from-3.ensures) (c.in_ok-outputs.ensures.read (λ outputs. properties_then c.args.header.now.properties.items (λ properties. gate_deltas (c.args.header.now.inputs + c.args.header.now.latches + 1) c.args.header.now.gates [] (λ gates. symbols_then most_symbols [] (λ symbols. parts_with c.args.header.now.most_variable true (first_literals c.args.header.now.inputs) c.in_ok-latches.latches.items outputs gates symbols properties))))) ∙ subst (λ (hole : List ℕ). GoesOn c.args.text.now c.in_ok-outputs.at (properties_then hole (λ properties. gate_deltas (c.args.header.now.inputs + c.args.header.now.latches + 1) c.args.header.now.gates [] (λ gates. symbols_then most_symbols [] (λ symbols. parts_with c.args.header.now.most_variable true (first_literals c.args.header.now.inputs) c.in_ok-latches.latches.items c.in_ok-outputs.outputs.items gates symbols properties)))) c.in_ok-properties.at (let f : Properties → Layout = λ properties. gate_deltas (c.args.header.now.inputs + c.args.header.now.latches + 1) c.args.header.now.gates [] (λ gates. symbols_then most_symbols [] (λ symbols. parts_with c.args.header.now.most_variable true (first_literals c.args.header.now.inputs) c.in_ok-latches.latches.items c.in_ok-outputs.outputs.items gates symbols properties)) in f c.in_ok-properties.properties)) (c.as_slice.ensures.value) (c.in_ok-properties.ensures.read (λ properties. gate_deltas (c.args.header.now.inputs + c.args.header.now.latches + 1) c.args.header.now.gates [] (λ gates. symbols_then most_symbols [] (λ symbols. parts_with c.args.header.now.most_variable true (first_literals c.args.header.now.inputs) c.in_ok-latches.latches.items c.in_ok-outputs.outputs.items gates symbols properties)))) ∙ subst (λ (hole : ℕ). GoesOn c.args.text.now c.in_ok-properties.at (gate_deltas hole c.args.header.now.gates [] (λ gates. symbols_then most_symbols [] (λ symbols. parts_with c.args.header.now.most_variable true (first_literals c.args.header.now.inputs) c.in_ok-latches.latches.items c.in_ok-outputs.outputs.items gates symbols c.in_ok-properties.properties))) c.in_ok-gates.at (let f : List Gate → Layout = λ gates. symbols_then most_symbols [] (λ symbols. parts_with c.args.header.now.most_variable true (first_literals c.args.header.now.inputs) c.in_ok-latches.latches.items c.in_ok-outputs.outputs.items gates symbols c.in_ok-properties.properties) in f c.in_ok-gates.gates.items)) (ap₂ (λ (n m : ℕ). n + m + 1) c.from.ensures c.from-2.ensures) (c.in_ok-gates.ensures.read (λ gates. symbols_then most_symbols [] (λ symbols. parts_with c.args.header.now.most_variable true (first_literals c.args.header.now.inputs) c.in_ok-latches.latches.items c.in_ok-outputs.outputs.items gates symbols c.in_ok-properties.properties)))
    ∙ c.in_ok-symbols.ensures.read (λ symbols. parts_with c.args.header.now.most_variable true (first_literals c.args.header.now.inputs) c.in_ok-latches.latches.items c.in_ok-outputs.outputs.items c.in_ok-gates.gates.items symbols c.in_ok-properties.properties)
    ∙ ap (λ (p : CircuitParts). Ok p) (same_parts c.args.header.now.most_variable true c.in_ok-properties.properties (first_literals c.args.header.now.inputs) c.from_vec.result c.in_ok-outputs.outputs.items c.from_vec-3.result c.in_ok-latches.latches.items c.from_vec-2.result c.in_ok-gates.gates.items c.from_vec-4.result c.in_ok-symbols.symbols.items c.from_vec-5.result (c.from_vec.ensures ∙ c.in_ok-inputs.ensures) c.from_vec-2.ensures c.from_vec-3.ensures c.from_vec-4.ensures c.from_vec-5.ensures)

pub returns-then-not-is_dense-clause-fails : goal.returns-then-not-is_dense-clause-fails
unfolding binary_body
returns-then-not-is_dense-clause-fails c = (
  parts_with c.args.header.now.most_variable true (first_literals c.args.header.now.inputs) c.in_ok-latches.latches.items c.in_ok-outputs.outputs.items c.in_ok-gates.gates.items c.in_ok-symbols.symbols.items c.in_ok-properties.properties,
  subst (λ (hole : ℕ). GoesOn c.args.text.now c.args.at (next_lines hole c.args.header.now.latches [] (λ latches. number_lines c.args.header.now.outputs [] (λ outputs. properties_then c.args.header.now.properties.items (λ properties. gate_deltas (c.args.header.now.inputs + c.args.header.now.latches + 1) c.args.header.now.gates [] (λ gates. symbols_then most_symbols [] (λ symbols. parts_with c.args.header.now.most_variable true (first_literals c.args.header.now.inputs) latches outputs gates symbols properties)))))) c.in_ok-latches.at (let f : List Latch → Layout = λ latches. number_lines c.args.header.now.outputs [] (λ outputs. properties_then c.args.header.now.properties.items (λ properties. gate_deltas (c.args.header.now.inputs + c.args.header.now.latches + 1) c.args.header.now.gates [] (λ gates. symbols_then most_symbols [] (λ symbols. parts_with c.args.header.now.most_variable true (first_literals c.args.header.now.inputs) latches outputs gates symbols properties)))) in f c.in_ok-latches.latches.items)) (ap (λ n. n + 1) c.from-first_latch.ensures) (c.in_ok-latches.ensures.read (λ latches. number_lines c.args.header.now.outputs [] (λ outputs. properties_then c.args.header.now.properties.items (λ properties. gate_deltas (c.args.header.now.inputs + c.args.header.now.latches + 1) c.args.header.now.gates [] (λ gates. symbols_then most_symbols [] (λ symbols. parts_with c.args.header.now.most_variable true (first_literals c.args.header.now.inputs) latches outputs gates symbols properties)))))) ∙ subst (λ (hole : ℕ). GoesOn c.args.text.now c.in_ok-latches.at (number_lines hole [] (λ outputs. properties_then c.args.header.now.properties.items (λ properties. gate_deltas (c.args.header.now.inputs + c.args.header.now.latches + 1) c.args.header.now.gates [] (λ gates. symbols_then most_symbols [] (λ symbols. parts_with c.args.header.now.most_variable true (first_literals c.args.header.now.inputs) c.in_ok-latches.latches.items outputs gates symbols properties))))) c.in_ok-outputs.at (let f : List ℕ → Layout = λ outputs. properties_then c.args.header.now.properties.items (λ properties. gate_deltas (c.args.header.now.inputs + c.args.header.now.latches + 1) c.args.header.now.gates [] (λ gates. symbols_then most_symbols [] (λ symbols. parts_with c.args.header.now.most_variable true (first_literals c.args.header.now.inputs) c.in_ok-latches.latches.items outputs gates symbols properties))) in f c.in_ok-outputs.outputs.items)) (c.from-3.ensures) (c.in_ok-outputs.ensures.read (λ outputs. properties_then c.args.header.now.properties.items (λ properties. gate_deltas (c.args.header.now.inputs + c.args.header.now.latches + 1) c.args.header.now.gates [] (λ gates. symbols_then most_symbols [] (λ symbols. parts_with c.args.header.now.most_variable true (first_literals c.args.header.now.inputs) c.in_ok-latches.latches.items outputs gates symbols properties))))) ∙ subst (λ (hole : List ℕ). GoesOn c.args.text.now c.in_ok-outputs.at (properties_then hole (λ properties. gate_deltas (c.args.header.now.inputs + c.args.header.now.latches + 1) c.args.header.now.gates [] (λ gates. symbols_then most_symbols [] (λ symbols. parts_with c.args.header.now.most_variable true (first_literals c.args.header.now.inputs) c.in_ok-latches.latches.items c.in_ok-outputs.outputs.items gates symbols properties)))) c.in_ok-properties.at (let f : Properties → Layout = λ properties. gate_deltas (c.args.header.now.inputs + c.args.header.now.latches + 1) c.args.header.now.gates [] (λ gates. symbols_then most_symbols [] (λ symbols. parts_with c.args.header.now.most_variable true (first_literals c.args.header.now.inputs) c.in_ok-latches.latches.items c.in_ok-outputs.outputs.items gates symbols properties)) in f c.in_ok-properties.properties)) (c.as_slice.ensures.value) (c.in_ok-properties.ensures.read (λ properties. gate_deltas (c.args.header.now.inputs + c.args.header.now.latches + 1) c.args.header.now.gates [] (λ gates. symbols_then most_symbols [] (λ symbols. parts_with c.args.header.now.most_variable true (first_literals c.args.header.now.inputs) c.in_ok-latches.latches.items c.in_ok-outputs.outputs.items gates symbols properties)))) ∙ subst (λ (hole : ℕ). GoesOn c.args.text.now c.in_ok-properties.at (gate_deltas hole c.args.header.now.gates [] (λ gates. symbols_then most_symbols [] (λ symbols. parts_with c.args.header.now.most_variable true (first_literals c.args.header.now.inputs) c.in_ok-latches.latches.items c.in_ok-outputs.outputs.items gates symbols c.in_ok-properties.properties))) c.in_ok-gates.at (let f : List Gate → Layout = λ gates. symbols_then most_symbols [] (λ symbols. parts_with c.args.header.now.most_variable true (first_literals c.args.header.now.inputs) c.in_ok-latches.latches.items c.in_ok-outputs.outputs.items gates symbols c.in_ok-properties.properties) in f c.in_ok-gates.gates.items)) (ap₂ (λ (n m : ℕ). n + m + 1) c.from.ensures c.from-2.ensures) (c.in_ok-gates.ensures.read (λ gates. symbols_then most_symbols [] (λ symbols. parts_with c.args.header.now.most_variable true (first_literals c.args.header.now.inputs) c.in_ok-latches.latches.items c.in_ok-outputs.outputs.items gates symbols c.in_ok-properties.properties)))
      ∙ c.in_ok-symbols.ensures.read (λ symbols. parts_with c.args.header.now.most_variable true (first_literals c.args.header.now.inputs) c.in_ok-latches.latches.items c.in_ok-outputs.outputs.items c.in_ok-gates.gates.items symbols c.in_ok-properties.properties),
  sparse_fault (header_counts c.args.header.now) c.in_ok-latches.latches.items c.in_ok-outputs.outputs.items c.in_ok-gates.gates.items c.in_ok-symbols.symbols.items c.in_ok-properties.properties c.in_ok-latches.ensures.count c.in_ok-gates.ensures.count (c.is_dense.ensures.sparse c.if-not-is_dense.true),
)
