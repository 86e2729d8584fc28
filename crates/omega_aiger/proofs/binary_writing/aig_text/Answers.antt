-- The parts of the text, one after the other.
use Rattle.std.proofs.Common.{◌++◌, ℕ, List, ap, ◌∙◌}
use Rattle.std.specs.List.{flat_map}
use Rattle.omega_aiger.specs.BinaryText.{binary_counts, binary_rest, binary_text, deltas_text, next_text}
use Rattle.omega_aiger.specs.Written.{number_text, symbol_text}
use Rattle.omega_circuit.specs.declared.gate.Gate.{Gate}
use Rattle.omega_circuit.specs.declared.latch.Latch.{Latch}
use Rattle.omega_circuit.specs.declared.symbol.Symbol.{Symbol}
use Rattle.omega_aiger.proofs.BinaryWritten.{five_pieces}
use Rattle.omega_aiger.proofs.binary_writing.aig_text.Goals as goal

pub returns-clause-text : goal.returns-clause-text
unfolding binary_text
returns-clause-text c =
    let circuit = c.args.circuit.now in
    five_pieces c.new-out.result.items c.write_counts.new.out.items c.write_nexts.new.out.items c.write_numbers.new.out.items c.write_deltas.new.out.items c.write_symbols.new.out.items
    (binary_counts circuit) (flat_map next_text circuit.latches) (flat_map number_text circuit.outputs) (flat_map deltas_text circuit.gates) (flat_map symbol_text circuit.symbols)
    c.in_ok-write_counts.ensures.ok
    (c.in_ok-write_nexts.ensures.ok ∙ ap (λ (xs : List Latch). c.write_counts.new.out.items ++ flat_map next_text xs) c.latches.ensures)
    (c.in_ok-write_numbers.ensures.ok ∙ ap (λ (xs : List ℕ). c.write_nexts.new.out.items ++ flat_map number_text xs) c.outputs.ensures)
    (c.in_ok-write_deltas.ensures.ok ∙ ap (λ (xs : List Gate). c.write_numbers.new.out.items ++ flat_map deltas_text xs) c.gates.ensures)
    (c.in_ok-write_symbols.ensures.ok ∙ ap (λ (xs : List Symbol). c.write_deltas.new.out.items ++ flat_map symbol_text xs) c.symbols.ensures)
    ∙ ap (λ (l : List ℕ). l ++ (binary_counts circuit ++ binary_rest circuit)) c.new-out.ensures.items
