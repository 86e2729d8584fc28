-- The parts of the text, one after the other.
use Rattle.std.proofs.Common.{◌∷◌, ◌++◌, ℕ, List, [], length, ap, ◌∙◌}
use Rattle.std.specs.Prelude.{codes}
use Rattle.std.specs.List.{flat_map}
use Rattle.omega_aiger.specs.Written.{ascii_text, count_text, gate_text, latch_text, most_variable_of, number_text, symbol_text}
use Rattle.omega_circuit.specs.declared.gate.Gate.{Gate}
use Rattle.omega_circuit.specs.declared.latch.Latch.{Latch}
use Rattle.omega_circuit.specs.declared.symbol.Symbol.{Symbol}
use Rattle.omega_aiger.proofs.Greatest.{append_on}
use Rattle.omega_aiger.proofs.writing.aag_text.Goals as goal

pub returns-clause-text : goal.returns-clause-text
unfolding ascii_text
returns-clause-text c =
    c.in_ok-write_symbols.ensures.ok ∙ ap (λ (xs : List Symbol). c.write_gates.new.out.items ++ flat_map symbol_text xs) c.symbols.ensures
    ∙ append_on c.write_numbers-2.new.out.items c.write_gates.new.out.items (flat_map gate_text c.args.circuit.now.gates) (flat_map symbol_text c.args.circuit.now.symbols) (c.in_ok-write_gates.ensures.ok ∙ ap (λ (xs : List Gate). c.write_numbers-2.new.out.items ++ flat_map gate_text xs) c.gates-2.ensures)
    ∙ append_on c.write_latches.new.out.items c.write_numbers-2.new.out.items (flat_map number_text c.args.circuit.now.outputs) ((flat_map gate_text c.args.circuit.now.gates) ++ (flat_map symbol_text c.args.circuit.now.symbols)) (c.in_ok-write_numbers-2.ensures.ok ∙ ap (λ (xs : List ℕ). c.write_latches.new.out.items ++ flat_map number_text xs) c.outputs-2.ensures)
    ∙ append_on c.write_numbers.new.out.items c.write_latches.new.out.items (flat_map latch_text c.args.circuit.now.latches) ((flat_map number_text c.args.circuit.now.outputs) ++ ((flat_map gate_text c.args.circuit.now.gates) ++ (flat_map symbol_text c.args.circuit.now.symbols))) (c.in_ok-write_latches.ensures.ok ∙ ap (λ (xs : List Latch). c.write_numbers.new.out.items ++ flat_map latch_text xs) c.latches-2.ensures)
    ∙ append_on c.push.new.self.items c.write_numbers.new.out.items (flat_map number_text c.args.circuit.now.inputs) ((flat_map latch_text c.args.circuit.now.latches) ++ ((flat_map number_text c.args.circuit.now.outputs) ++ ((flat_map gate_text c.args.circuit.now.gates) ++ (flat_map symbol_text c.args.circuit.now.symbols)))) (c.in_ok-write_numbers.ensures.ok ∙ ap (λ (xs : List ℕ). c.push.new.self.items ++ flat_map number_text xs) c.inputs-2.ensures)
    ∙ append_on c.write_count-5.new.out.items c.push.new.self.items (10 ∷ []) ((flat_map number_text c.args.circuit.now.inputs) ++ ((flat_map latch_text c.args.circuit.now.latches) ++ ((flat_map number_text c.args.circuit.now.outputs) ++ ((flat_map gate_text c.args.circuit.now.gates) ++ (flat_map symbol_text c.args.circuit.now.symbols))))) (c.in_ok-push.ensures.items)
    ∙ append_on c.write_count-4.new.out.items c.write_count-5.new.out.items (count_text (length c.args.circuit.now.gates)) ((10 ∷ []) ++ ((flat_map number_text c.args.circuit.now.inputs) ++ ((flat_map latch_text c.args.circuit.now.latches) ++ ((flat_map number_text c.args.circuit.now.outputs) ++ ((flat_map gate_text c.args.circuit.now.gates) ++ (flat_map symbol_text c.args.circuit.now.symbols)))))) (c.in_ok-write_count-5.ensures.ok ∙ ap (λ (xs : List Gate). c.write_count-4.new.out.items ++ count_text (length xs)) c.gates.ensures)
    ∙ append_on c.write_count-3.new.out.items c.write_count-4.new.out.items (count_text (length c.args.circuit.now.outputs)) ((count_text (length c.args.circuit.now.gates)) ++ ((10 ∷ []) ++ ((flat_map number_text c.args.circuit.now.inputs) ++ ((flat_map latch_text c.args.circuit.now.latches) ++ ((flat_map number_text c.args.circuit.now.outputs) ++ ((flat_map gate_text c.args.circuit.now.gates) ++ (flat_map symbol_text c.args.circuit.now.symbols))))))) (c.in_ok-write_count-4.ensures.ok ∙ ap (λ (xs : List ℕ). c.write_count-3.new.out.items ++ count_text (length xs)) c.outputs.ensures)
    ∙ append_on c.write_count-2.new.out.items c.write_count-3.new.out.items (count_text (length c.args.circuit.now.latches)) ((count_text (length c.args.circuit.now.outputs)) ++ ((count_text (length c.args.circuit.now.gates)) ++ ((10 ∷ []) ++ ((flat_map number_text c.args.circuit.now.inputs) ++ ((flat_map latch_text c.args.circuit.now.latches) ++ ((flat_map number_text c.args.circuit.now.outputs) ++ ((flat_map gate_text c.args.circuit.now.gates) ++ (flat_map symbol_text c.args.circuit.now.symbols)))))))) (c.in_ok-write_count-3.ensures.ok ∙ ap (λ (xs : List Latch). c.write_count-2.new.out.items ++ count_text (length xs)) c.latches.ensures)
    ∙ append_on c.write_count.new.out.items c.write_count-2.new.out.items (count_text (length c.args.circuit.now.inputs)) ((count_text (length c.args.circuit.now.latches)) ++ ((count_text (length c.args.circuit.now.outputs)) ++ ((count_text (length c.args.circuit.now.gates)) ++ ((10 ∷ []) ++ ((flat_map number_text c.args.circuit.now.inputs) ++ ((flat_map latch_text c.args.circuit.now.latches) ++ ((flat_map number_text c.args.circuit.now.outputs) ++ ((flat_map gate_text c.args.circuit.now.gates) ++ (flat_map symbol_text c.args.circuit.now.symbols))))))))) (c.in_ok-write_count-2.ensures.ok ∙ ap (λ (xs : List ℕ). c.write_count.new.out.items ++ count_text (length xs)) c.inputs.ensures)
    ∙ append_on c.extend_from_slice.new.self.items c.write_count.new.out.items (count_text (most_variable_of c.args.circuit.now)) ((count_text (length c.args.circuit.now.inputs)) ++ ((count_text (length c.args.circuit.now.latches)) ++ ((count_text (length c.args.circuit.now.outputs)) ++ ((count_text (length c.args.circuit.now.gates)) ++ ((10 ∷ []) ++ ((flat_map number_text c.args.circuit.now.inputs) ++ ((flat_map latch_text c.args.circuit.now.latches) ++ ((flat_map number_text c.args.circuit.now.outputs) ++ ((flat_map gate_text c.args.circuit.now.gates) ++ (flat_map symbol_text c.args.circuit.now.symbols)))))))))) (c.in_ok-write_count.ensures.ok ∙ ap (λ n. c.extend_from_slice.new.self.items ++ count_text n) c.most_variable.ensures)
    ∙ append_on c.new-out.result.items c.extend_from_slice.new.self.items (codes "aag") ((count_text (most_variable_of c.args.circuit.now)) ++ ((count_text (length c.args.circuit.now.inputs)) ++ ((count_text (length c.args.circuit.now.latches)) ++ ((count_text (length c.args.circuit.now.outputs)) ++ ((count_text (length c.args.circuit.now.gates)) ++ ((10 ∷ []) ++ ((flat_map number_text c.args.circuit.now.inputs) ++ ((flat_map latch_text c.args.circuit.now.latches) ++ ((flat_map number_text c.args.circuit.now.outputs) ++ ((flat_map gate_text c.args.circuit.now.gates) ++ (flat_map symbol_text c.args.circuit.now.symbols))))))))))) (c.in_ok-extend_from_slice.ensures.items)
    ∙ ap (λ (l : List ℕ). l ++ ((codes "aag") ++ ((count_text (most_variable_of c.args.circuit.now)) ++ ((count_text (length c.args.circuit.now.inputs)) ++ ((count_text (length c.args.circuit.now.latches)) ++ ((count_text (length c.args.circuit.now.outputs)) ++ ((count_text (length c.args.circuit.now.gates)) ++ ((10 ∷ []) ++ ((flat_map number_text c.args.circuit.now.inputs) ++ ((flat_map latch_text c.args.circuit.now.latches) ++ ((flat_map number_text c.args.circuit.now.outputs) ++ ((flat_map gate_text c.args.circuit.now.gates) ++ (flat_map symbol_text c.args.circuit.now.symbols))))))))))))) c.new-out.ensures.items
