-- The lists are those that were given, and the wires are the same lists.
use Rattle.std.proofs.Common.{ap, ◌∙◌}
use Rattle.omega_circuit.specs.private.Numbers.{next_literals}
use Rattle.omega_circuit.specs.private.Steps.{circuit_with}
use Rattle.omega_circuit.proofs.Canonicals.{own_wires, same_lists}
use Rattle.omega_circuit.proofs.circuit.circuit_of_lists.Goals as goal

pub invariant_of-result : goal.invariant_of-result
invariant_of-result c =
    own_wires (circuit_with c.from_vec.result c.from_vec-2.result c.from_vec-3.result c.from_vec-4.result c.from_vec-5.result)
    (circuit_with c.args.inputs.items c.args.latches.items c.args.outputs.items c.args.gates.items c.args.symbols.items)
    c.in_ok-steps.steps.items (record { nexts = c.in_ok-nexts.nexts; outputs = c.in_ok-read_outputs.read_outputs })
    (same_lists c.from_vec.result c.args.inputs.items c.from_vec-2.result c.args.latches.items c.from_vec-3.result c.args.outputs.items c.from_vec-4.result c.args.gates.items
    c.from_vec-5.result c.args.symbols.items c.from_vec.ensures c.from_vec-2.ensures c.from_vec-3.ensures c.from_vec-4.ensures c.from_vec-5.ensures)
    (c.in_ok-steps.ensures.items ∙ c.as_slice-3.ensures.value) (c.in_ok-nexts.ensures ∙ ap next_literals c.as_slice.ensures.value)
    (c.in_ok-read_outputs.ensures.items ∙ c.as_slice-2.ensures.value) c.requires.shape c.requires.circuit
