-- One gate more.
use Rattle.std.proofs.Common.{max, get_or, sym, ap, ◌∙◌}
use Rattle.omega_circuit.specs.declared.gate.Gate.{Gate}
use Rattle.omega_aiger.proofs.Greatest.{greatest_map_more, ord_max_is}
use Rattle.omega_aiger.proofs.writing.greatest_gate.Goals as goal

pub loop-gate-preserved : goal.loop-gate-preserved
loop-gate-preserved c =
    c.max-most.ensures ∙ ord_max_is c.loop-gate.most (get_or c.args.gates.now c.loop-gate.gate-index (record { literal = 0; left = 0; right = 0 })).literal ∙ ap (λ m. max m (get_or c.args.gates.now c.loop-gate.gate-index (record { literal = 0; left = 0; right = 0 })).literal) c.loop-gate.invariant ∙ sym (greatest_map_more (λ (gate : Gate). gate.literal) c.args.gates.now c.loop-gate.gate-index (record { literal = 0; left = 0; right = 0 }) c.loop-gate-test.true)
