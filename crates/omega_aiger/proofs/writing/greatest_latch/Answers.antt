-- One latch more.
use Rattle.std.proofs.Common.{max, get_or, sym, ap, ◌∙◌}
use Rattle.omega_circuit.specs.declared.latch.Latch.{Latch}
use Rattle.omega_aiger.proofs.Greatest.{greatest_map_more, ord_max_is}
use Rattle.omega_aiger.proofs.writing.greatest_latch.Goals as goal

pub loop-latch-preserved : goal.loop-latch-preserved
loop-latch-preserved c =
    c.max-most.ensures ∙ ord_max_is c.loop-latch.most (get_or c.args.latches.now c.loop-latch.latch-index (record { literal = 0; next = 0; reset = 0 })).literal ∙ ap (λ m. max m (get_or c.args.latches.now c.loop-latch.latch-index (record { literal = 0; next = 0; reset = 0 })).literal) c.loop-latch.invariant ∙ sym (greatest_map_more (λ (latch : Latch). latch.literal) c.args.latches.now c.loop-latch.latch-index (record { literal = 0; next = 0; reset = 0 }) c.loop-latch-test.true)
