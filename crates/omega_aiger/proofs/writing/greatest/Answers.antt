-- One number more.
use Rattle.std.proofs.Common.{max, get_or, sym, ap, ◌∙◌}
use Rattle.omega_aiger.proofs.Greatest.{greatest_more, ord_max_is}
use Rattle.omega_aiger.proofs.writing.greatest.Goals as goal

pub loop-number-preserved : goal.loop-number-preserved
loop-number-preserved c =
    c.max-most.ensures ∙ ord_max_is c.loop-number.most (get_or c.args.numbers.now c.loop-number.number-index 0) ∙ ap (λ m. max m (get_or c.args.numbers.now c.loop-number.number-index 0)) c.loop-number.invariant ∙ sym (greatest_more c.args.numbers.now c.loop-number.number-index c.loop-number-test.true)
