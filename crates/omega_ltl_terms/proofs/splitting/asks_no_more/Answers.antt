use Rattle.std.proofs.Common.{sym}
use Rattle.omega_ltl_shapes.proofs.ItemLemmas.{has_items_same}
use Rattle.omega_ltl_terms.proofs.splitting.asks_no_more.Goals as goal

pub returns-then-has_bits_of : goal.returns-then-has_bits_of
returns-then-has_bits_of c = (
  λ h. record {
    next = has_items_same c.as_slice-then-has_bits_of.result.now c.args.less.now.next c.as_slice.result.now c.args.edge.now.next
        c.as_slice-then-has_bits_of.ensures c.as_slice.ensures (c.has_items.ensures.0 h);
    late = c.has_bits_of.ensures.0 c.if-has_bits_of.true;
  },
  λ w. c.has_items.ensures.1 (has_items_same c.args.less.now.next c.as_slice-then-has_bits_of.result.now c.args.edge.now.next c.as_slice.result.now
      (sym c.as_slice-then-has_bits_of.ensures) (sym c.as_slice.ensures) w.next),
)
