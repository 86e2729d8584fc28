-- the literals, the demands and the bits of both
use Rattle.omega_ltl_shapes.proofs.ItemLemmas.{of_both_same}
use Rattle.omega_ltl_shapes.proofs.term.Term.join.Goals as goal

pub returns-in_ok-items_of_both-in-Some-clause-some : goal.returns-in_ok-items_of_both-in-Some-clause-some
returns-in_ok-items_of_both-in-Some-clause-some c = record {
  literals = c.in-Some.ensures.some;
  next = of_both_same c.as_slice.result.now c.args.self.now.next c.as_slice-in-Some.result.now c.args.other.now.next c.in_ok-items_of_both-in-Some.field-0
      c.as_slice.ensures c.as_slice-in-Some.ensures c.in_ok-items_of_both-in-Some.ensures;
  late = c.bits_of_both.ensures;
}
