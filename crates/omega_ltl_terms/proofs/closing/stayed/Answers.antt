use Rattle.std.proofs.Common.{sym, subst, ◌≡◌, ◌<◌, length, List, ℕ, AllPairs, arith}
use Rattle.omega_ltl_terms.proofs.ClosingLemmas.{AreStayedBelow, ascending_more, stayed_more, stayed_zero}
use Rattle.omega_ltl_terms.proofs.closing.stayed.Goals as goal

pub loop-d-init : goal.loop-d-init
loop-d-init c = record {
  stayed = subst (AreStayedBelow c.args.shapes.now c.args.marked.now 0) (sym c.new-items.ensures) (stayed_zero c.args.shapes.now c.args.marked.now);
  ascending = subst (λ (items : List ℕ). AllPairs (λ one other. one < other) items) (sym c.new-items.ensures) (λ i j d less low. absurd (omega (arith, low)));
}

pub loop-d-preserved : goal.loop-d-preserved
loop-d-preserved c = record {
  stayed = stayed_more c.args.shapes.now c.args.marked.now c.loop-d.d c.loop-d.items c.push_stayed.new.items c.loop-d.invariant.stayed c.in_ok-push_stayed.ensures.ok;
  ascending = ascending_more c.loop-d.d c.loop-d.items c.push_stayed.new.items c.in_ok-push_stayed.ensures.ok.behind
      (λ e h. ((c.loop-d.invariant.stayed e).0 h).0) c.loop-d.invariant.ascending;
}

pub returns-clause-stayed : goal.returns-clause-stayed
returns-clause-stayed c = subst (λ (n : ℕ). AreStayedBelow c.args.shapes.now c.args.marked.now n c.loop-d.items) (let e : c.loop-d.d ≡ length c.args.shapes.now = omega arith in e) c.loop-d.invariant.stayed
