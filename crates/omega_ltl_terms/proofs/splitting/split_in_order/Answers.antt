-- one edge more
use Rattle.std.proofs.Common.{◌≡◌, ◌<◌, ℕ, List, [], length, get_or, take, sym, subst, arith}
use Rattle.std.proofs.lemmas.List.{take_all}
use Rattle.omega_ltl_shapes.specs.declared.term.Term.{Term}
use Rattle.omega_ltl_shapes.proofs.ItemLemmas.{take_read}
use Rattle.omega_ltl_terms.specs.private.Splitting.{AreSplit, AreSplitInOrder}
use Rattle.omega_ltl_terms.proofs.SplittingLemmas.{order_more, order_none, split_more, split_none}
use Rattle.omega_ltl_terms.proofs.splitting.split_in_order.Goals as goal

pub loop-at-init : goal.loop-at-init
loop-at-init c = record {
  split = subst (AreSplit []) (sym c.new-parts.ensures.items) split_none;
  pieces = subst (AreSplitInOrder []) (sym c.new-parts.ensures.items) order_none;
}

pub loop-at-preserved : goal.loop-at-preserved
loop-at-preserved c =
    let edges : List Term = c.args.edges.now in
    let i : ℕ = c.loop-at.at in
    let here : c.index-edges-at.result ≡ get_or edges i c.index-edges-at.result = cc in
    let below : i < length edges = omega arith in
    record {
      split = subst (λ (xs : List Term). AreSplit xs c.push_parts.new.parts.items) (take_read edges i c.index-edges-at.result below here)
          (split_more (take i edges) c.index-edges-at.result c.loop-at.parts.items c.push_parts.new.parts.items c.loop-at.invariant.split c.in_ok-push_parts.ensures.ok);
      pieces = subst (λ (xs : List Term). AreSplitInOrder xs c.push_parts.new.parts.items) (take_read edges i c.index-edges-at.result below here)
          (order_more (take i edges) c.index-edges-at.result c.loop-at.parts.items c.push_parts.new.parts.items c.loop-at.invariant.pieces c.in_ok-push_parts.ensures.ok);
    }

pub returns-clause-split : goal.returns-clause-split
returns-clause-split c =
    subst (λ (xs : List Term). AreSplit xs c.loop-at.parts.items) (take_all c.loop-at.at c.args.edges.now (omega arith)) c.loop-at.invariant.split

pub returns-clause-pieces : goal.returns-clause-pieces
returns-clause-pieces c =
    subst (λ (xs : List Term). AreSplitInOrder xs c.loop-at.parts.items) (take_all c.loop-at.at c.args.edges.now (omega arith)) c.loop-at.invariant.pieces
