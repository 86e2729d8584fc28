-- the edges in another order
use Rattle.std.proofs.Common.{List, sym, subst}
use Rattle.std.specs.Prelude.{Contains}
use Rattle.std.specs.List.{AllZip}
use Rattle.std.proofs.lemmas.List.Sorted.{Contains-permutation, IsPermutation-sym}
use Rattle.std.proofs.lemmas.Result.{IfOk-weaker}
use Rattle.omega_ltl_shapes.specs.declared.term.Term.{Term}
use Rattle.omega_ltl_terms.specs.Pieces.{ArePieces}
use Rattle.omega_ltl_terms.proofs.SplittingLemmas.{split_same}
use Rattle.omega_ltl_terms.proofs.splitting.split.Goals as goal

pub returns-clause-split : goal.returns-clause-split
returns-clause-split c =
    let edges : List Term = c.args.edges.items in
    let sorted : List Term = c.sort_by_key.new.self.items in
    IfOk-weaker c.split_in_order.result _ _
    (λ parts split. split_same c.as_slice.result.now edges parts.items
    (λ t h. Contains-permutation sorted edges t (IsPermutation-sym edges sorted c.sort_by_key.ensures.permutation) (subst (λ (xs : List Term). Contains xs t) c.as_slice.ensures.value h))
    (λ t h. subst (λ (xs : List Term). Contains xs t) (sym c.as_slice.ensures.value) (Contains-permutation edges sorted t c.sort_by_key.ensures.permutation h))
    split)
    c.split_in_order.ensures.split

pub returns-clause-pieces : goal.returns-clause-pieces
returns-clause-pieces c =
    let edges : List Term = c.args.edges.items in
    let sorted : List Term = c.sort_by_key.new.self.items in
    let back = λ (t : Term) (h : Contains c.as_slice.result.now t).
    Contains-permutation sorted edges t (IsPermutation-sym edges sorted c.sort_by_key.ensures.permutation) (subst (λ (xs : List Term). Contains xs t) c.as_slice.ensures.value h) in
    IfOk-weaker c.split_in_order.result _ _
    (λ parts split possible. record {
      sorted = sorted;
      same = c.sort_by_key.ensures.permutation;
      pieces = split.pieces;
      each = subst (λ (xs : List Term). AllZip ArePieces xs split.pieces) c.as_slice.ensures.value (split.split (λ t h. possible t (back t h)));
      all = split.all;
      names = λ P of_edges. split.names P (λ t h. of_edges t (back t h));
    })
    c.split_in_order.ensures.pieces
