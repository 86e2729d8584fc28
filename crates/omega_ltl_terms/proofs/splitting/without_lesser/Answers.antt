use Rattle.std.proofs.Common.{◌≡◌, true, List, subst}
use Rattle.std.proofs.lemmas.Result.{IfOk-weaker}
use Rattle.omega_ltl_shapes.specs.declared.cube.Cube.{Cube}
use Rattle.omega_ltl_terms.specs.private.Splitting.{AreWithout}
use Rattle.omega_ltl_terms.proofs.SplittingLemmas.{left_more, left_skipped}
use Rattle.omega_ltl_terms.proofs.splitting.without_lesser.Goals as goal

pub returns-then-not-is_lesser : goal.returns-then-not-is_lesser
returns-then-not-is_lesser c before left = left_skipped before c.args.less.now c.args.edge.now c.args.cubes.items left

pub returns : goal.returns
returns c =
    let lesser : c.is_lesser.result ≡ true = cc in
    IfOk-weaker c.without.result _ _
    (λ new without before left. left_more before c.args.less.now c.args.edge.now c.args.cubes.items new.items (c.is_lesser.ensures.0 lesser).no_more left
    (subst (λ (xs : List Cube). AreWithout xs c.args.less.now.cube new.items) c.as_slice.ensures.value without))
    c.without.ensures
