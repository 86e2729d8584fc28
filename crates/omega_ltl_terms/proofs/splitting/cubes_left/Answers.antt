-- one edge more
use Rattle.std.proofs.Common.{◌≡◌, ◌<◌, ℕ, List, [], ◌∷◌, ◌++◌, length, get_or, take, ap, sym, subst, ◌∙◌}
use Rattle.std.proofs.Common.{arith}
use Rattle.std.proofs.lemmas.List.{take_all}
use Rattle.omega_ltl_shapes.specs.declared.cube.Cube.{Cube}
use Rattle.omega_ltl_shapes.specs.declared.term.Term.{Term}
use Rattle.omega_ltl_shapes.proofs.ItemLemmas.{take_read}
use Rattle.omega_ltl_terms.specs.private.Splitting.{AreLeft}
use Rattle.omega_ltl_terms.proofs.SplittingLemmas.{left_none}
use Rattle.omega_ltl_terms.proofs.splitting.cubes_left.Goals as goal

pub loop-less-init : goal.loop-less-init
loop-less-init c =
    subst (AreLeft [] c.args.edge.now) (sym (c.in_ok-push.ensures.items ∙ ap (λ (xs : List Cube). xs ++ c.args.edge.now.cube ∷ []) c.new-cubes.ensures.items)) (left_none c.args.edge.now)

pub loop-less-preserved : goal.loop-less-preserved
loop-less-preserved c =
    let before : List Term = c.args.before.now in
    let i : ℕ = c.loop-less.less-index in
    let here : c.less-item.result ≡ get_or before i c.less-item.result = cc in
    let below : i < length before = omega arith in
    subst (λ (xs : List Term). AreLeft xs c.args.edge.now c.in_ok-cubes.cubes.items) (take_read before i c.less-item.result below here)
    (c.in_ok-cubes.ensures (take i before) c.loop-less.invariant)

pub returns : goal.returns
returns c = subst (λ (xs : List Term). AreLeft xs c.args.edge.now c.loop-less.cubes.items) (take_all c.loop-less.less-index c.args.before.now (omega arith)) c.loop-less.invariant
