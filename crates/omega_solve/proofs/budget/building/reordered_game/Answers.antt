-- The game that is built is the game with each node at its position.
use Rattle.std.proofs.Common.{◌≡◌, ◌∙◌, ◌++◌, ◌∷◌, [], IfErr, IfOk, List, ap, arith, length, subst, sym}
use Rattle.omega_game_values.specs.declared.node_spec.NodeSpec.{NodeSpec}
use Rattle.omega_game_values.specs.Building.{IsBuildRefusal, IsGameOf}
use Rattle.omega_solve.specs.budget.private.steps.Building.{spec_of, specs_below}
use Rattle.omega_solve.proofs.within_budget.Nodes.{built_reordered, memory_reordered, some_specs, specs_more}
use Rattle.omega_solve.proofs.budget.building.reordered_game.Goals as goal

pub add_positioned-requires-clause-placed : goal.add_positioned-requires-clause-placed
add_positioned-requires-clause-placed c = omega (arith, c.len-position-end.ensures.count, c.len-position-end.ensures.even, c.requires.positioned)

pub add_positioned-requires-clause-position : goal.add_positioned-requires-clause-position
add_positioned-requires-clause-position c = omega (arith, c.loop-position-test.true, c.len-position-end.ensures.count, c.requires.positioned)

pub loop-position-preserved : goal.loop-position-preserved
loop-position-preserved c =
    let permutation = c.args.permutation.now in
    c.in_ok-add_positioned.ensures.ok
    ∙ ap (λ (specs : List NodeSpec). specs ++ spec_of c.args.game.now permutation.positions permutation.places c.loop-position.position ∷ []) c.loop-position.invariant
    ∙ sym (specs_more c.args.game.now permutation.positions permutation.places c.loop-position.position)

pub finish-requires : goal.finish-requires
finish-requires c =
    let nodes = c.args.game.now in
    let permutation = c.args.permutation.now in
    let all : c.loop-position.position ≡ length nodes = omega (arith, c.loop-position-test.false, c.loop-position.auto.position-end, c.len-position-end.ensures.count, c.requires.positioned) in
    let whole = c.loop-position.invariant ∙ ap (specs_below nodes permutation.positions permutation.places) all in
    let placed : length permutation.places ≡ length nodes = omega (arith, c.len-position-end.ensures.count, c.len-position-end.ensures.even, c.requires.positioned) in
    let some = some_specs nodes permutation.positions permutation.places c.keeps_limits.ensures.game c.keeps_limits.ensures.limits c.len-position-end.ensures.inverse c.requires.positioned placed in
    omega (arith, some, ap (λ (specs : List NodeSpec). length specs) whole)

pub returns-clause-reordered : goal.returns-clause-reordered
returns-clause-reordered c =
    let nodes = c.args.game.now in
    let permutation = c.args.permutation.now in
    let all : c.loop-position.position ≡ length nodes = omega (arith, c.loop-position-test.false, c.loop-position.auto.position-end, c.len-position-end.ensures.count, c.requires.positioned) in
    let whole = c.loop-position.invariant ∙ ap (specs_below nodes permutation.positions permutation.places) all in
    let placed : length permutation.places ≡ length nodes = omega (arith, c.len-position-end.ensures.count, c.len-position-end.ensures.even, c.requires.positioned) in
    built_reordered nodes permutation.positions permutation.places c.keeps_limits.ensures.game c.keeps_limits.ensures.limits c.len-position-end.ensures.inverse c.requires.positioned placed
    c.specifications_have_one_game.ensures c.finish.result (subst (λ (specs : List NodeSpec). IfOk c.finish.result (IsGameOf specs)) whole c.finish.ensures.game)

pub returns-clause-memory : goal.returns-clause-memory
returns-clause-memory c =
    let nodes = c.args.game.now in
    let permutation = c.args.permutation.now in
    let all : c.loop-position.position ≡ length nodes = omega (arith, c.loop-position-test.false, c.loop-position.auto.position-end, c.len-position-end.ensures.count, c.requires.positioned) in
    let whole = c.loop-position.invariant ∙ ap (specs_below nodes permutation.positions permutation.places) all in
    let placed : length permutation.places ≡ length nodes = omega (arith, c.len-position-end.ensures.count, c.len-position-end.ensures.even, c.requires.positioned) in
    memory_reordered nodes permutation.positions permutation.places c.keeps_limits.ensures.game c.keeps_limits.ensures.limits c.len-position-end.ensures.inverse c.requires.positioned placed
    c.games_have_no_fault.ensures c.finish.result (subst (λ (specs : List NodeSpec). IfErr c.finish.result (IsBuildRefusal specs)) whole c.finish.ensures.refused)
