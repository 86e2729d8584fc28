-- `reached_from`: marks the places that are reached from the given ones through priorities at most `most`.
use Rattle.std.proofs.Common.{◌≡◌, ℕ, List, false, replicate, subst, arith}
use Rattle.omega_game_reaching.specs.private.Entering.{AreEntered}
use Rattle.omega_game_reaching.proofs.Marking.{IsSearch, search_begins, search_goes_on, search_ends, top_below, empty_of_none}
use Rattle.omega_game_reaching.proofs.reaching.reached_from.Goals as goal

pub loop-place-init : goal.loop-place-init
loop-place-init c =
    search_begins c.args.game.now c.args.choices.now c.args.most c.args.places.now c.in_ok-marks.marks.items c.new-stack.result.items _ _ (subst (λ (n : ℕ). c.in_ok-marks.marks.items ≡ replicate n false) c.len.ensures.count (c.in_ok-marks.ensures.items_if_clones_equal (λ y e. e))) c.new-stack.ensures.items c.in_ok-enter.ensures.entered

pub edges_left-requires-clause-inside : goal.edges_left-requires-clause-inside
edges_left-requires-clause-inside c =
    let P = λ (stack : List ℕ). IsSearch c.args.game.now c.args.choices.now c.args.most c.args.places.now c.loop-place.marks.items stack in
    top_below _ _ _ _ _ c.pop.new.self.items _ (subst P c.in-Some.ensures.items c.loop-place.invariant)

pub loop-place-preserved : goal.loop-place-preserved
loop-place-preserved c =
    let P = λ (stack : List ℕ). IsSearch c.args.game.now c.args.choices.now c.args.most c.args.places.now c.loop-place.marks.items stack in
    let Q = λ (ws : List ℕ). AreEntered c.args.game.now c.args.most ws c.loop-place.marks.items c.pop.new.self.items c.enter-in-Some.new.marks.items c.enter-in-Some.new.stack.items in
    search_goes_on _ _ _ _ _ c.pop.new.self.items c.in-Some.place _ _ (subst P c.in-Some.ensures.items c.loop-place.invariant)
    (subst Q c.edges_left.ensures.left c.in_ok-enter-2.ensures.entered)

pub returns-clause-reached : goal.returns-clause-reached
returns-clause-reached c =
    let P = λ (stack : List ℕ). IsSearch c.args.game.now c.args.choices.now c.args.most c.args.places.now c.loop-place.marks.items stack in
    search_ends _ _ _ _ _ (subst P (empty_of_none c.loop-place.stack.items (omega (arith, c.in_default.ensures.cases.0, c.loop-place.stack.ok.0))) c.loop-place.invariant)
