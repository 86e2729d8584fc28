-- `places_near`: the search begins, goes on and ends.
use Rattle.std.proofs.Common.{◌≡◌, ◌<◌, ℕ, Bool, List, [], All, true, false, not, inl, inr, length, replicate, eqb-true, refl, subst, sym, arith}
use Rattle.omega_game_reaching.proofs.Marking.{empty_of_none}
use Rattle.omega_game_dot.specs.private.Entering.{AreEntered, IsAfter}
use Rattle.omega_game_dot.proofs.Searching.{front_inside, search_begins, search_ends, search_goes_on, spent}
use Rattle.omega_game_dot.proofs.near.places_near.Goals as goal
use Rattle.omega_game_dot.proofs.near.places_near.Goals.{then-loop-left-test+else-ne, else-loop-left-test}

-- what is not false is true
not_false : (b : Bool) → false ≡ not b → b ≡ true
not_false true e = refl
not_false false e = cc

pub loop-left-init : goal.loop-left-init
loop-left-init c =
    search_begins c.args.game.now c.args.depth c.args.place c.in_ok-drawn.drawn.items c.new-front.result.items _ _ c.requires
    (subst (λ (n : ℕ). c.in_ok-drawn.drawn.items ≡ replicate n false) c.len.ensures.count (c.in_ok-drawn.ensures.items_if_clones_equal (λ y e. e)))
    c.new-front.ensures.items c.in_ok-enter.ensures

pub enter_after-requires-clause-front : goal.enter_after-requires-clause-front
enter_after-requires-clause-front c =
    subst (λ (all : List ℕ). All (λ v. v < length c.args.game.now) all) (sym c.deref.ensures.value)
    (front_inside c.args.game.now c.args.depth c.args.place _ _ _ c.loop-left.invariant)

pub loop-left-preserved : goal.loop-left-preserved
loop-left-preserved c =
    search_goes_on c.args.game.now c.args.depth c.args.place _ _ _ _ _ _ c.keeps_limits.ensures.game c.requires c.loop-left.invariant
    (subst (λ (all : List ℕ). AreEntered (IsAfter c.args.game.now all) c.loop-left.drawn.items [] c.enter_after.new.drawn.items c.in_ok-front.front.items)
    c.deref.ensures.value c.in_ok-front.ensures.entered)
    c.one_less-left.ensures

pub returns-clause-exactly : goal.returns-clause-exactly
returns-clause-exactly c =
    search_ends c.args.game.now c.args.depth c.args.place _ _ _ c.loop-left.invariant
    (elim c.loop-left-test.branch [
      | then-loop-left-test+else-ne w ↦ inr (spent c.args.game.now c.args.depth c.args.place c.loop-left.left (not_false _ w.if-ne.ensures))
      | else-loop-left-test w ↦ inl (empty_of_none c.loop-left.front.items (omega (arith, eqb-true _ _ (sym w.loop-left-test.ensures), c.loop-left.front.ok.0)))
    ])
