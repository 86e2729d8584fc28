-- `marked`: marks the places.
use Rattle.std.proofs.Common.{◌≡◌, ◌<◌, get_or, [], false, replicate, refl, rules, sym, subst, arith}
use Rattle.std.proofs.lemmas.Grind.{common_steps}
use Rattle.omega_game.specs.private.checking.Following.{AreMarked}
use Rattle.omega_game.proofs.walks.Closing.{marked_none, marked_more}
use Rattle.omega_game.proofs.following.marks_of_places.Goals as goal

pub loop-place-init : goal.loop-place-init
loop-place-init c =
    let clear : c.in_ok-marks.marks.items ≡ replicate c.args.count false = c.in_ok-marks.ensures.items_if_clones_equal (λ y e. e) in
    record {
      count = search rules;
      marked = subst (AreMarked []) (sym clear) (marked_none c.args.count);
    }

pub loop-place-preserved : goal.loop-place-preserved
loop-place-preserved c =
    let so_far = c.loop-place.invariant in
    let p = get_or c.args.places.now c.loop-place.place-index 0 in
    let inside : p < c.args.count = c.requires.inside c.loop-place.place-index 0 (omega arith) in
    record {
      count = grind (arith, common_steps);
      marked = marked_more c.args.places.now c.loop-place.place-index c.loop-place.marks.items _ (omega arith) so_far.marked (omega (arith, so_far.count)) refl;
    }
