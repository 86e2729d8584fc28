-- `multiplied`: the number times the factors of the priorities counted, where that is a `u128`.
use Rattle.std.proofs.Common.{◌≡◌, ◌*◌, ◌^◌, ◌+◌, map, drop, get_or, ap, sym, ◌∙◌, arith, inl, inr}
use Rattle.std.proofs.lemmas.Bool.{cases_lt}
use Rattle.omega_game_values.specs.declared.priority_counts.PriorityCount.{PriorityCount}
use Rattle.omega_game_values.specs.Bound.{product}
use Rattle.omega_lift_bound.specs.private.Factors.{factor_of}
use Rattle.omega_lift_bound.proofs.Factors.{factor_lost, factor_won, factor_positive}
use Rattle.omega_lift_bound.proofs.Products.{product_more, product_reached}
use Rattle.omega_lift_bound.proofs.bounds.product_with_factors.Goals as goal
use Rattle.omega_lift_bound.proofs.bounds.product_with_factors.Goals.{then-loses+in_ok-multiple, else-loses}

-- what stands past the end of the counts
abbrev no_count : PriorityCount
no_count = record { priority = 0; nodes = 0 }

pub returns-in_err-multiple : goal.returns-in_err-multiple
returns-in_err-multiple c =
    let count = get_or c.args.counts.now c.loop-count.count-index no_count in
    let lost : factor_of c.args.player count ≡ count.nodes + 1 = factor_lost c.args.player count (sym c.if-loses.ensures) in
    let taken = product_more (factor_of c.args.player) c.args.counts.now c.loop-count.count-index c.loop-count.multiple (c.loop-count.multiple * (count.nodes + 1)) (c.args.number * product (map (factor_of c.args.player) c.args.counts.now)) no_count (omega (arith, c.loop-count-test.true))
    c.loop-count.invariant.so_far (ap (λ f. c.loop-count.multiple * f) (sym lost)) in
    rw c.from_residual.ensures
    (product_reached (factor_of c.args.player) (drop (c.loop-count.count-index + 1) c.args.counts.now) _ _ (2 ^ 128) (factor_positive c.args.player) taken (elim (cases_lt (c.loop-count.multiple * (count.nodes + 1)) (2 ^ 128)) [ inl below ↦ absurd (c.in_err-multiple.ensures below) | inr reached ↦ reached ]))

pub loop-count-preserved : goal.loop-count-preserved
loop-count-preserved c =
    let count = get_or c.args.counts.now c.loop-count.count-index no_count in
    elim c.if-loses.branch [
      | then-loses+in_ok-multiple w ↦
          let lost : factor_of c.args.player count ≡ count.nodes + 1 = factor_lost c.args.player count (sym w.if-loses.ensures) in
          record {
            so_far = product_more (factor_of c.args.player) c.args.counts.now c.loop-count.count-index c.loop-count.multiple _ _ no_count (omega (arith, c.loop-count-test.true))
                c.loop-count.invariant.so_far (w.multiple-is ∙ w.in_ok-multiple.ensures.1 ∙ ap (λ f. c.loop-count.multiple * f) (sym lost));
            fits = omega (arith, w.multiple-is, w.in_ok-multiple.ensures.0, w.in_ok-multiple.ensures.1);
          }
      | else-loses w ↦
          let won : factor_of c.args.player count ≡ 1 = factor_won c.args.player count (sym w.if-loses.ensures) in
          record {
            so_far = product_more (factor_of c.args.player) c.args.counts.now c.loop-count.count-index c.loop-count.multiple _ _ no_count (omega (arith, c.loop-count-test.true))
                c.loop-count.invariant.so_far (omega (arith, w.multiple-is, ap (λ f. c.loop-count.multiple * f) won));
            fits = omega (arith, w.multiple-is, c.loop-count.invariant.fits);
          }
    ]
