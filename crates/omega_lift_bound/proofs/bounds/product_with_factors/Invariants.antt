-- What holds in the loop of `multiplied`: the number times the factors of the priorities counted,
-- where that is a `u128`.
use Rattle.std.proofs.Common.{◌≡◌, ◌*◌, ◌<◌, ◌^◌, map, drop}
use Rattle.omega_game_values.specs.Bound.{product}
use Rattle.omega_lift_bound.specs.private.Factors.{factor_of}
use Rattle.omega_lift_bound.proofs.bounds.product_with_factors.Given as goal

abbrev pub invariant-loop-count : goal.invariant-loop-count
invariant-loop-count l = record {
  so_far : l.multiple * product (map (factor_of l.player) (drop l.count-index l.counts)) ≡ l.number * product (map (factor_of l.player) l.counts);
  fits : l.multiple < 2 ^ 128;
}
