-- `bound`: the most lifts of a run for the player (Jurdziński 2000): the number of nodes times the product,
-- over the priorities in use that lose for the player, of one more than the number of nodes that have it.
use Rattle.std.proofs.Common.{◌≡◌, ◌≤◌, ◌*◌, ◌^◌, ℕ, map, MatchOption, ap, ap₂, sym, subst, ◌∙◌}
use Rattle.std.proofs.lemmas.List.{length-map}
use Rattle.omega_game_values.specs.Bound.{bound_of, product}
use Rattle.omega_lift_bound.specs.private.Factors.{factor_of}
use Rattle.omega_game_values.specs.Game.{priorities}
use Rattle.omega_lift_bound.proofs.Factors.{product_by_counts}
use Rattle.omega_lift_bound.proofs.bounds.bound.Goals as goal

pub returns : goal.returns
returns c =
    let same : c.len.result * product (map (factor_of c.args.player) c.priority_counts.result.now) ≡ bound_of c.args.player (priorities c.args.game.now) =
    ap₂ ◌*◌ (c.len.ensures.count ∙ sym (length-map c.args.game.now (λ node. node.priority)))
    (ap (λ counts. product (map (factor_of c.args.player) counts)) c.priority_counts.ensures ∙ product_by_counts c.args.player (priorities c.args.game.now)) in
    subst (λ (n : ℕ). MatchOption c.product_with_factors.result (2 ^ 128 ≤ n) (λ b. b ≡ n)) same c.product_with_factors.ensures
