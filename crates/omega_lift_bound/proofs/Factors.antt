-- The bound as a product over the priorities counted.
use Rattle.std.proofs.Common.{◌≡◌, ℕ, ◌+◌, ◌<◌, ◌⊎◌, inl, inr, Bool, true, false, cond, List, [], ◌∷◌, map, refl, sym, ap, ap₂, ◌*◌, ◌∙◌, arith}
use Rattle.std.proofs.lemmas.Bool.{cases_Bool}
use Rattle.omega_game_values.specs.declared.player.Player.{Player}
use Rattle.omega_game_values.specs.declared.priority_counts.PriorityCount.{PriorityCount}
use Rattle.omega_game_values.specs.Player.{loses}
use Rattle.omega_game_values.specs.Bound.{occurrences, priorities_in_use, priority_counts, product, product_of}
use Rattle.omega_lift_bound.specs.private.Factors.{factor_of}
use Rattle.omega_lift_bound.proofs.Products.{product_kept}

-- the factor of a priority that loses
pub factor_lost : (player : Player) (count : PriorityCount) → loses player count.priority ≡ true → factor_of player count ≡ count.nodes + 1
factor_lost player count lost = ap (λ b. cond b (count.nodes + 1) 1) lost

-- the factor of a priority that does not lose
pub factor_won : (player : Player) (count : PriorityCount) → loses player count.priority ≡ false → factor_of player count ≡ 1
factor_won player count won = ap (λ b. cond b (count.nodes + 1) 1) won

-- no factor is 0
pub factor_positive : (player : Player) (count : PriorityCount) → 0 < factor_of player count
factor_positive player count = go (cases_Bool (loses player count.priority))
  where
    go : (loses player count.priority ≡ true) ⊎ (loses player count.priority ≡ false) → 0 < factor_of player count
    go (inl lost) = omega (arith, factor_lost player count lost)
    go (inr won) = omega (arith, factor_won player count won)

-- a priority that does not lose counts as 1
factor_kept : (b : Bool) (n : ℕ) → cond b (n + 1) 1 ≡ cond b (1 + n) 1
factor_kept true n = omega arith
factor_kept false n = refl

-- the product of the factors is that over the losing priorities among these
product_in_use : (player : Player) (priorities qs : List ℕ)
    → product (map (factor_of player) (map (λ q. record { priority = q; nodes = occurrences priorities q }) qs)) ≡ product (map (λ q. cond (loses player q) (1 + occurrences priorities q) 1) qs)
product_in_use player priorities [] = refl
product_in_use player priorities (q ∷ qs) = ap₂ ◌*◌ (factor_kept (loses player q) (occurrences priorities q)) (product_in_use player priorities qs)

-- the product of the factors of the priorities counted is that over the priorities in use that lose
pub product_by_counts : (player : Player) (priorities : List ℕ) → product (map (factor_of player) (priority_counts priorities)) ≡ product_of player priorities
product_by_counts player priorities =
    product_in_use player priorities (priorities_in_use priorities)
    ∙ sym (product_kept (loses player) (λ q. 1 + occurrences priorities q) (priorities_in_use priorities))
