-- The turned game of a game within the limits is within them.
use Rattle.std.proofs.Common.{◌≡◌, ℕ, zero, suc, ◌+◌, ◌<◌, ◌≤◌, Bool, true, false, cond, nat_lt, List, [], ◌∷◌, length, get_or, map, filter, count_by, refl, ap, sym, ◌∙◌, subst, arith, ◌==◌}
use Rattle.std.proofs.lemmas.Bool.{ltb-true}
use Rattle.std.proofs.lemmas.Bool.Decides.{nat_tests}
use Rattle.std.proofs.lemmas.List.{ext_get_or, get_or-map, length-map}
use Rattle.std.proofs.lemmas.List.FromFn.{get_or-map-range_with_len}
use Rattle.std.proofs.lemmas.List.Sums.{count_by-le-length, sum-map, sum_by-cons}
use Rattle.std.specs.Prelude.{sum}
use Rattle.omega_text.specs.Limits.{most_number}
use Rattle.omega_game_values.specs.Bound.{below_falling, greatest, occurrences, priorities_in_use}
use Rattle.omega_game_values.specs.Game.{IsWithinLimits, IsWritableNode, Node, no_node, priorities, successor_count}
use Rattle.omega_game_values.specs.Limits.{most_nodes}
use Rattle.omega_answers_game.specs.LeastPriorityLaws.{TurnedGamesKeepLimits}
use Rattle.omega_answers_game.specs.Turning.{greater_count, turned_game, turned_priority}
use Rattle.omega_answers_game.proofs.TurnedGames.{count-turned, priorities-counted, successors-turned, turned_node}
use Rattle.omega_answers_game.proofs.TurnedPriorities.{two-parities}

-- ---- a turned priority is small

-- a number below n + 1 is n or below n
one-more : (p n : ℕ) → cond (nat_lt p (suc n)) 1 0 ≡ cond (p == n) 1 0 + cond (nat_lt p n) 1 0
one-more p n = grind (arith, nat_tests)

count-cons : (test : ℕ → Bool) (p : ℕ) (ps : List ℕ) → count_by test (p ∷ ps) ≡ cond (test p) 1 0 + count_by test ps
count-cons test p ps = sum_by-cons (λ q. cond (test q) 1 0) p ps

counted-below : (n : ℕ) (ps : List ℕ) → count_by (λ p. nat_lt p (suc n)) ps ≡ occurrences ps n + count_by (λ p. nat_lt p n) ps
counted-below n [] = refl
counted-below n (p ∷ ps) =
    omega (
      arith,
      counted-below n ps,
      one-more p n,
      count-cons (λ q. nat_lt q (suc n)) p ps,
      count-cons (λ q. q == n) p ps,
      count-cons (λ q. nat_lt q n) p ps,
    )

-- of numbers below n no more are in use than there are priorities below n
few-used : (n : ℕ) (ps : List ℕ) → length (filter (λ q. nat_lt 0 (occurrences ps q)) (below_falling n)) ≤ count_by (λ p. nat_lt p n) ps
unfolding below_falling
few-used zero ps = omega arith
few-used (suc n) ps = go (nat_lt 0 (occurrences ps n)) refl (few-used n ps)
  where
    go : (b : Bool) → nat_lt 0 (occurrences ps n) ≡ b
        → length (filter (λ q. nat_lt 0 (occurrences ps q)) (below_falling n)) ≤ count_by (λ p. nat_lt p n) ps
        → length (cond b (n ∷ filter (λ q. nat_lt 0 (occurrences ps q)) (below_falling n)) (filter (λ q. nat_lt 0 (occurrences ps q)) (below_falling n)))
        ≤ count_by (λ p. nat_lt p (suc n)) ps
    go true e rest = omega (arith, rest, counted-below n ps, ltb-true 0 (occurrences ps n) e)
    go false e rest = omega (arith, rest, counted-below n ps)

-- so a turned priority is within the limit of numbers
turned-small : (ps : List ℕ) (p : ℕ) → length ps ≤ most_nodes → turned_priority ps p ≤ most_number
turned-small ps p few =
    let above : greater_count p (priorities_in_use ps) ≤ length (priorities_in_use ps) = count_by-le-length (λ q. nat_lt p q) (priorities_in_use ps) in
    let used : length (priorities_in_use ps) ≤ count_by (λ q. nat_lt q (greatest ps + 1)) ps = few-used (greatest ps + 1) ps in
    let all = count_by-le-length (λ q. nat_lt q (greatest ps + 1)) ps in
    omega (arith, above, used, all, few, two-parities p)

-- ---- the turned game

module _ (nodes : List Node) where
  abbrev sizes : List Node → List ℕ
  sizes list = map (λ node. length node.successors) list

  -- as many successors are listed
  sizes-turned : sizes (turned_game nodes) ≡ sizes nodes
  sizes-turned =
      ext_get_or 0 (sizes (turned_game nodes)) (sizes nodes)
      (length-map (turned_game nodes) (λ (node : Node). length node.successors) ∙ count-turned nodes ∙ sym (length-map nodes (λ (node : Node). length node.successors)))
      (λ v inside.
      let here : v < length nodes = omega (arith, inside, length-map (turned_game nodes) (λ (node : Node). length node.successors), count-turned nodes) in
      get_or-map (λ (node : Node). length node.successors) (turned_game nodes) v no_node 0 (omega (arith, here, count-turned nodes))
      ∙ ap (λ (list : List ℕ). length list) (successors-turned nodes v)
      ∙ sym (get_or-map (λ (node : Node). length node.successors) nodes v no_node 0 here))

  edges-turned : successor_count (turned_game nodes) ≡ successor_count nodes
  edges-turned =
      sym (sum-map (λ (node : Node). length node.successors) (turned_game nodes)) ∙ ap sum sizes-turned
      ∙ sum-map (λ (node : Node). length node.successors) nodes

  -- each node can be written
  writable-turned : IsWithinLimits nodes → (v : ℕ) → v < length nodes → IsWritableNode (turned_node nodes v)
  writable-turned limits v inside =
      let writable = limits.writable v no_node inside in
      let listed : v < length (priorities nodes) = omega (arith, inside, priorities-counted nodes) in
      let small = turned-small (priorities nodes) (get_or (priorities nodes) v 0) (omega (arith, limits.few_nodes, priorities-counted nodes)) in
      record {
        identifier = writable.identifier;
        priority = subst (λ p. p ≤ most_number) (sym (get_or-map (turned_priority (priorities nodes)) (priorities nodes) v 0 0 listed)) small;
        name = writable.name;
      }

pub turned-limits : TurnedGamesKeepLimits
turned-limits nodes limits = record {
  few_nodes = omega (arith, limits.few_nodes, count-turned nodes);
  few_edges = omega (arith, limits.few_edges, edges-turned nodes);
  writable = λ v d inside.
      let here : v < length nodes = omega (arith, inside, count-turned nodes) in
      subst IsWritableNode (sym (get_or-map-range_with_len (turned_node nodes) 0 (length nodes) v v d here (omega arith)))
      (writable-turned nodes limits v here);
}
