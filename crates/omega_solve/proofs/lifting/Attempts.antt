-- Edges into the places of a run: how often a lift makes predecessors pending.
use Rattle.std.proofs.Common.{◌≡◌, ◌==◌, ℕ, ◌*◌, ◌<◌, ◌≤◌, List, [], ◌∷◌, length, refl, sym, ap, ◌∙◌, arith, get_or, replicate, set}
use Rattle.std.specs.List.{All, sum_by, range_with_len}
use Rattle.std.proofs.Math.Nat.{mul_comm, mul-le-mul_right}
use Rattle.std.proofs.lemmas.Nat.{mul-le}
use Rattle.std.proofs.lemmas.List.{length-replicate}
use Rattle.std.proofs.lemmas.List.Concat.{length-flat_map}
use Rattle.std.proofs.lemmas.List.Elements.{All-nil, All-cons, Contains-get_or}
use Rattle.std.proofs.lemmas.List.Sums.{count_by-le-length, sum_by-cons, sum_by-le}
use Rattle.omega_game_values.specs.declared.player.Player.{Player}
use Rattle.omega_game_values.specs.Bound.{product_of}
use Rattle.omega_game_values.specs.Game.{Node, IsGame, successor_count, listed_times, no_node, priorities, successors_at}
use Rattle.omega_game_values.specs.Limits.{most_successors}
use Rattle.omega_lift_laws.specs.Measure.{Measure}
use Rattle.omega_lift_laws.specs.Run.{IsLiftingRun, zero_table}
use Rattle.omega_lift_laws.specs.Laws.{PlacesAreLiftedBoundedly}
use Rattle.omega_solve.specs.Limits.{most_lifts}
use Rattle.omega_solve.specs.private.solving.Progress.{in_degree}
use Rattle.omega_solve.proofs.lifting.Totals.{sum_by-indices, sum_by-range, sum_by-times, times_in, total, total_le, total_same, total_swap, total_times}

-- the edges into a place are those of all nodes that lead there
in_degree_is : (nodes : List Node) (v : ℕ) → in_degree nodes v ≡ total (λ u. listed_times nodes u v) (length nodes)
in_degree_is nodes v =
    length-flat_map (λ (u : ℕ). replicate (listed_times nodes u v) u) (range_with_len 0 (length nodes))
    ∙ (sum_by-range (λ u. length (replicate (listed_times nodes u v) u)) (length nodes)
    ∙ total_same (λ u. length (replicate (listed_times nodes u v) u)) (λ u. listed_times nodes u v) (length nodes)
    (λ u _. length-replicate (listed_times nodes u v) u))

-- the edges are those of all nodes
edges_are : (nodes : List Node) → successor_count nodes ≡ total (λ u. length (successors_at nodes u)) (length nodes)
edges_are nodes = sum_by-indices (λ (node : Node). length node.successors) nodes no_node

-- at most all edges lead into one place
pub in_degree_le : (nodes : List Node) (v : ℕ) → in_degree nodes v ≤ successor_count nodes
in_degree_le nodes v =
    omega (
      arith,
      in_degree_is nodes v,
      edges_are nodes,
      total_le (λ u. listed_times nodes u v) (λ u. length (successors_at nodes u)) (length nodes)
          (λ u _. count_by-le-length (λ (w : ℕ). w == v) (successors_at nodes u)),
    )

-- as many ones as elements
sum_by-ones : (xs : List ℕ) → sum_by (λ (x : ℕ). 1) xs ≡ length xs
sum_by-ones [] = refl
sum_by-ones (x ∷ xs) = omega (arith, sum_by-cons (λ (x : ℕ). 1) x xs, sum_by-ones xs)

-- each number of a list below n has a place below n
length_is_times : (n : ℕ) (xs : List ℕ) → All (λ x. x < n) xs → total (λ v. times_in xs v) n ≡ length xs
length_is_times n xs all =
    total_same (λ v. times_in xs v) (λ v. times_in xs v * 1) n (λ v _. omega arith)
    ∙ (sym (sum_by-times (λ v. 1) n xs all) ∙ sum_by-ones xs)

-- the edges into all places are all edges
pub edges_enter : (nodes : List Node) → IsGame nodes → total (in_degree nodes) (length nodes) ≡ successor_count nodes
edges_enter nodes game =
    total_same (in_degree nodes) (λ v. total (λ u. listed_times nodes u v) (length nodes)) (length nodes) (λ v _. in_degree_is nodes v)
    ∙ (total_swap (λ u v. listed_times nodes u v) (length nodes) (length nodes)
    ∙ (total_same (λ u. total (λ v. listed_times nodes u v) (length nodes)) (λ u. length (successors_at nodes u)) (length nodes)
    (λ u _. length_is_times (length nodes) (successors_at nodes u) (λ k d lt. game.closed u (get_or (successors_at nodes u) k d) (Contains-get_or (successors_at nodes u) k d lt)))
    ∙ sym (edges_are nodes)))

-- the places of a run are places of the game
pub run_inside : (nodes : List Node) (player : Player) (old new : List Measure) (places : List ℕ)
    → IsLiftingRun nodes player old places new → All (λ v. v < length nodes) places
run_inside nodes player old new [] lifted = All-nil (λ v. v < length nodes)
run_inside nodes player old new (v ∷ vs) lifted =
    All-cons (λ v. v < length nodes) v vs lifted.1 (run_inside nodes player (set old v lifted.0) new vs lifted.3)

-- the edges into the places of a run from the all-zero table are at most all edges as often as the product
pub in_degrees_bounded : (nodes : List Node) (player : Player) (places : List ℕ) (new : List Measure)
    → IsGame nodes → PlacesAreLiftedBoundedly
    → IsLiftingRun nodes player (zero_table player (priorities nodes)) places new
    → sum_by (in_degree nodes) places ≤ successor_count nodes * product_of player (priorities nodes)
in_degrees_bounded nodes player places new game bounded lifted =
    let n = length nodes in
    let p = product_of player (priorities nodes) in
    let inside = run_inside nodes player (zero_table player (priorities nodes)) new places lifted in
    let few : total (λ v. times_in places v * in_degree nodes v) n ≤ total (λ v. p * in_degree nodes v) n =
    total_le (λ v. times_in places v * in_degree nodes v) (λ v. p * in_degree nodes v) n
    (λ v _. mul-le-mul_right (in_degree nodes v) (bounded nodes player places new v lifted)) in
    let all : total (in_degree nodes) n ≡ successor_count nodes = edges_enter nodes game in
    let most : p * total (in_degree nodes) n ≡ successor_count nodes * p = ap (λ m. p * m) all ∙ mul_comm p (successor_count nodes) in
    omega (arith, sum_by-times (in_degree nodes) n places inside, total_times p (in_degree nodes) n)

-- and within the limits at most the most successors of a game for each of the most lifts
pub in_degrees_fits : (nodes : List Node) (places : List ℕ) → successor_count nodes ≤ most_successors → length places ≤ most_lifts
    → sum_by (in_degree nodes) places ≤ most_lifts * most_successors
in_degrees_fits nodes places few short =
    omega (
      arith,
      sum_by-le (in_degree nodes) (successor_count nodes) places (λ k d _. in_degree_le nodes (get_or places k d)),
      mul-le (length places) (successor_count nodes) most_lifts most_successors short few,
    )
