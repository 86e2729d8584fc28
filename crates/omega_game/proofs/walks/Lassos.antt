-- A place of a losing priority that is reached and recurs gives a lasso that shows that the strategy does not win.
use Rattle.std.proofs.Common.{ℕ, ◌<◌, IsTrue, Option, List, length, All, sym, subst}
use Rattle.std.proofs.lemmas.List.Elements.{All-contains}
use Rattle.omega_game_values.specs.declared.player.Player.{Player}
use Rattle.omega_game_values.specs.Game.{Node, IsGame, priority_at}
use Rattle.omega_game_values.specs.Winning.{IsStrategy, IsWalk, IsClosedWalk, greatest_on}
use Rattle.omega_game_values.specs.Player.{loses}
use Rattle.omega_game.specs.declared.lasso.Lasso.{Lasso}
use Rattle.omega_game.specs.Counterexample.{IsCounterexample}
use Rattle.omega_game.specs.private.refuting.Ways.{LeadsTo, IsCycle}
use Rattle.omega_game.proofs.walks.Recurrence.{walk_from_path, walk_below, round, greatest_round}

module _ (nodes : List Node) (player : Player) (choices : List (Option ℕ)) (game : IsGame nodes) (strategy : IsStrategy nodes player choices) where
  -- a way to the place and a cycle at it are a counterexample
  pub lasso_loses : (most : ℕ) (places : List ℕ) (v : ℕ) (lasso : Lasso) → All (λ place. place < length nodes) places
      → IsTrue (loses player (priority_at nodes v)) → LeadsTo nodes choices most places v lasso.stem → IsCycle nodes choices v lasso.cycle
      → IsCounterexample nodes player choices places lasso
  lasso_loses most places v lasso inside losing there around = record {
    start = there.reached.start;
    listed = there.reached.listed;
    there = there.reached.after;
    walk = walk;
    first = v;
    stem = there.whole;
    onward = around.onward;
    cycle = around.whole;
    closed = subst (λ ws. IsClosedWalk nodes player choices v ws) (sym around.way.whole) (round nodes player choices game strategy v below around.way.reached);
    lost = subst (λ ws. IsTrue (loses player (greatest_on nodes v ws))) (sym around.way.whole)
        (subst (λ (q : ℕ). IsTrue (loses player q)) (greatest_round nodes player choices game strategy v around.way.reached) losing);
  }
    where
      first_inside : there.reached.start < length nodes
      first_inside = All-contains (λ place. place < length nodes) places there.reached.start inside there.reached.listed

      walk : IsWalk nodes player choices there.reached.start there.reached.after
      walk = walk_from_path nodes player choices game strategy most there.reached.start there.reached.after first_inside there.reached.path

      below : v < length nodes
      below = subst (λ (u : ℕ). u < length nodes) there.reached.ends (walk_below nodes player choices game strategy there.reached.start there.reached.after walk)
