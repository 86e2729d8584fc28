-- An explanation is the text of a walk of the game.
use Rattle.std.proofs.Common.{◌≡◌, ℕ, ◌<◌, ◌≤◌, All, List, [], ◌∷◌, ◌++◌, Option, codes, decimal, length, refl, sym, ap, subst, ◌∙◌, append-nil, arith}
use Rattle.std.proofs.lemmas.List.Elements.{All-cons, All-nil}
use Rattle.omega_game.specs.Counterexample.{IsCounterexample}
use Rattle.omega_game.specs.declared.lasso.Lasso.{Lasso}
use Rattle.omega_answers_game.specs.Verify.{LosesGiven, explained_text, identifiers_text}
use Rattle.omega_answers_game.proofs.Explaining.{cycle-inside, stem-inside}
use Rattle.omega_game_values.specs.Game.{IsGame, IsWithinLimits, Node, identifier_at}
use Rattle.omega_game_values.specs.Paths.{IsPath}
use Rattle.omega_game_values.specs.Player.{player_number}
use Rattle.omega_game_values.specs.Solution.{choices_of}
use Rattle.omega_game_values.specs.Winning.{IsWalk}
use Rattle.omega_game_values.specs.declared.player.Player.{Player}
use Rattle.omega_game_values.specs.declared.solution.Solution.{Solution}
use Rattle.omega_answers_walk.specs.WalkTextLaws.{WrittenWalksAreRead, identifiers_of, no_line}
use Rattle.omega_answers_walk.specs.Written.{nodes_text, walk_text}
use Rattle.omega_text.specs.Limits.{most_text}
use Rattle.std.specs.Prelude.{Bool, false, true}
use Rattle.omega_answers_walk.specs.Laws.{ExplanationsAreWalks}
use Rattle.omega_answers_walk.specs.Walk.{AreJoined, IsLassoIn, IsWalkOf}

module _ (nodes : List Node) where
  -- a walk that a strategy leaves possible is one along listed edges
  walk_path : (player : Player) (choices : List (Option ℕ)) (v : ℕ) (ws : List ℕ) → IsWalk nodes player choices v ws → IsPath nodes v ws
  walk_path player choices v [] walk = walk
  walk_path player choices v (w ∷ ws) walk = (walk.0.listed, walk_path player choices w ws walk.1)

  -- a path, and one from its end on
  path_join : (u : ℕ) (us : List ℕ) (v : ℕ) (ws : List ℕ) → IsPath nodes u (us ++ v ∷ []) → IsPath nodes v ws → IsPath nodes u (us ++ v ∷ ws)
  path_join u [] v ws first second = (first.0, second)
  path_join u (x ∷ xs) v ws first second = (first.0, path_join x xs v ws first.1 second)

  join : (stem : List ℕ) (v : ℕ) (ws : List ℕ) → AreJoined nodes (stem ++ v ∷ []) → IsPath nodes v ws → AreJoined nodes (stem ++ v ∷ ws)
  join [] v ws first second = second
  join (u ∷ us) v ws first second = path_join u us v ws first second

  -- a counterexample is a lasso of the game
  lasso_joined : (player : Player) (choices : List (Option ℕ)) (places : List ℕ) (lasso : Lasso) → IsCounterexample nodes player choices places lasso
      → IsLassoIn nodes lasso.stem lasso.cycle
  lasso_joined player choices places lasso lost =
      let first = subst (AreJoined nodes) (sym lost.stem) (walk_path player choices lost.start lost.there lost.walk) in
      let second = walk_path player choices lost.first (lost.onward ++ lost.first ∷ []) lost.closed.walk in
      subst (IsLassoIn nodes lasso.stem) (sym lost.cycle) (join lasso.stem lost.first (lost.onward ++ lost.first ∷ []) first second)

  -- identifiers without names
  bare_text : (places : List ℕ) → identifiers_text nodes places ≡ nodes_text false nodes places
  bare_text [] = refl
  bare_text (place ∷ places) =
      ap (λ (id : List ℕ). (codes " " ++ id) ++ identifiers_text nodes places) (sym (append-nil (decimal (identifier_at nodes place))))
      ∙ ap (λ (list : List ℕ). (codes " " ++ (decimal (identifier_at nodes place) ++ [])) ++ list) (bare_text places)

  bare_walk : (player : Player) (lasso : Lasso) → explained_text nodes player lasso ≡ no_line true ++ walk_text false nodes player lasso.stem lasso.cycle
  bare_walk player lasso =
      ap (λ (list : List ℕ). codes "no\nplayer " ++ (decimal (player_number player) ++ (codes "\nstem" ++ (list
      ++ (codes "\ncycle" ++ (identifiers_text nodes lasso.cycle ++ codes "\n")))))) (bare_text lasso.stem)
      ∙ ap (λ (list : List ℕ). codes "no\nplayer " ++ (decimal (player_number player) ++ (codes "\nstem" ++ (nodes_text false nodes lasso.stem
      ++ (codes "\ncycle" ++ (list ++ codes "\n")))))) (bare_text lasso.cycle)

  cycle_longer : (stem cycle : List ℕ) → IsLassoIn nodes stem cycle → 0 < length cycle
  cycle_longer stem [] lasso = absurd lasso
  cycle_longer stem (first ∷ onward) lasso = omega arith

-- what is written of a lasso that explains is a walk of the game
explained_walk : WrittenWalksAreRead → (names : Bool) (nodes : List Node) (solution : Solution) (player : Player) (lasso : Lasso)
    → IsGame nodes → IsWithinLimits nodes → LosesGiven nodes solution player lasso
    → length (no_line true ++ walk_text names nodes player lasso.stem lasso.cycle) ≤ most_text
    → IsWalkOf nodes (no_line true ++ walk_text names nodes player lasso.stem lasso.cycle) lasso
explained_walk read names nodes solution player lasso game limits loses short =
    let places = loses.start ∷ [] in
    let choices = choices_of solution player in
    let inside : All (λ place. place < length nodes) places =
    All-cons (λ (place : ℕ). place < length nodes) loses.start [] loses.node (All-nil (λ (place : ℕ). place < length nodes)) in
    let stem = stem-inside nodes player choices game places lasso inside loses.lost in
    let cycle = cycle-inside nodes player choices game places lasso inside loses.lost in
    let joined = lasso_joined nodes player choices places lasso loses.lost in
    record {
      said = record { stem = identifiers_of nodes lasso.stem; cycle = identifiers_of nodes lasso.cycle };
      read = read true names nodes player lasso.stem lasso.cycle limits stem cycle (cycle_longer nodes lasso.stem lasso.cycle joined) short;
      named = record {
        stem = record { inside = stem; named = refl };
        cycle = record { inside = cycle; named = refl };
        joined = joined;
      };
    }

pub explanations_read : WrittenWalksAreRead → ExplanationsAreWalks
explanations_read read nodes solution player lasso game limits loses = (
  (λ short.
      let bare = bare_walk nodes player lasso in
      subst (λ (text : List ℕ). IsWalkOf nodes text lasso) (sym bare)
      (explained_walk read false nodes solution player lasso game limits loses (subst (λ (text : List ℕ). length text ≤ most_text) bare short))),
  explained_walk read true nodes solution player lasso game limits loses,
)
