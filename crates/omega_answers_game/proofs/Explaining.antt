-- A lasso against a player's choices begins at a node given to the player, and is one of nodes;
-- what is explained by it.
use Rattle.std.proofs.Common.{◌≡◌, ℕ, ◌<◌, true, List, [], ◌∷◌, ◌++◌, Option, Some, None, length, get_or, Contains, All, sym, subst, arith, refl}
use Rattle.std.specs.Prelude.{IfNone, IfSome, IsNone}
use Rattle.std.proofs.lemmas.List.{get_or_append_left, length_push}
use Rattle.std.proofs.lemmas.List.Elements.{All-cons, All-nil, All-contains, Contains-push}
use Rattle.omega_game.specs.declared.lasso.Lasso.{Lasso}
use Rattle.omega_game_values.specs.declared.player.Player.{Player}
use Rattle.omega_game_values.specs.declared.player.Player.TheVariants.{One, Zero}
use Rattle.omega_game.specs.Counterexample.{IsCounterexample}
use Rattle.omega_game_values.specs.Game.{Node, IsGame}
use Rattle.omega_game_values.specs.Player.{player_number}
use Rattle.omega_game_values.specs.Winning.{IsWalk}
use Rattle.omega_game_values.specs.declared.solution.Solution.{Solution}
use Rattle.omega_game_values.specs.Solution.{ArePlacesGiven, WinsGiven, choices_of}
use Rattle.omega_io.specs.Answer.{IsReply}
use Rattle.omega_io.specs.declared.answer.Answer.TheVariants.{No}
use Rattle.omega_io.specs.declared.exit.Exit.{Exit}
use Rattle.omega_answers_game.specs.Verify.{IsSolutionVerdict, LosesGiven, explanation_lines}

-- ---- the start of a lasso

-- a counterexample from some of the places is one from its first place
from_its_start : (nodes : List Node) (player : Player) (choices : List (Option ℕ)) (places : List ℕ) (lasso : Lasso)
    → (lost : IsCounterexample nodes player choices places lasso) → IsCounterexample nodes player choices (lost.start ∷ []) lasso
from_its_start nodes player choices places lasso lost = record {
  start = lost.start;
  listed = Contains-push [] lost.start;
  there = lost.there;
  walk = lost.walk;
  first = lost.first;
  stem = lost.stem;
  onward = lost.onward;
  cycle = lost.cycle;
  closed = lost.closed;
  lost = lost.lost;
}

-- a counterexample from the places given to a player begins at a node given to the player
pub loses-given : (nodes : List Node) (solution : Solution) (player : Player) (choices : List (Option ℕ)) (places : List ℕ) (lasso : Lasso)
    → length solution.winners ≡ length nodes → choices ≡ choices_of solution player → ArePlacesGiven solution player places
    → IsCounterexample nodes player choices places lasso → LosesGiven nodes solution player lasso
loses-given nodes solution player choices places lasso entries same given lost =
    let there = (given.given lost.start).0 lost.listed in
    record {
      start = lost.start;
      node = omega (arith, entries, there.0);
      given = there.1;
      lost = subst (λ (xs : List (Option ℕ)). IsCounterexample nodes player xs (lost.start ∷ []) lasso) same (from_its_start nodes player choices places lasso lost);
    }

-- ---- its places

module _ (nodes : List Node) (player : Player) (choices : List (Option ℕ)) (game : IsGame nodes) where
  -- the places of a walk are nodes
  walk-inside : (v : ℕ) (ws : List ℕ) → v < length nodes → IsWalk nodes player choices v ws → All (λ place. place < length nodes) (v ∷ ws)
  walk-inside v [] below walk = All-cons (λ place. place < length nodes) v [] below (All-nil (λ place. place < length nodes))
  walk-inside v (w ∷ ws) below walk =
      All-cons (λ place. place < length nodes) v (w ∷ ws) below (walk-inside w ws (game.closed v w walk.0.listed) walk.1)

  -- the places before the last of a list
  front-inside : (front : List ℕ) (v : ℕ) (ws : List ℕ) → front ++ v ∷ [] ≡ ws → All (λ place. place < length nodes) ws → All (λ place. place < length nodes) front
  front-inside front v ws whole inside k d within =
      let later : k < length (front ++ v ∷ []) = omega (arith, length_push front v) in
      let here : get_or (front ++ v ∷ []) k d ≡ get_or front k d = get_or_append_left front (v ∷ []) d k within in
      subst (λ (place : ℕ). place < length nodes) here
      (subst (λ (xs : List ℕ). All (λ place. place < length nodes) xs) (sym whole) inside k d later)

  -- and the last
  last-inside : (front : List ℕ) (v : ℕ) (ws : List ℕ) → front ++ v ∷ [] ≡ ws → All (λ place. place < length nodes) ws → v < length nodes
  last-inside front v ws whole inside =
      All-contains (λ place. place < length nodes) ws v inside (subst (λ (xs : List ℕ). Contains xs v) whole (Contains-push front v))

  module _ (places : List ℕ) (lasso : Lasso) (inside : All (λ place. place < length nodes) places) (lost : IsCounterexample nodes player choices places lasso) where
    there : All (λ place. place < length nodes) (lost.start ∷ lost.there)
    there = walk-inside lost.start lost.there (All-contains (λ place. place < length nodes) places lost.start inside lost.listed) lost.walk

    -- the places of the stem are nodes
    pub stem-inside : All (λ place. place < length nodes) lasso.stem
    stem-inside = front-inside lasso.stem lost.first (lost.start ∷ lost.there) lost.stem there

    -- and so are those of the cycle
    pub cycle-inside : All (λ place. place < length nodes) lasso.cycle
    cycle-inside =
        let first : lost.first < length nodes = last-inside lasso.stem lost.first (lost.start ∷ lost.there) lost.stem there in
        subst (λ (xs : List ℕ). All (λ place. place < length nodes) xs) (sym lost.cycle)
        (front-inside (lost.first ∷ lost.onward) lost.first (lost.first ∷ (lost.onward ++ lost.first ∷ [])) refl
        (walk-inside lost.first (lost.onward ++ lost.first ∷ []) first lost.closed.walk))

-- ---- the verdict

-- if player 0's choices do not win, that is explained
pub zero-explained : (nodes : List Node) (solution : Solution) (lasso : Lasso) (exit : Exit) (output : List ℕ)
    → LosesGiven nodes solution Zero lasso → IsReply (No (explanation_lines nodes Zero lasso)) exit output
    → IsSolutionVerdict nodes solution true exit output
zero-explained nodes solution lasso exit output loses reply =
    subst (λ (exit : Exit). IsSolutionVerdict nodes solution true exit output) (sym reply.0) (record {
      player = Zero;
      least = λ other below. absurd (omega arith);
      lasso = lasso;
      loses = loses;
      written = reply.1;
    })

-- if they do and player 1's do not, that is
pub one-explained : (nodes : List Node) (solution : Solution) (lasso : Lasso) (exit : Exit) (output : List ℕ)
    → WinsGiven nodes solution Zero → LosesGiven nodes solution One lasso → IsReply (No (explanation_lines nodes One lasso)) exit output
    → IsSolutionVerdict nodes solution true exit output
one-explained nodes solution lasso exit output wins loses reply =
    subst (λ (exit : Exit). IsSolutionVerdict nodes solution true exit output) (sym reply.0) (record {
      player = One;
      least = least;
      lasso = lasso;
      loses = loses;
      written = reply.1;
    })
  where
    least : (other : Player) → player_number other < 1 → WinsGiven nodes solution other
    least Zero below = wins
    least One below = absurd (omega arith)

-- whether a lasso is found or none
pub found-none : (found : Option Lasso) (P : Type 0) → (IsNone found → P) → IfNone found P
found-none None P gives = gives refl
found-none (Some lasso) P gives = tt

pub found-some : (found : Option Lasso) (P Q : Lasso → Type 0) → ((lasso : Lasso) → P lasso → Q lasso) → IfSome found P → IfSome found Q
found-some None P Q gives says = says
found-some (Some lasso) P Q gives says = gives lasso says
