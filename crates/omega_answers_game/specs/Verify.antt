-- The answer of `verify` for a game text, or a part of its game, and a solution text.
use Rattle.std.specs.Prelude.{◌≡◌, ◌⊎◌, ◌<◌, ◌++◌, ◌∷◌, [], All, Bool, true, false}
use Rattle.std.specs.Prelude.{List, Option, Some, None, ℕ, codes, decimal, length}
use Rattle.std.specs.List.{flat_map}
use Rattle.omega_text.specs.declared.refusal.Refusal.{Refusal}
use Rattle.omega_game.specs.declared.lasso.Lasso.{Lasso}
use Rattle.omega_game_values.specs.declared.player.Player.{Player}
use Rattle.omega_game_values.specs.declared.solution.Solution.{Solution}
use Rattle.omega_game.specs.Counterexample.{IsCounterexample}
use Rattle.omega_game_values.specs.Game.{Node, identifier_at}
use Rattle.omega_game_values.specs.Player.{player_number}
use Rattle.omega_game_values.specs.Solution.{WinsAsGiven, WinsGiven, choices_of, winner_at}
use Rattle.omega_pg.specs.game.Refusing.{IsRefusal}
use Rattle.omega_pg.specs.solution.Refusing.{IsSolutionRefusal}
use Rattle.omega_pg.specs.solution.Text.{IsSolutionText}
use Rattle.omega_pg.specs.game.Text.{IsGameText}
use Rattle.omega_io.specs.Answer.{answer_text}
use Rattle.omega_io.specs.declared.answer.Answer.TheVariants.{No, Yes}
use Rattle.omega_io.specs.declared.exit.Exit.{Exit}
use Rattle.omega_io.specs.declared.exit.Exit.TheVariants as exit
use Rattle.omega_answers_game.specs.Part.{IsPartText, IsPartTextRefusal}

-- the identifiers of the nodes at the places, a space before each
abbrev pub identifiers_text : List Node → List ℕ → List ℕ
identifiers_text nodes places =
    flat_map (λ place. codes " " ++ decimal (identifier_at nodes place)) places

-- the player, and the nodes of the stem and of the cycle, a line for each
abbrev pub explanation_lines : List Node → Player → Lasso → List ℕ
explanation_lines nodes player lasso = codes "player "
    ++ (decimal (player_number player) ++ (codes "\nstem" ++ (identifiers_text nodes lasso.stem
    ++ (codes "\ncycle" ++ (identifiers_text nodes lasso.cycle ++ codes "\n")))))

-- `no` with its explanation
abbrev pub explained_text : List Node → Player → Lasso → List ℕ
explained_text nodes player lasso = answer_text (No (explanation_lines nodes player lasso))

-- the places are those of nodes of the game
abbrev pub ArePlacesOf : List Node → List ℕ → Type 0
ArePlacesOf nodes places = All (λ place. place < length nodes) places

-- a lasso shows that the player's choices do not win from a node that is given to the player
pub record LosesGiven (nodes : List Node) (solution : Solution) (player : Player)
    (lasso : Lasso) : Type 0 where
  pub start : ℕ
  pub node : start < length nodes
  pub given : winner_at solution start ≡ player
  pub lost : IsCounterexample nodes player (choices_of solution player) (start ∷ []) lasso

-- `no` is explained: a lasso is written for the least player whose choices do not win as given
pub record IsExplained (nodes : List Node) (solution : Solution) (output : List ℕ) : Type 0 where
  pub player : Player
  pub least : (other : Player) → player_number other < player_number player
      → WinsGiven nodes solution other
  pub lasso : Lasso
  pub loses : LosesGiven nodes solution player lasso
  pub written : output ≡ explained_text nodes player lasso

-- `yes` if for each player the choices win from all nodes given to that player, else `no`, with an exit of its own;
-- with `explain` the `no` is explained
abbrev pub IsSolutionVerdict : List Node → Solution → Bool → Exit → List ℕ → Type 0
IsSolutionVerdict nodes solution explain exit.Done output =
    WinsAsGiven nodes solution × (output ≡ answer_text Yes)
IsSolutionVerdict nodes solution false exit.No output =
    (¬ WinsAsGiven nodes solution) × (output ≡ answer_text (No []))
IsSolutionVerdict nodes solution true exit.No output = IsExplained nodes solution output

-- the game to be judged: that of the text, or if an identifier is given, the part of it that its node reaches
abbrev pub IsJudgedGame : List ℕ → Option ℕ → List Node → Type 0
IsJudgedGame game_text None game = IsGameText game_text game
IsJudgedGame game_text (Some identifier) game = IsPartText game_text identifier game

-- the answer of `verify`: the texts are those of a game to be judged and of a solution of it, and the verdict is
-- written
pub record IsVerifyAnswer (game_text : List ℕ) (from : Option ℕ) (text : List ℕ) (explain : Bool)
    (exit : Exit) (output : List ℕ) : Type 0 where
  pub game : List Node
  pub judged : IsJudgedGame game_text from game
  pub solution : Solution
  pub read : IsSolutionText game text solution
  pub verdict : IsSolutionVerdict game solution explain exit output

-- the refusal of the game to be judged: that of the text, or if an identifier is given, that of the part
abbrev pub IsJudgedGameRefusal : List ℕ → Option ℕ → Refusal → Type 0
IsJudgedGameRefusal game_text None refusal = IsRefusal game_text refusal
IsJudgedGameRefusal game_text (Some identifier) refusal =
    IsPartTextRefusal game_text identifier refusal

-- the one text is that of a game to be judged, and the other is refused as a solution of it
pub record RefusesSolution (game_text : List ℕ) (from : Option ℕ) (text : List ℕ)
    (refusal : Refusal) : Type 0 where
  pub game : List Node
  pub judged : IsJudgedGame game_text from game
  pub refused : IsSolutionRefusal game text refusal

-- the refusal of `verify`: that of the game to be judged, or else that of the solution's text
abbrev pub IsVerifyRefusal : List ℕ → Option ℕ → List ℕ → Refusal → Type 0
IsVerifyRefusal game_text from text refusal =
    IsJudgedGameRefusal game_text from refusal ⊎ RefusesSolution game_text from text refusal
