-- The answer text for one player, and when it is right.
use Rattle.std.specs.Prelude.{◌≡◌, ◌↔◌, ◌++◌, List, Option, false, ℕ}
use Rattle.std.specs.Prelude.{IsSome, Contains, codes, decimal, option_map}
use Rattle.std.specs.List.{flat_map}
use Rattle.std.specs.List.Sorted.{IsStrictlyIncreasing}
use Rattle.omega_game_values.specs.declared.player.Player.{Player}
use Rattle.omega_game_values.specs.Game.{Node, node_at, owner_at, priorities}
use Rattle.omega_game_values.specs.Winning.{Chooses, InRegion, IsStrategy, Wins, choice_at}
use Rattle.omega_measure.specs.Table.{is_too_wide}
use Rattle.omega_pg.specs.solution.Canonical.{choice_part}
use Rattle.omega_solve.specs.budget.Within.{EndsWithin}
use Rattle.omega_answers_game.specs.PlayerText.{player_text}

-- the line of a node won: its identifier, and that of the chosen successor if there is a choice
abbrev pub answer_line : List Node → ℕ → Option ℕ → List ℕ
answer_line nodes v choice =
    decimal (node_at nodes v).identifier
    ++ choice_part (option_map (λ w. (node_at nodes w).identifier) choice) ++ codes ";\n"

-- the line of a node won, with its choice
abbrev pub won_line : List Node → List (Option ℕ) → ℕ → List ℕ
won_line nodes choices v = answer_line nodes v (choice_at choices v)

-- the line of the player, with the number of lifts made
abbrev pub lifts_line : Player → ℕ → List ℕ
lifts_line player lifts = player_text player ++ codes " lifts " ++ decimal lifts ++ codes "\n"

-- the answer text: the number of lifts, then a line for each of the places won
abbrev pub answer_text : Player → ℕ → List Node → List ℕ → List (Option ℕ) → List ℕ
answer_text player lifts nodes won choices =
    lifts_line player lifts ++ flat_map (won_line nodes choices) won

-- the places won are exactly the player's region, in rising order; there is a choice exactly if the player owns one of
-- them, and the choices win from all of them
pub record WinsExactly (nodes : List Node) (player : Player) (won : List ℕ)
    (choices : List (Option ℕ)) : Type 0 where
  pub rising : IsStrictlyIncreasing won
  pub exactly : (v : ℕ) → Contains won v ↔ InRegion nodes player v
  pub strategy : IsStrategy nodes player choices
  pub chosen : (v : ℕ) → Contains won v → owner_at nodes v ≡ player → IsSome (choice_at choices v)
  pub printed : (v w : ℕ) → Chooses choices v w → Contains won v
  pub wins : (v : ℕ) → Contains won v → Wins nodes player choices v

-- a right answer for a game that is not too wide: it wins exactly, and the lifts that it counts, at most the budget and
-- at most the bound, end a lifting run
pub record IsAnswerOf (nodes : List Node) (player : Player) (budget lifts : ℕ)
    (output : List ℕ) : Type 0 where
  pub narrow : is_too_wide player (priorities nodes) ≡ false
  pub won : List ℕ
  pub choices : List (Option ℕ)
  pub written : output ≡ answer_text player lifts nodes won choices
  pub ended : EndsWithin nodes player budget lifts
  pub won_exactly : WinsExactly nodes player won choices
