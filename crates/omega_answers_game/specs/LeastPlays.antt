-- Infinite plays in which the least priority that recurs decides, and winning all of them.
use Rattle.std.specs.Prelude.{◌≤◌, ◌↔◌, List, Option, ℕ, IsTrue}
use Rattle.omega_game_values.specs.declared.player.Player.{Player}
use Rattle.omega_game_values.specs.Game.{Node, priority_at}
use Rattle.omega_game_values.specs.Player.{loses}
use Rattle.omega_game_region_laws.specs.Plays.{IsPlay, IsRecurring}
use Rattle.omega_answers_game.specs.Winning.{WinsByLeast}

-- the priority is the least recurring one of the play: it recurs, and from some index on none less comes
pub record IsLeastLimit (nodes : List Node) (play : ℕ → ℕ) (p : ℕ) : Type 0 where
  pub recurring : IsRecurring nodes play p
  pub from : ℕ
  pub none_less : (i : ℕ) → from ≤ i → p ≤ priority_at nodes (play i)

-- the strategy wins all plays from v by the least priority: no play under it has a least recurring priority that loses
abbrev pub WinsAllPlaysByLeast : List Node → Player → List (Option ℕ) → ℕ → Type 0
WinsAllPlaysByLeast nodes player choices v = (play : ℕ → ℕ) (p : ℕ)
    → IsPlay nodes player choices v play → IsLeastLimit nodes play p → ¬ IsTrue (loses player p)

-- a strategy wins from v by the least priority, as defined by closed walks, exactly if it wins all plays from v so
abbrev pub LeastWinningMeansAllPlays : Type 0
LeastWinningMeansAllPlays =
    (nodes : List Node) (player : Player) (choices : List (Option ℕ)) (v : ℕ)
    → WinsByLeast nodes player choices v ↔ WinsAllPlaysByLeast nodes player choices v
