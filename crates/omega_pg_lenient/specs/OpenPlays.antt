-- Plays that go on as long as they can in a game that may have dead ends, and winning all of them.
use Rattle.std.specs.Prelude.{◌≡◌, ◌↔◌, ℕ, List, Option, IsTrue}
use Rattle.omega_game_values.specs.declared.player.Player.{Player}
use Rattle.omega_game_values.specs.Game.{Node, owner_at}
use Rattle.omega_game_values.specs.Player.{loses}
use Rattle.omega_game_values.specs.Winning.{IsWalk, end_of}
use Rattle.omega_game_region_laws.specs.Plays.{IsLimit, IsPlay}
use Rattle.omega_pg_lenient.specs.Playing.{IsDeadEnd, WinsOpenly}

-- a play: a place for each index, or the places after the first up to the last
pub data Play : Type 0 where
  Endless : (ℕ → ℕ) → Play
  Stopped : List ℕ → Play

-- a play from v under the strategy that goes on as long as it can: forever, or up to a dead end
abbrev pub IsMaximalPlay : List Node → Player → List (Option ℕ) → ℕ → Play → Type 0
IsMaximalPlay nodes player choices v (Endless play) = IsPlay nodes player choices v play
IsMaximalPlay nodes player choices v (Stopped places) =
    IsWalk nodes player choices v places × IsDeadEnd nodes (end_of v places)

-- the player loses the play from v: the greatest priority that recurs loses, or the player owns the last place
abbrev pub IsLostBy : List Node → Player → ℕ → Play → Type 0
IsLostBy nodes player v (Endless play) =
    (p : ℕ) × IsLimit nodes play p × IsTrue (loses player p)
IsLostBy nodes player v (Stopped places) = owner_at nodes (end_of v places) ≡ player

-- the strategy wins all plays from v: the player loses none that goes on as long as it can
abbrev pub WinsAllMaximalPlays : List Node → Player → List (Option ℕ) → ℕ → Type 0
WinsAllMaximalPlays nodes player choices v = (play : Play)
    → IsMaximalPlay nodes player choices v play → ¬ IsLostBy nodes player v play

-- a strategy wins from v where there may be dead ends exactly if it wins all plays from v
abbrev pub OpenWinningMeansAllPlays : Type 0
OpenWinningMeansAllPlays =
    (nodes : List Node) (player : Player) (choices : List (Option ℕ)) (v : ℕ)
    → WinsOpenly nodes player choices v ↔ WinsAllMaximalPlays nodes player choices v
