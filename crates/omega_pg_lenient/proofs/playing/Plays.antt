-- Winning where there may be dead ends is winning all plays that go on as long as they can.
use Rattle.std.proofs.Common.{ℕ, List, Option}
use Rattle.omega_game_region_laws.specs.Plays.{WinningMeansAllPlays}
use Rattle.omega_game_values.specs.declared.player.Player.{Player}
use Rattle.omega_game_values.specs.Game.{Node}
use Rattle.omega_pg_lenient.specs.OpenPlays.{Endless, IsLostBy, IsMaximalPlay, OpenWinningMeansAllPlays, Play, Stopped, WinsAllMaximalPlays}
use Rattle.omega_pg_lenient.specs.Playing.{WinsOpenly}

module _ (means : WinningMeansAllPlays) (nodes : List Node) (player : Player) (choices : List (Option ℕ)) (v : ℕ) where
  none_lost : WinsOpenly nodes player choices v → (play : Play) → IsMaximalPlay nodes player choices v play → IsLostBy nodes player v play → ⊥
  none_lost wins (Endless play) is lost = (means nodes player choices v).0 wins.forever play lost.0 is lost.1 lost.2
  none_lost wins (Stopped places) is lost = wins.never_stuck places is.0 is.1 lost

  wins_openly : WinsAllMaximalPlays nodes player choices v → WinsOpenly nodes player choices v
  wins_openly wins = record {
    never_stuck = λ there walk dead own. wins (Stopped there) (walk, dead) own;
    forever = (means nodes player choices v).1 (λ play p is limit lost. wins (Endless play) is (p, limit, lost));
  }

pub open_plays : WinningMeansAllPlays → OpenWinningMeansAllPlays
open_plays means nodes player choices v =
    (none_lost means nodes player choices v, wins_openly means nodes player choices v)
