-- Infinite plays: the priority that decides a play, and winning all plays, which is what winning means.
use Rattle.std.specs.Prelude.{◌≡◌, ◌↔◌, ℕ, ◌+◌, ◌<◌, ◌≤◌}
use Rattle.std.specs.Prelude.{IsTrue, List, Option, length}
use Rattle.omega_game_values.specs.declared.player.Player.{Player}
use Rattle.omega_game_values.specs.Game.{Node, priority_at}
use Rattle.omega_game_values.specs.Player.{loses}
use Rattle.omega_game_values.specs.Winning.{Leaves, IsStrategy, Wins, InRegion}
use Rattle.omega_text.specs.Omniscience.{LimitedPrincipleOfOmniscience}

-- a play from v under the strategy: a place for each index, first v,
-- and each step an edge that the strategy leaves possible
pub record IsPlay (nodes : List Node) (player : Player) (choices : List (Option ℕ)) (v : ℕ)
    (play : ℕ → ℕ) : Type 0 where
  pub first : play 0 ≡ v
  pub steps : (i : ℕ) → Leaves nodes player choices (play i) (play (i + 1))

-- the priority is recurring in the play: it comes at or after every index
abbrev pub IsRecurring : List Node → (ℕ → ℕ) → ℕ → Type 0
IsRecurring nodes play p = (i : ℕ) → (j : ℕ) × (i ≤ j) × (priority_at nodes (play j) ≡ p)

-- the priority is the play's limit, the greatest recurring one: it recurs, and from some index on none greater comes
pub record IsLimit (nodes : List Node) (play : ℕ → ℕ) (p : ℕ) : Type 0 where
  pub recurring : IsRecurring nodes play p
  pub from : ℕ
  pub none_greater : (i : ℕ) → from ≤ i → priority_at nodes (play i) ≤ p

-- the strategy wins all plays from v: no play under it has a limit that loses
abbrev pub WinsAllPlays : List Node → Player → List (Option ℕ) → ℕ → Type 0
WinsAllPlays nodes player choices v = (play : ℕ → ℕ) (p : ℕ) → IsPlay nodes player choices v play
    → IsLimit nodes play p → ¬ IsTrue (loses player p)

-- a strategy wins from v, as defined by closed walks, exactly if it wins all plays from v
abbrev pub WinningMeansAllPlays : Type 0
WinningMeansAllPlays =
    (nodes : List Node) (player : Player) (choices : List (Option ℕ)) (v : ℕ)
    → Wins nodes player choices v ↔ WinsAllPlays nodes player choices v

-- a node is in a player's region exactly if some strategy of the player wins all plays from it
abbrev pub RegionsAreWonInAllPlays : Type 0
RegionsAreWonInAllPlays = (nodes : List Node) (player : Player) (v : ℕ) → v < length nodes
    → InRegion nodes player v ↔ ((choices : List (Option ℕ)) × IsStrategy nodes player choices
    × WinsAllPlays nodes player choices v)

-- given the limited principle of omniscience, each play has a limit
abbrev pub PlaysHaveLimits : Type 0
PlaysHaveLimits =
    LimitedPrincipleOfOmniscience
    → (nodes : List Node) (player : Player) (choices : List (Option ℕ)) (v : ℕ) (play : ℕ → ℕ)
    → IsPlay nodes player choices v play → (p : ℕ) × IsLimit nodes play p
