-- Strategies with memory, which choose by the history of a play, and win no more nodes than positional ones.
use Rattle.std.specs.Prelude.{◌≡◌, ℕ, zero, suc, ◌+◌, ◌<◌, IsTrue, List, [], ◌∷◌, ◌++◌, Option, Some, length}
use Rattle.omega_game_values.specs.declared.player.Player.{Player}
use Rattle.omega_game_values.specs.Game.{Node, IsGame, HasEdge, owner_at}
use Rattle.omega_game_values.specs.Player.{loses}
use Rattle.omega_game_values.specs.Winning.{InRegion}
use Rattle.omega_game_region_laws.specs.Plays.{IsLimit}
use Rattle.omega_text.specs.Omniscience.{LimitedPrincipleOfOmniscience}

-- the places of a play from its first up to an index, in order
abbrev pub history : (ℕ → ℕ) → ℕ → List ℕ
history play zero = play 0 ∷ []
history play (suc i) = history play i ++ (play (suc i) ∷ [])

-- a strategy with memory of the player: at each history whose last place v the player owns,
-- none or a listed successor of v
abbrev pub IsMemoryStrategy : List Node → Player → (List ℕ → Option ℕ) → Type 0
IsMemoryStrategy nodes player strategy = (past : List ℕ) (v w : ℕ) → owner_at nodes v ≡ player
    → strategy (past ++ (v ∷ [])) ≡ Some w → HasEdge nodes v w

-- a play from v that follows the strategy: first v, each step a listed edge,
-- and from the player's places the chosen one, if there is one
pub record IsMemoryPlay (nodes : List Node) (player : Player) (strategy : List ℕ → Option ℕ) (v : ℕ)
    (play : ℕ → ℕ) : Type 0 where
  pub first : play 0 ≡ v
  pub listed : (i : ℕ) → HasEdge nodes (play i) (play (i + 1))
  pub chosen : (i : ℕ) → owner_at nodes (play i) ≡ player → (c : ℕ)
      → strategy (history play i) ≡ Some c → play (i + 1) ≡ c

-- the strategy wins all plays from v: no play that follows it has a limit that loses
abbrev pub MemoryWinsAllPlays : List Node → Player → (List ℕ → Option ℕ) → ℕ → Type 0
MemoryWinsAllPlays nodes player strategy v = (play : ℕ → ℕ) (p : ℕ)
    → IsMemoryPlay nodes player strategy v play → IsLimit nodes play p → ¬ IsTrue (loses player p)

-- given the limited principle of omniscience, a node from which some strategy with memory wins all plays is in the
-- player's region
abbrev pub MemoryWinsNoMore : Type 0
MemoryWinsNoMore =
    LimitedPrincipleOfOmniscience
    → (nodes : List Node) (player : Player) (strategy : List ℕ → Option ℕ) (v : ℕ)
    → IsGame nodes → v < length nodes → IsMemoryStrategy nodes player strategy
    → MemoryWinsAllPlays nodes player strategy v → InRegion nodes player v
