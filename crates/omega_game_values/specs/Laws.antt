-- What holds of strategies and of building, whatever the code does.
use Rattle.std.specs.Prelude.{◌≡◌, ◌↔◌, ℕ, ◌<◌, List, Option, Some, None, All, length}
use Rattle.omega_game_values.specs.declared.node_spec.NodeSpec.{NodeSpec}
use Rattle.omega_game_values.specs.Game.{Node, IsWithinLimits}
use Rattle.omega_game_values.specs.Winning.{Chooses, choice_at}
use Rattle.omega_game_values.specs.Building.{IsWellFormed, IsGameOf, game_fault_of}

-- what is chosen at a place is the choice there
abbrev pub ChoicesAreEntries : Type 0
ChoicesAreEntries =
    (choices : List (Option ℕ)) (v w : ℕ) → Chooses choices v w ↔ (choice_at choices v ≡ Some w)

-- specifications have at most one game
abbrev pub SpecificationsHaveOneGame : Type 0
SpecificationsHaveOneGame = (specs : List NodeSpec) (one other : List Node) → IsGameOf specs one
    → IsGameOf specs other → one ≡ other

-- well-formed specifications without a fault have a game
abbrev pub GamesExist : Type 0
GamesExist =
    (specs : List NodeSpec) → 0 < length specs → All IsWellFormed specs → game_fault_of specs ≡ None
    → (nodes : List Node) × IsGameOf specs nodes

-- specifications of a game within the limits have no fault
abbrev pub GamesHaveNoFault : Type 0
GamesHaveNoFault =
    (specs : List NodeSpec) (nodes : List Node)
    → IsGameOf specs nodes → IsWithinLimits nodes → game_fault_of specs ≡ None

-- the game of well-formed specifications without a fault keeps the limits
abbrev pub GamesKeepLimits : Type 0
GamesKeepLimits = (specs : List NodeSpec) (nodes : List Node) → IsGameOf specs nodes
    → All IsWellFormed specs → game_fault_of specs ≡ None → IsWithinLimits nodes
