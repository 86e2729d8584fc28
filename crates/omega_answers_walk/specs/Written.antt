-- The written form of a walk: its player, and the identifiers of the nodes of its stem and of its cycle, each with its
-- name if names are wanted.
use Rattle.std.specs.Prelude.{ℕ, Bool, if◌then◌else◌, Option, None, Some, List, [], ◌++◌, codes, decimal}
use Rattle.std.specs.List.{flat_map}
use Rattle.omega_game_values.specs.declared.player.Player.{Player}
use Rattle.omega_game_values.specs.Player.{player_number}
use Rattle.omega_game_values.specs.Game.{Node, identifier_at, node_at}

-- a name in double quotes, after a space, if there is one
abbrev pub name_after : Option (List ℕ) → List ℕ
name_after None = []
name_after (Some name) = codes " \"" ++ (name ++ codes "\"")

-- the name of the node at a place, if names are wanted and it has one
abbrev pub name_if : (names : Bool) → List Node → ℕ → List ℕ
name_if names nodes place = if names then name_after (node_at nodes place).name else []

-- the nodes at the places, each by its identifier after a space, and by its name if names are wanted
abbrev pub nodes_text : (names : Bool) → List Node → List ℕ → List ℕ
nodes_text names nodes places = flat_map
    (λ place. codes " " ++ (decimal (identifier_at nodes place) ++ name_if names nodes place)) places

-- the player, and the nodes of the stem and of the cycle, a line for each
abbrev pub walk_text : (names : Bool) → List Node → Player → (stem cycle : List ℕ) → List ℕ
walk_text names nodes player stem cycle = codes "player "
    ++ (decimal (player_number player) ++ (codes "\nstem" ++ (nodes_text names nodes stem
    ++ (codes "\ncycle" ++ (nodes_text names nodes cycle ++ codes "\n")))))
