-- The canonical text of a game: the header, and a line for each node in rising order.
use Rattle.std.specs.Prelude.{ℕ, Option, Some, None, List, [], ◌∷◌, ◌++◌, map, codes, decimal}
use Rattle.std.specs.List.{flat_map}
use Rattle.omega_text.specs.pg.Forms.{quoted}
use Rattle.omega_game_values.specs.Building.{specified}
use Rattle.omega_game_values.specs.Game.{Node, greatest_identifier}
use Rattle.omega_game_values.specs.declared.node_spec.NodeSpec.{NodeSpec}
use Rattle.omega_game_values.specs.Player.{player_number}

-- `parity`, a space, the number, `;` and a line feed
abbrev pub header_line : ℕ → List ℕ
header_line number = codes "parity " ++ (decimal number ++ codes ";\n")

-- identifiers with a comma before each
abbrev pub successors_after : List ℕ → List ℕ
successors_after ids = flat_map (λ id. codes "," ++ decimal id) ids

-- identifiers with a comma between each two
abbrev pub successors_text : List ℕ → List ℕ
successors_text [] = []
successors_text (first ∷ others) = decimal first ++ successors_after others

-- a space and the quoted name, if there is one
abbrev pub name_part : Option (List ℕ) → List ℕ
name_part None = []
name_part (Some bytes) = codes " " ++ quoted bytes

-- identifier, priority, owner and successors with single spaces between them, then the name, `;` and a line feed
abbrev pub node_line : NodeSpec → List ℕ
node_line spec = decimal spec.id
    ++ (codes " " ++ (decimal spec.priority ++ (codes " " ++ (decimal (player_number spec.owner)
    ++ (codes " " ++ (successors_text spec.successors ++ (name_part spec.name ++ codes ";\n")))))))

-- the canonical text of a game
abbrev pub canonical_game : List Node → List ℕ
canonical_game nodes =
    header_line (greatest_identifier nodes) ++ flat_map node_line (map (specified nodes) nodes)
