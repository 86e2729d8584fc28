-- The legend of a drawing: the shapes of the players' nodes, with a solution the colours of the winners and a bold
-- edge, and with a lasso the colours of its edges.
use Rattle.std.specs.Prelude.{ℕ, Bool, false, true, if◌then◌else◌, Some, List, [], ◌++◌, codes, decimal}
use Rattle.omega_game_values.specs.declared.player.Player.{Player}
use Rattle.omega_game_values.specs.declared.player.Player.TheVariants.{One, Zero}
use Rattle.omega_game_values.specs.Player.{player_number}
use Rattle.omega_game_dot.specs.Nodes.{edge_end, fill_part, shape_part}
use Rattle.omega_game_dot.specs.declared.role.Role.TheVariants.{Cycle, Plain, Stem}

-- the label of a node of a player, and the end of its line
abbrev pub owner_label : Player → List ℕ
owner_label player = codes "player " ++ (decimal (player_number player) ++ codes "\"];\n")

-- a node of a player, as the drawing has them, which says whose it is
abbrev pub owner_field : Player → List ℕ
owner_field player = codes "    owner"
    ++ (decimal (player_number player) ++ (shape_part player ++ owner_label player))

-- the words that a player wins
abbrev pub winner_label : Player → List ℕ
winner_label player =
    codes " [shape=plaintext, label=\"player " ++ (decimal (player_number player) ++ codes " wins")

-- a field in the colour of a winner, with these words
abbrev pub winner_field : Player → List ℕ
winner_field player = codes "    legend" ++ (decimal (player_number player)
    ++ (winner_label player ++ (codes "\"" ++ (fill_part (Some player) ++ codes "];\n"))))

-- the end of an edge to a choice in the legend
abbrev pub choice_label : List ℕ
choice_label = codes "    chosen [shape=plaintext, label=\"the winner's choice\"];\n"

-- an edge to a choice, as the drawing has them
abbrev pub choice_sample : List ℕ
choice_sample = choice_label ++ (codes "    choosing [shape=point];\n"
    ++ (codes "    choosing -> chosen" ++ edge_end true Plain))

-- the winners, one below the other, and a choice
abbrev pub solution_samples : List ℕ
solution_samples = winner_field Zero
    ++ (winner_field One ++ (codes "    legend0 -> legend1 [style=invis];\n" ++ choice_sample))

-- an edge of the stem and one of the cycle, as the drawing has them
abbrev pub walk_samples : List ℕ
walk_samples =
    codes "    stem [shape=plaintext, label=\"the stem\"];\n    stemming [shape=point];\n    stemming -> stem"
    ++ (edge_end false Stem ++ (codes
    "    cycle [shape=plaintext, label=\"the cycle\"];\n    cycling [shape=point];\n    cycling -> cycle"
    ++ edge_end false Cycle))

-- these samples, if they are wanted
abbrev pub samples_if : Bool → List ℕ → List ℕ
samples_if wanted samples = if wanted then samples else []

-- the legend, in a frame of its own, of a drawing with a solution or not, and with a lasso or not
abbrev pub legend_text : (solved walked : Bool) → List ℕ
legend_text solved walked = codes "  subgraph cluster_legend {\n    label=\"legend\";\n"
    ++ (owner_field Zero ++ (owner_field One ++ (codes "    owner0 -> owner1 [style=invis];\n"
    ++ (samples_if solved solution_samples ++ (samples_if walked walk_samples ++ codes "  }\n")))))
