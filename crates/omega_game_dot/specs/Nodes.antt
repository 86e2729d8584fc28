-- How a node of a game and its edges are drawn: player 0's nodes are diamonds and player 1's are boxes.
use Rattle.std.specs.Prelude.{ℕ, ◌==◌, Bool, false, not, if◌then◌else◌, Option}
use Rattle.std.specs.Prelude.{Some, None, List, [], ◌++◌, codes, decimal}
use Rattle.std.specs.List.{flat_map, list_any}
use Rattle.omega_game_values.specs.Game.{Node, identifier_at}
use Rattle.omega_game_values.specs.declared.player.Player.{Player}
use Rattle.omega_game_values.specs.declared.player.Player.TheVariants.{One, Zero}
use Rattle.omega_game_dot.specs.Extent.{is_drawn}
use Rattle.omega_game_dot.specs.declared.role.Role.{Role}
use Rattle.omega_game_dot.specs.declared.role.Role.TheVariants.{Cycle, Plain, Stem}
use Rattle.omega_text.specs.Labels.{line_end, name_label_line}

-- the shape of a player's nodes
abbrev pub shape_of : Player → List ℕ
shape_of Zero = codes "diamond"
shape_of One = codes "box"

-- the shape of a player's nodes, and the beginning of their label
abbrev pub shape_part : Player → List ℕ
shape_part player = codes " [shape=" ++ (shape_of player ++ codes ", label=\"")

-- the colour of the nodes that a player wins
abbrev pub colour_of : Player → List ℕ
colour_of Zero = codes "lightblue"
colour_of One = codes "orange"

-- a node is filled in its winner's colour, if the winner is known
abbrev pub fill_part : Option Player → List ℕ
fill_part None = []
fill_part (Some winner) = codes ", style=filled, fillcolor=" ++ colour_of winner

-- a node on a lasso has a thick outline, red on the cycle and blue on the stem
abbrev pub outline_part : Role → List ℕ
outline_part Plain = []
outline_part Stem = codes ", color=blue, penwidth=2"
outline_part Cycle = codes ", color=red, penwidth=2"

-- the label of a node: a line each for its identifier, its name if it has one, and its priority
abbrev pub node_label : Node → List ℕ
node_label node = decimal node.identifier ++ (line_end
    ++ (name_label_line node.name ++ (codes "priority " ++ (decimal node.priority ++ line_end))))

-- a node, with its winner if that is known, and with its role in a lasso
abbrev pub drawn_node : Option Player → Role → Node → List ℕ
drawn_node winner role node = codes "  "
    ++ (decimal node.identifier ++ (codes " [shape=" ++ (shape_of node.owner ++ (codes ", label=\""
    ++ (node_label node ++ (codes "\"" ++ (fill_part winner ++ (outline_part role ++ codes "];\n"))))))))

-- whether a choice, if there is one, is this place
abbrev pub is_chosen : Option ℕ → ℕ → Bool
is_chosen None place = false
is_chosen (Some choice) place = choice == place

-- the end of the line of an edge that is on no lasso, bold if it is chosen
abbrev pub plain_end : Bool → List ℕ
plain_end chosen = if chosen then codes " [style=bold];\n" else codes ";\n"

-- the end of an edge's line: bold if it is chosen or on a lasso, red on the cycle and blue on the stem
abbrev pub edge_end : Bool → Role → List ℕ
edge_end chosen Plain = plain_end chosen
edge_end chosen Stem = codes " [style=bold, color=blue];\n"
edge_end chosen Cycle = codes " [style=bold, color=red];\n"

-- an edge from a node to a place, with the choice of the node's owner and the role of the edge
abbrev pub successor_line : List Node → Option ℕ → (ℕ → Role) → Node → ℕ → List ℕ
successor_line nodes choice role node place =
    codes "  " ++ (decimal node.identifier ++ (codes " -> " ++ (decimal (identifier_at nodes place)
    ++ edge_end (is_chosen choice place) (role place))))

-- the edge to a place, if the node there is drawn
abbrev pub edge_to : List Node → List Bool → Option ℕ → (ℕ → Role) → Node → ℕ → List ℕ
edge_to nodes drawn choice role node place =
    if is_drawn drawn place then successor_line nodes choice role node place else []

-- the edges from a node to nodes that are drawn, in the order of its list
abbrev pub drawn_edges : List Node → List Bool → Option ℕ → (ℕ → Role) → Node → List ℕ
drawn_edges nodes drawn choice role node =
    flat_map (edge_to nodes drawn choice role node) node.successors

-- whether the node leads on, to a node that is not drawn
abbrev pub leads_on : List Bool → Node → Bool
leads_on drawn node = list_any (λ place. not (is_drawn drawn place)) node.successors

-- `...` after a node
abbrev pub dots : Node → List ℕ
dots node =
    codes "  more" ++ (decimal node.identifier ++ codes " [shape=plaintext, label=\"...\"];\n")

-- an edge from the node to `...`
abbrev pub edge_to_dots : Node → List ℕ
edge_to_dots node = codes "  "
    ++ (decimal node.identifier ++ (codes " -> more" ++ (decimal node.identifier ++ codes ";\n")))

-- both, if the node leads on
abbrev pub edge_beyond : List Bool → Node → List ℕ
edge_beyond drawn node = if leads_on drawn node then dots node ++ edge_to_dots node else []

-- what a drawing adds to a node and its edges: the node's winner and its owner's choice, if they are known, and the
-- roles in a lasso of the node and of its edges by their places
pub record Look : Type 0 where
  pub winner : Option Player
  pub choice : Option ℕ
  pub role : Role
  pub edges : ℕ → Role

-- a node and its edges: one for each listed successor that is drawn, and one to `...` if it leads on
abbrev pub node_text : List Node → List Bool → Look → Node → List ℕ
node_text nodes drawn look node = drawn_node look.winner look.role node
    ++ (drawn_edges nodes drawn look.choice look.edges node ++ edge_beyond drawn node)

-- the text of the node at a place, which is empty if the node is not drawn
abbrev pub node_text_if_drawn : List Node → List Bool → Look → ℕ → Node → List ℕ
node_text_if_drawn nodes drawn look place node =
    if is_drawn drawn place then node_text nodes drawn look node else []
