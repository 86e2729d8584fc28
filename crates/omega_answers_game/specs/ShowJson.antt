-- The answer of `show --json` for a game text: a JSON object on one line.
use Rattle.std.specs.Prelude.{◌≡◌, ◌++◌, ◌^◌, ◌==◌, Bool, List, [], ◌∷◌, ℕ, codes}
use Rattle.std.specs.Prelude.{count_by, decimal, length, nat_lt, if◌then◌else◌}
use Rattle.std.specs.List.{flat_map, list_any, range_with_len}
use Rattle.omega_game_values.specs.declared.player.Player.{Player}
use Rattle.omega_game_values.specs.declared.player.Player.TheVariants.{One, Zero}
use Rattle.omega_game_values.specs.declared.priority_counts.PriorityCount.{PriorityCount}
use Rattle.omega_game_values.specs.Bound.{bound_of, priority_counts}
use Rattle.omega_game_values.specs.Game.{Node, greatest_identifier, priorities}
use Rattle.omega_game_values.specs.Game.{successor_count, successors_at}
use Rattle.omega_answers_game.specs.Components.{HasComponents}
use Rattle.omega_pg.specs.game.Text.{IsGameText}

-- a member whose value is a number, after what stands before the number
abbrev pub member_text : List ℕ → ℕ → List ℕ
member_text name number = name ++ decimal number

-- the members of the size: the nodes, the listed successors, and the greatest identifier
abbrev pub size_members : List Node → List ℕ
size_members nodes = member_text (codes "{\"nodes\":") (length nodes)
    ++ (member_text (codes ",\"edges\":") (successor_count nodes)
    ++ member_text (codes ",\"greatest\":") (greatest_identifier nodes))

-- a pair: a priority, and how many nodes have it
abbrev pub pair_text : PriorityCount → List ℕ
pair_text count =
    member_text (codes "[") count.priority ++ (member_text (codes ",") count.nodes ++ codes "]")

-- pairs with a comma before each
abbrev pub pairs_after : List PriorityCount → List ℕ
pairs_after counts = flat_map (λ count. codes "," ++ pair_text count) counts

-- pairs with a comma between each two
abbrev pub pairs_text : List PriorityCount → List ℕ
pairs_text [] = []
pairs_text (first ∷ others) = pair_text first ++ pairs_after others

-- the member `priorities`: a pair for each priority in use, the greatest first
abbrev pub priorities_member : List PriorityCount → List ℕ
priorities_member counts = codes ",\"priorities\":[" ++ (pairs_text counts ++ codes "]")

-- whether the node at a place is among its successors
abbrev pub has_self_loop : List Node → ℕ → Bool
has_self_loop nodes v = list_any (λ w. w == v) (successors_at nodes v)

-- how many nodes are among their successors
abbrev pub self_loop_count : List Node → ℕ
self_loop_count nodes = count_by (has_self_loop nodes) (range_with_len 0 (length nodes))

-- a bound on lifts: in decimal, or `null` if it takes more than 128 bits
abbrev pub bound_value : ℕ → List ℕ
bound_value bound = if nat_lt bound (2 ^ 128) then decimal bound else codes "null"

-- the value of a player's bound
abbrev pub player_bound : Player → List Node → List ℕ
player_bound player nodes = bound_value (bound_of player (priorities nodes))

-- the member `bounds`: that of player 0, and that of player 1
abbrev pub bounds_member : List Node → List ℕ
bounds_member nodes = codes ",\"bounds\":["
    ++ (player_bound Zero nodes ++ (codes "," ++ (player_bound One nodes ++ codes "]")))

-- the members of the components: how many there are, and how many nodes the largest has
abbrev pub components_members : ℕ → ℕ → List ℕ
components_members count largest =
    member_text (codes ",\"components\":") count ++ member_text (codes ",\"largest\":") largest

-- the object of a game with this many components, the largest of this many nodes, on a line
abbrev pub game_object : List Node → ℕ → ℕ → List ℕ
game_object nodes count largest =
    size_members nodes ++ (priorities_member (priority_counts (priorities nodes))
    ++ (member_text (codes ",\"self_loops\":") (self_loop_count nodes)
    ++ (components_members count largest ++ (bounds_member nodes ++ codes "}\n"))))

-- a text is the object of a game
pub record IsGameObject (nodes : List Node) (output : List ℕ) : Type 0 where
  pub count : ℕ
  pub largest : ℕ
  pub components : HasComponents nodes count largest
  pub written : output ≡ game_object nodes count largest

-- the answer of `show --json`: the text is that of a game, and its object is written
pub record IsShowJsonAnswer (text output : List ℕ) : Type 0 where
  pub game : List Node
  pub read : IsGameText text game
  pub object : IsGameObject game output
