-- Games from specifications: which are well formed, which game they have, and which fault.
use Rattle.std.specs.Prelude.{◌≡◌, ◌==◌, ◌++◌, [], ◌∷◌, ℕ, ◌<◌, ◌≤◌, Bool, Option, Some, None, List, length}
use Rattle.std.specs.Prelude.{map, sum_by, count_by, nat_lt, All, IfSome, false, if◌then◌else◌}
use Rattle.std.specs.List.{list_any}
use Rattle.std.specs.List.Sorted.{IsPermutation}
use Rattle.omega_game_values.specs.declared.node_spec.NodeSpec.{NodeSpec}
use Rattle.omega_game_values.specs.declared.player.Player.{Player}
use Rattle.omega_game_values.specs.Limits.{most_nodes, most_successors}
use Rattle.omega_text.specs.Limits.{most_number}
use Rattle.omega_text.specs.declared.refusal.Refusal.{Refusal}
use Rattle.omega_text.specs.Cases.{never, or_game, or_memory}
use Rattle.omega_text.specs.declared.refusal.game.GameFault.{GameFault}
use Rattle.omega_text.specs.declared.refusal.game.GameFault.TheVariants.{DuplicateNode, UndefinedSuccessor}
use Rattle.omega_text.specs.declared.refusal.game.GameFault.TheVariants.{HeaderTooSmall, TooManyEdges}
use Rattle.omega_text.specs.declared.refusal.game.GameFault.TheVariants.{TooManyNodes}
use Rattle.omega_game_values.specs.Game.{Node, IsGame, IsNameByte, node_at}

-- a specification that callers may give: numbers that a text can hold, a successor, and a name of the allowed bytes
pub record IsWellFormed (spec : NodeSpec) : Type 0 where
  pub id : spec.id ≤ most_number
  pub priority : spec.priority ≤ most_number
  pub successors : All (λ successor. successor ≤ most_number) spec.successors
  pub continued : 0 < length spec.successors
  pub name : IfSome spec.name (All IsNameByte)

-- a node as it is specified, its successors by their identifiers
abbrev pub specified : List Node → Node → NodeSpec
specified nodes node = record {
  id = node.identifier;
  priority = node.priority;
  owner = node.owner;
  successors = map (λ v. (node_at nodes v).identifier) node.successors;
  name = node.name;
}

-- the specification of a node without a name
abbrev pub unnamed_spec : ℕ → ℕ → Player → List ℕ → NodeSpec
unnamed_spec id priority owner successors = record {
  id = id;
  priority = priority;
  owner = owner;
  successors = successors;
  name = None;
}

-- the game of the specifications: its nodes, as they are specified, are a rearrangement of them
pub record IsGameOf (specs : List NodeSpec) (nodes : List Node) : Type 0 where
  pub game : IsGame nodes
  pub rearranged : IsPermutation specs (map (specified nodes) nodes)

-- how many specifications have the identifier
abbrev pub specified_times : List NodeSpec → ℕ → ℕ
specified_times specs id = count_by (λ spec. spec.id == id) specs

-- an identifier is specified twice
abbrev pub has_duplicate : List NodeSpec → Bool
has_duplicate specs = list_any (λ spec. nat_lt 1 (specified_times specs spec.id)) specs

-- a successor has no specification
abbrev pub has_undefined : List NodeSpec → Bool
has_undefined specs = list_any
    (λ spec. list_any (λ successor. specified_times specs successor == 0) spec.successors) specs

-- how many successors the specifications list, repeats counted
abbrev pub listed_successors : List NodeSpec → ℕ
listed_successors specs = sum_by (λ spec. length spec.successors) specs

-- the fault of specifications after a header that is too small or not:
-- of those that apply the one with the least number, or none
abbrev pub fault_with : Bool → List NodeSpec → Option GameFault
fault_with small specs =
    if has_duplicate specs then Some DuplicateNode else
    if has_undefined specs then Some UndefinedSuccessor else
    if small then Some HeaderTooSmall else
    if nat_lt most_nodes (length specs) then Some TooManyNodes else
    if nat_lt most_successors (listed_successors specs) then Some TooManyEdges else
    None

-- the fault of specifications after no header
abbrev pub game_fault_of : List NodeSpec → Option GameFault
game_fault_of specs = fault_with false specs

-- the refusal of a call that builds a game: the fault of the specifications, or memory
abbrev pub IsBuildRefusal : List NodeSpec → Refusal → Type 0
IsBuildRefusal specs = or_game (λ fault. game_fault_of specs ≡ Some fault) (or_memory never)

-- the specifications with the last of them changed
abbrev pub with_last : (NodeSpec → NodeSpec) → List NodeSpec → List NodeSpec
with_last change [] = []
with_last change (spec ∷ []) = change spec ∷ []
with_last change (spec ∷ next ∷ specs) = spec ∷ with_last change (next ∷ specs)

-- the specification with one successor more
abbrev pub with_successor : ℕ → NodeSpec → NodeSpec
with_successor successor spec = record spec { successors = spec.successors ++ successor ∷ [] }

-- the specification without its name
abbrev pub without_name : NodeSpec → NodeSpec
without_name spec = record spec { name = None }

-- the specification with the name
abbrev pub with_name : List ℕ → NodeSpec → NodeSpec
with_name name spec = record spec { name = Some name }
