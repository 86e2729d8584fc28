-- The nodes of a formula as its canonical text has it, from the last to the first, and how deep they are.
use Rattle.std.specs.Prelude.{ℕ, ◌+◌, Bool, nat_lt, if◌then◌else◌, List, [], ◌∷◌, ◌++◌, codes, max, min}
use Rattle.omega_hoa_expression.specs.Depths.{depths_below, top_depth}
use Rattle.omega_hoa_expression.specs.Limits.{past_depth}
use Rattle.omega_hoa_acceptance.specs.declared.formula.AccNode.{AccNode}
use Rattle.omega_hoa_acceptance.specs.declared.formula.AccNode.TheVariants as plain
use Rattle.omega_hoa_acceptance.specs.declared.raw.RawAccNode.{RawAccNode}
use Rattle.omega_hoa_acceptance.specs.declared.raw.RawAccNode.TheVariants.{And, Atom, Constant, Group, Or}

-- how tightly the operator of a node binds: 1 for `|`, 2 for `&`, 3 for the rest
abbrev pub node_rank : AccNode → ℕ
node_rank plain.And = 2
node_rank plain.Or = 1
node_rank other = 3

-- how tightly the parts of a node have to bind to need no parentheses, the right one first, and then those before it
abbrev pub ranks_after : AccNode → List ℕ → List ℕ
ranks_after plain.And ranks = 3 ∷ 2 ∷ ranks
ranks_after plain.Or ranks = 2 ∷ 1 ∷ ranks
ranks_after other ranks = ranks

-- the node of a formula as it is written
abbrev pub raw_node : AccNode → RawAccNode
raw_node (plain.Constant value) = Constant value
raw_node (plain.Inf negated set) = Atom 3 negated set
raw_node (plain.Fin negated set) = Atom 3 negated set
raw_node plain.And = And
raw_node plain.Or = Or

-- the node of parentheses, if they are needed
abbrev pub closing : Bool → List RawAccNode
closing within = if within then Group ∷ [] else []

-- a node as it is written, and before it that of the parentheses around its formula, which it needs unless it binds as
-- tightly as the rank
abbrev pub written_node : ℕ → AccNode → List RawAccNode
written_node rank node = closing (nat_lt (node_rank node) rank) ++ raw_node node ∷ []

-- nodes, last first, as they are written, if their formulas have to bind as tightly as the ranks
abbrev pub written_back : List ℕ → List AccNode → List RawAccNode
written_back ranks [] = []
written_back ranks (node ∷ nodes) =
    written_node (top_depth ranks) node ++ written_back (ranks_after node (depths_below ranks)) nodes

-- the name of a node's atom, if it has one
abbrev pub node_name : AccNode → List ℕ
node_name (plain.Inf negated set) = codes "Inf"
node_name (plain.Fin negated set) = codes "Fin"
node_name other = []

-- the names of nodes' atoms, joined
abbrev pub node_names : List AccNode → List ℕ
node_names [] = []
node_names (node ∷ nodes) = node_name node ++ node_names nodes

-- two depths and their operator, as they are counted
abbrev pub raw_joined_depth : List ℕ → ℕ
raw_joined_depth depths =
    min (max (top_depth (depths_below depths)) (top_depth depths) + 1) past_depth

-- the depths that nodes leave of those before them, as they are counted
abbrev pub raw_depths_after : List ℕ → List RawAccNode → List ℕ
raw_depths_after depths [] = depths
raw_depths_after depths (Constant value ∷ nodes) = raw_depths_after (1 ∷ depths) nodes
raw_depths_after depths (Atom count negated set ∷ nodes) = raw_depths_after (1 ∷ depths) nodes
raw_depths_after depths (And ∷ nodes) =
    raw_depths_after (raw_joined_depth depths ∷ depths_below (depths_below depths)) nodes
raw_depths_after depths (Or ∷ nodes) =
    raw_depths_after (raw_joined_depth depths ∷ depths_below (depths_below depths)) nodes
raw_depths_after depths (Group ∷ nodes) =
    raw_depths_after (min (top_depth depths + 1) past_depth ∷ depths_below depths) nodes
