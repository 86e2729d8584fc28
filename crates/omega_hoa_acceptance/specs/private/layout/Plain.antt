-- The nodes of an acceptance formula without parentheses, and how deep nodes are.
use Rattle.std.specs.Prelude.{ℕ, ◌+◌, Bool, true, nat_lt, if◌then◌else◌, List, [], ◌∷◌, ◌++◌}
use Rattle.std.specs.Prelude.{Option, Some, None, option_map, codes, drop, max, min, take}
use Rattle.std.specs.Str.{bytes_eq}
use Rattle.omega_hoa_expression.specs.Depths.{depths_below, top_depth}
use Rattle.omega_hoa_expression.specs.Limits.{past_depth}
use Rattle.omega_hoa_acceptance.specs.declared.formula.AccNode.{AccNode}
use Rattle.omega_hoa_acceptance.specs.declared.formula.AccNode.TheVariants as plain
use Rattle.omega_hoa_acceptance.specs.declared.raw.RawAccNode.{RawAccNode}
use Rattle.omega_hoa_acceptance.specs.declared.raw.RawAccNode.TheVariants.{And, Atom, Constant, Group, Or}

-- the node of an atom with this identifier; none if it means nothing
abbrev pub atom_plain : List ℕ → Bool → ℕ → Option AccNode
atom_plain name negated set =
    if bytes_eq name (codes "Inf") then Some (plain.Inf negated set)
    else (if bytes_eq name (codes "Fin") then Some (plain.Fin negated set) else None)

-- nodes after others, if there are both
abbrev pub after_nodes : Option (List AccNode) → Option (List AccNode) → Option (List AccNode)
after_nodes None more = None
after_nodes (Some nodes) more = option_map (λ rest. nodes ++ rest) more

-- the node alone, if there is one
abbrev pub alone : Option AccNode → Option (List AccNode)
alone node = option_map (λ one. one ∷ []) node

-- the nodes without parentheses, if these names are left; none if an atom means nothing
abbrev pub plain_nodes : List ℕ → List RawAccNode → Option (List AccNode)
plain_nodes names [] = Some []
plain_nodes names (Constant value ∷ nodes) =
    after_nodes (Some (plain.Constant value ∷ [])) (plain_nodes names nodes)
plain_nodes names (Atom count negated set ∷ nodes) = after_nodes
    (alone (atom_plain (take count names) negated set)) (plain_nodes (drop count names) nodes)
plain_nodes names (And ∷ nodes) = after_nodes (Some (plain.And ∷ [])) (plain_nodes names nodes)
plain_nodes names (Or ∷ nodes) = after_nodes (Some (plain.Or ∷ [])) (plain_nodes names nodes)
plain_nodes names (Group ∷ nodes) = plain_nodes names nodes

-- two depths and their operator, as they are counted
abbrev pub joined_depth : List ℕ → ℕ
joined_depth depths = min (max (top_depth (depths_below depths)) (top_depth depths) + 1) past_depth

-- the depths that nodes leave of those before them, as they are counted
abbrev pub depths_after : List ℕ → List AccNode → List ℕ
depths_after depths [] = depths
depths_after depths (plain.Constant value ∷ nodes) = depths_after (1 ∷ depths) nodes
depths_after depths (plain.Inf negated set ∷ nodes) = depths_after (1 ∷ depths) nodes
depths_after depths (plain.Fin negated set ∷ nodes) = depths_after (1 ∷ depths) nodes
depths_after depths (plain.And ∷ nodes) =
    depths_after (joined_depth depths ∷ depths_below (depths_below depths)) nodes
depths_after depths (plain.Or ∷ nodes) =
    depths_after (joined_depth depths ∷ depths_below (depths_below depths)) nodes

-- whether a node's set is below a count, if it has one
abbrev pub set_below : ℕ → RawAccNode → Bool
set_below count (Atom length negated set) = nat_lt set count
set_below count other = true
