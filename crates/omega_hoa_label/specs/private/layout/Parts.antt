-- How a label is written from its last node to its first: its parts with parentheses where an operator needs them.
use Rattle.std.specs.Prelude.{ℕ, Bool, nat_lt, if◌then◌else◌, List, [], ◌∷◌, ◌++◌, reverse}
use Rattle.omega_hoa_expression.specs.Depths.{depths_below, top_depth}
use Rattle.omega_hoa_label.specs.Label.{LabelTree}
use Rattle.omega_hoa_label.specs.Writing.{label_text, label_written}
use Rattle.omega_hoa_label.specs.Postfix.{raw_postfix}
use Rattle.omega_hoa_label.specs.declared.grouping.Grouping.{Grouping}
use Rattle.omega_hoa_label.specs.declared.label.LabelNode.{LabelNode}
use Rattle.omega_hoa_label.specs.declared.label.LabelNode.TheVariants.{Alias, And, Constant, Group}
use Rattle.omega_hoa_label.specs.declared.label.LabelNode.TheVariants.{Not, Or, Proposition}

-- the written nodes of a part, and how tightly its top operator binds: 1 for `|`, 2 for `&`, 3 for the rest
pub record Part : Type 0 where
  pub rank : ℕ
  pub nodes : List LabelNode

-- the part that a label is
abbrev pub part_of : LabelTree → Part
part_of tree = record { rank = (label_text tree).rank; nodes = raw_postfix (label_written tree) }

-- the part on top, or one without nodes if there is none
abbrev pub top_part : List Part → Part
top_part [] = record { rank = 3; nodes = [] }
top_part (part ∷ parts) = part

-- the parts below the top
abbrev pub parts_below : List Part → List Part
parts_below [] = []
parts_below (part ∷ parts) = parts

-- nodes in parentheses or not
abbrev pub within : Bool → List LabelNode → List LabelNode
within parentheses nodes = if parentheses then nodes ++ Group ∷ [] else nodes

-- the nodes of a part, in parentheses if it binds less tightly than this
abbrev pub within_rank : ℕ → Part → List LabelNode
within_rank wanted part = within (nat_lt part.rank wanted) part.nodes

-- two parts and their operator, which binds as tightly as the first number and wants its right part to bind as tightly
-- as the second
abbrev pub joined_part : ℕ → ℕ → LabelNode → List Part → List Part
joined_part rank above operator parts =
    record {
      rank = rank;
      nodes = within_rank rank (top_part (parts_below parts))
          ++ (within_rank above (top_part parts) ++ operator ∷ []);
    } ∷ parts_below (parts_below parts)

-- the parts that a node leaves of those before it; an alias or parentheses, which no label has, leave them as they are
abbrev pub part_with : List Part → LabelNode → List Part
part_with parts (Constant value) = record { rank = 3; nodes = Constant value ∷ [] } ∷ parts
part_with parts (Proposition number) = record { rank = 3; nodes = Proposition number ∷ [] } ∷ parts
part_with parts Not =
    record { rank = 3; nodes = within_rank 3 (top_part parts) ++ Not ∷ [] } ∷ parts_below parts
part_with parts And = joined_part 2 3 And parts
part_with parts Or = joined_part 1 2 Or parts
part_with parts (Alias count) = parts
part_with parts Group = parts

-- the parts that nodes leave of those before them
abbrev pub parts_after : List Part → List LabelNode → List Part
parts_after parts [] = parts
parts_after parts (node ∷ nodes) = parts_after (part_with parts node) nodes

-- the nodes of parts, the last of them on top, if they are to bind this tightly
abbrev pub nodes_before : List ℕ → List Part → List LabelNode
nodes_before wanted [] = []
nodes_before wanted (part ∷ parts) =
    nodes_before (depths_below wanted) parts ++ within_rank (top_depth wanted) part

-- all nodes, if these are the parts that come
abbrev pub whole_nodes : Grouping → List Part → List LabelNode
whole_nodes grouping parts = nodes_before grouping.wanted parts ++ reverse grouping.nodes.items
