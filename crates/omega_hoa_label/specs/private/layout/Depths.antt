-- The depths that the nodes of a label leave, as they are counted.
use Rattle.std.specs.Prelude.{ℕ, ◌+◌, List, [], ◌∷◌, max, min}
use Rattle.omega_hoa_expression.specs.Depths.{depths_below, top_depth}
use Rattle.omega_hoa_expression.specs.Limits.{past_depth}
use Rattle.omega_hoa_label.specs.declared.label.LabelNode.{LabelNode}
use Rattle.omega_hoa_label.specs.declared.label.LabelNode.TheVariants.{Alias, And, Constant, Group}
use Rattle.omega_hoa_label.specs.declared.label.LabelNode.TheVariants.{Not, Or, Proposition}

-- one deeper than the depth on top
abbrev pub deeper_top : List ℕ → List ℕ
deeper_top depths = min (top_depth depths + 1) past_depth ∷ depths_below depths

-- one deeper than the two depths on top
abbrev pub joined_top : List ℕ → List ℕ
joined_top depths = min (max (top_depth (depths_below depths)) (top_depth depths) + 1) past_depth
    ∷ depths_below (depths_below depths)

-- the depths that a node leaves of those before it
abbrev pub depths_with : List ℕ → LabelNode → List ℕ
depths_with depths (Constant value) = 1 ∷ depths
depths_with depths (Proposition number) = 1 ∷ depths
depths_with depths (Alias count) = 1 ∷ depths
depths_with depths Not = deeper_top depths
depths_with depths Group = deeper_top depths
depths_with depths And = joined_top depths
depths_with depths Or = joined_top depths

-- the depths that nodes leave of those before them
abbrev pub depths_after : List ℕ → List LabelNode → List ℕ
depths_after depths [] = depths
depths_after depths (node ∷ nodes) = depths_after (depths_with depths node) nodes
