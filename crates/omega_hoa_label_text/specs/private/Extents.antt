-- The depth and size of meanings, counted no further than just past the limits.
use Rattle.std.specs.Prelude.{ℕ, ◌+◌, List, [], ◌∷◌, Option, Some, None, option_map, max, min, take, drop}
use Rattle.omega_hoa_expression.specs.Limits.{past_depth, past_size}
use Rattle.omega_hoa_label_text.specs.Expanding.{Entry, extent_of, stands_for}
use Rattle.omega_hoa_label_text.specs.declared.extents.Extent.{Extent}
use Rattle.omega_hoa_label.specs.declared.label.LabelNode.{LabelNode}
use Rattle.omega_hoa_label.specs.declared.label.LabelNode.TheVariants.{Alias, And, Constant, Group}
use Rattle.omega_hoa_label.specs.declared.label.LabelNode.TheVariants.{Not, Or, Proposition}

-- an atom's extent
abbrev pub atom_extent : Option Extent
atom_extent = Some (record { depth = 1; size = 1 })

-- the extent in parentheses
abbrev pub deeper_extent : Extent → Extent
deeper_extent part = record { depth = min (part.depth + 1) past_depth; size = part.size }

-- the extent after `!`
abbrev pub negated_extent : Extent → Extent
negated_extent part = record {
  depth = min (part.depth + 1) past_depth;
  size = min (part.size + 1) past_size;
}

-- the extent of two parts and their operator, if there are both
abbrev pub both_extents : Option Extent → Option Extent → Option Extent
both_extents None right = None
both_extents (Some left) None = None
both_extents (Some left) (Some right) =
    Some (record {
      depth = min (max left.depth right.depth + 1) past_depth;
      size = min (left.size + right.size + 1) past_size;
    })

-- the extent on top, or none if there is none
abbrev pub top_extent : List (Option Extent) → Option Extent
top_extent [] = None
top_extent (extent ∷ extents) = extent

-- the extents below the top
abbrev pub extents_below : List (Option Extent) → List (Option Extent)
extents_below [] = []
extents_below (extent ∷ extents) = extents

-- the extents that nodes leave of those before them, if these names are left and names have these extents
abbrev pub extents_after : (List ℕ → Option Extent) → List (Option Extent) → List ℕ → List LabelNode
    → List (Option Extent)
extents_after named stack names [] = stack
extents_after named stack names (Constant value ∷ nodes) =
    extents_after named (atom_extent ∷ stack) names nodes
extents_after named stack names (Proposition number ∷ nodes) =
    extents_after named (atom_extent ∷ stack) names nodes
extents_after named stack names (Alias count ∷ nodes) = extents_after named
    (option_map deeper_extent (named (take count names)) ∷ stack) (drop count names) nodes
extents_after named stack names (Not ∷ nodes) = extents_after named
    (option_map negated_extent (top_extent stack) ∷ extents_below stack) names nodes
extents_after named stack names (And ∷ nodes) =
    extents_after named (both_extents (top_extent (extents_below stack)) (top_extent stack)
    ∷ extents_below (extents_below stack)) names nodes
extents_after named stack names (Or ∷ nodes) =
    extents_after named (both_extents (top_extent (extents_below stack)) (top_extent stack)
    ∷ extents_below (extents_below stack)) names nodes
extents_after named stack names (Group ∷ nodes) = extents_after named
    (option_map deeper_extent (top_extent stack) ∷ extents_below stack) names nodes

-- the extent of a name among entries
abbrev pub extent_named : List Entry → List ℕ → Option Extent
extent_named entries name = option_map extent_of (stands_for entries name)
