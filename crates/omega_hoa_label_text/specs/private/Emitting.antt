-- The nodes of a label with its aliases replaced.
use Rattle.std.specs.Prelude.{◌≡◌, ℕ, ◌<◌, ◌≤◌, List, [], ◌∷◌, ◌++◌, Option, Some, None}
use Rattle.std.specs.Prelude.{IsSome, length, option_map, slice_get, slice_range, take, drop}
use Rattle.omega_hoa_label_text.specs.Expanding.{Defined, Entry, Meaning, entries_of, replaced, stands_for}
use Rattle.omega_hoa_label.specs.Raw.{RawLabelTree}
use Rattle.omega_hoa_label.specs.Postfix.{postfix}
use Rattle.omega_hoa_label.specs.declared.label.LabelNode.{LabelNode}
use Rattle.omega_hoa_label.specs.declared.label.LabelNode.TheVariants.{Alias, And, Constant, Group}
use Rattle.omega_hoa_label.specs.declared.label.LabelNode.TheVariants.{Not, Or, Proposition}

-- the nodes of the definition of a name
abbrev pub nodes_of : Option Meaning → List LabelNode
nodes_of None = []
nodes_of (Some meaning) = postfix meaning.tree

-- the nodes with aliases replaced and parentheses gone, if these names are left
abbrev pub emitted : List Entry → List ℕ → List LabelNode → List LabelNode
emitted entries names [] = []
emitted entries names (Constant value ∷ nodes) = Constant value ∷ emitted entries names nodes
emitted entries names (Proposition number ∷ nodes) = Proposition number ∷ emitted entries names nodes
emitted entries names (Alias count ∷ nodes) =
    nodes_of (stands_for entries (take count names)) ++ emitted entries (drop count names) nodes
emitted entries names (Not ∷ nodes) = Not ∷ emitted entries names nodes
emitted entries names (And ∷ nodes) = And ∷ emitted entries names nodes
emitted entries names (Or ∷ nodes) = Or ∷ emitted entries names nodes
emitted entries names (Group ∷ nodes) = emitted entries names nodes

-- each alias of the nodes has a definition
abbrev pub AllStand : List Entry → List ℕ → List LabelNode → Type 0
AllStand entries names [] = Unit {0}
AllStand entries names (Constant value ∷ nodes) = AllStand entries names nodes
AllStand entries names (Proposition number ∷ nodes) = AllStand entries names nodes
AllStand entries names (Alias count ∷ nodes) =
    IsSome (stands_for entries (take count names)) × AllStand entries (drop count names) nodes
AllStand entries names (Not ∷ nodes) = AllStand entries names nodes
AllStand entries names (And ∷ nodes) = AllStand entries names nodes
AllStand entries names (Or ∷ nodes) = AllStand entries names nodes
AllStand entries names (Group ∷ nodes) = AllStand entries names nodes

-- what is kept of a meaning: its nodes, or nothing
abbrev pub IsKept : Option (List LabelNode) → Option Meaning → Type 0
IsKept None meaning = Unit {0}
IsKept (Some nodes) None = ⊥
IsKept (Some nodes) (Some meaning) = nodes ≡ postfix meaning.tree

-- what is kept of each entry's meaning
abbrev pub AllKept : List (Option (List LabelNode)) → List Entry → Type 0
AllKept [] [] = Unit {0}
AllKept [] (entry ∷ entries) = ⊥
AllKept (kept ∷ others) [] = ⊥
AllKept (kept ∷ others) (entry ∷ entries) = IsKept kept entry.meaning × AllKept others entries

-- the body of the definition at a place
abbrev pub IsBodyAt : List Defined → ℕ → RawLabelTree → Type 0
IsBodyAt definitions place body = option_map (λ d. d.body) (slice_get definitions place) ≡ Some body

-- these are the nodes of what the definition at a place means
abbrev pub IsKeptAt : List Defined → ℕ → List LabelNode → Type 0
IsKeptAt definitions place nodes = (body : RawLabelTree) → IsBodyAt definitions place body
    → nodes ≡ nodes_of (replaced (take place (entries_of [] definitions)) body)

-- the meaning of the definition at a place is written from one place to another, if that definition comes before the
-- limit
pub record IsReplacedAt (definitions : List Defined) (limit : ℕ) (out : List LabelNode)
    (place start stop : ℕ) : Type 0 where
  pub forward : start ≤ stop
  pub within : stop ≤ length out
  pub nodes : (body : RawLabelTree) → place < limit → IsBodyAt definitions place body
      → slice_range out start stop ≡ nodes_of (replaced (take place (entries_of [] definitions)) body)
