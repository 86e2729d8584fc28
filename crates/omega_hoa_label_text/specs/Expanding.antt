-- The meaning of a label once each alias is replaced by its definition (HOA v1, aliases; docs/formats.md, labels and
-- acceptance formulas).
use Rattle.std.specs.Prelude.{◌≡◌, ℕ, suc, ◌+◌, ◌<◌, ◌≤◌, length, nat_lt, if◌then◌else◌}
use Rattle.std.specs.Prelude.{List, [], ◌∷◌, ◌++◌, Option, Some, None, option_map, max, min}
use Rattle.std.specs.Str.{bytes_eq}
use Rattle.omega_text.specs.Cases.{never, or_automaton, or_memory}
use Rattle.omega_text.specs.declared.refusal.Refusal.{Refusal}
use Rattle.omega_text.specs.declared.refusal.automaton.AutomatonFault.{AutomatonFault}
use Rattle.omega_text.specs.declared.refusal.automaton.AutomatonFault.TheVariants.{Alias, Expansion, TooDeep}
use Rattle.omega_hoa_label.specs.Label.{LabelTree, label_size}
use Rattle.omega_hoa_label.specs.Label as label
use Rattle.omega_hoa_expression.specs.Limits.{most_depth, most_size, past_depth, past_size}
use Rattle.omega_hoa_label_text.specs.declared.extents.Extent.{Extent}
use Rattle.omega_hoa_label.specs.Raw.{RawLabelTree, alias, conjunction, constant}
use Rattle.omega_hoa_label.specs.Raw.{disjunction, group, negation, proposition}

-- an alias and its definition as it is written
pub record Defined : Type 0 where
  pub name : List ℕ
  pub body : RawLabelTree

-- a label without aliases and parentheses, and the depth that it had with them
pub record Meaning : Type 0 where
  pub tree : LabelTree
  pub depth : ℕ

-- the depth and the tree nodes of a meaning, each counted no further than one past its limit
abbrev pub extent_of : Meaning → Extent
extent_of meaning = record {
  depth = min meaning.depth past_depth;
  size = min (label_size meaning.tree) past_size;
}

-- a name, and what it means; none if its definition reaches an undefined alias
pub record Entry : Type 0 where
  pub name : List ℕ
  pub meaning : Option Meaning

-- what a name means among entries; none if it is not there
abbrev pub stands_for : List Entry → List ℕ → Option Meaning
stands_for [] name = None
stands_for (entry ∷ entries) name =
    if bytes_eq name entry.name then entry.meaning else stands_for entries name

-- a meaning of depth 1
abbrev pub atom : LabelTree → Option Meaning
atom tree = Some (record { tree = tree; depth = 1 })

-- a meaning in parentheses
abbrev pub in_parentheses : Meaning → Meaning
in_parentheses part = record { tree = part.tree; depth = part.depth + 1 }

-- a meaning after `!`
abbrev pub negated : Meaning → Meaning
negated part = record { tree = label.negation part.tree; depth = part.depth + 1 }

-- two meanings and their operator, if there are both
abbrev pub both : (LabelTree → LabelTree → LabelTree) → Option Meaning
    → Option Meaning → Option Meaning
both operator None right = None
both operator (Some left) None = None
both operator (Some left) (Some right) =
    Some (record { tree = operator left.tree right.tree; depth = max left.depth right.depth + 1 })

-- what a label as it is written means, an alias counting as its definition between parentheses
abbrev pub replaced : List Entry → RawLabelTree → Option Meaning
replaced entries (constant value) = atom (label.constant value)
replaced entries (proposition number) = atom (label.proposition number)
replaced entries (alias name) = option_map in_parentheses (stands_for entries name)
replaced entries (negation part) = option_map negated (replaced entries part)
replaced entries (conjunction left right) =
    both label.conjunction (replaced entries left) (replaced entries right)
replaced entries (disjunction left right) =
    both label.disjunction (replaced entries left) (replaced entries right)
replaced entries (group part) = option_map in_parentheses (replaced entries part)

-- the entries of definitions after earlier ones: each means what it does under those before it alone
abbrev pub entries_of : List Entry → List Defined → List Entry
entries_of before [] = []
entries_of before (next ∷ rest) = record { name = next.name; meaning = replaced before next.body }
    ∷ entries_of (before ++ record { name = next.name; meaning = replaced before next.body } ∷ []) rest

-- what a label means under definitions
abbrev pub expansion : List Defined → RawLabelTree → Option Meaning
expansion definitions raw = replaced (entries_of [] definitions) raw

-- the fault of a meaning: an undefined alias, or else its depth, or else its size
abbrev pub fault_of_meaning : Option Meaning → Option AutomatonFault
fault_of_meaning None = Some Alias
fault_of_meaning (Some meaning) =
    if nat_lt most_depth meaning.depth then Some TooDeep
    else (if nat_lt most_size (label_size meaning.tree) then Some Expansion else None)

-- the label is what another one as it is written means, and that has no fault
pub record IsExpansion (definitions : List Defined) (raw : RawLabelTree)
    (tree : LabelTree) : Type 0 where
  pub sound : fault_of_meaning (expansion definitions raw) ≡ None
  pub tree_is : option_map (λ meaning. meaning.tree) (expansion definitions raw) ≡ Some tree

-- what the label means has no fault and this many tree nodes
pub record IsExpanded (definitions : List Defined) (raw : RawLabelTree) (size : ℕ) : Type 0 where
  pub sound : fault_of_meaning (expansion definitions raw) ≡ None
  pub size_is : option_map (λ meaning. label_size meaning.tree) (expansion definitions raw) ≡ Some size

-- a refusal by the fault of the meaning, or want of memory
abbrev pub IsUnexpanded : List Defined → RawLabelTree → Refusal → Type 0
IsUnexpanded definitions raw = or_automaton
    (λ fault. fault_of_meaning (expansion definitions raw) ≡ Some fault) (or_memory never)

-- the place of a name among definitions, or how many they are
abbrev pub place_among : List Defined → List ℕ → ℕ
place_among [] name = 0
place_among (next ∷ rest) name = if bytes_eq name next.name then 0 else suc (place_among rest name)

-- one definition is put last
abbrev pub IsAdded : List Defined → List ℕ → RawLabelTree → List Defined → Type 0
IsAdded old name body new =
    (length old ≤ place_among old name) × (new ≡ old ++ record { name = name; body = body } ∷ [])

-- the name is there, or want of memory
abbrev pub IsRepeated : List Defined → List ℕ → Refusal → Type 0
IsRepeated old name =
    or_automaton (λ fault. (fault ≡ Alias) × (place_among old name < length old)) (or_memory never)
