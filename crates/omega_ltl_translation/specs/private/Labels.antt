-- Labels of edges as a text writes them, by when they are true.
use Rattle.std.specs.Prelude.{◌≡◌, ◌↔◌, ◌≤◌, ◌<◌, ◌+◌, ◌*◌, ℕ, Bool, IsTrue, List, [], Option, None, Some, length}
use Rattle.std.specs.Prelude.{Contains, IfNone, IfSome}
use Rattle.omega_hoa_expression.specs.Limits.{most_depth}
use Rattle.omega_hoa_label.specs.Label.{LabelTree, label_size, truth}
use Rattle.omega_hoa_label.specs.Raw.{RawLabelTree, conjunction, disjunction, raw_depth}
use Rattle.omega_hoa_label.specs.Writing.{label_text, label_written}
use Rattle.omega_ltl_shapes.specs.Covers.{HasLiteral}
use Rattle.omega_ltl_shapes.specs.Demands.{IsLiteralTrue}
use Rattle.omega_ltl_shapes.specs.declared.cube.Cube.{Cube}
use Rattle.omega_ltl_translation.specs.Limits.{most_edge_label}

-- a cube is true at a letter
abbrev pub IsTrueCube : (ℕ → Bool) → Cube → Type 0
IsTrueCube letter cube =
    (name : ℕ) (negated : Bool) → HasLiteral cube name negated → IsLiteralTrue letter name negated

-- a label as it is written, whose top operator binds at least so tightly, with at most so many nodes and so deep, and
-- which is true at such letters
pub record IsLabelAt (rank size depth : ℕ) (Holds : (ℕ → Bool) → Type 0) (written : RawLabelTree)
    : Type 0 where
  pub tree : LabelTree
  pub is : written ≡ label_written tree
  pub binds : rank ≤ (label_text tree).rank
  pub small : label_size tree ≤ size
  pub shallow : raw_depth written ≤ depth
  pub exact : (letter : ℕ → Bool) → IsTrue (truth letter tree) ↔ Holds letter

-- the literals of a cube on a name are true
abbrev pub AreTrueOn : Cube → ℕ → (ℕ → Bool) → Type 0
AreTrueOn cube name letter =
    (negated : Bool) → HasLiteral cube name negated → IsLiteralTrue letter name negated

-- the literals of a cube on the first names are true
abbrev pub AreTrueBelow : Cube → ℕ → (ℕ → Bool) → Type 0
AreTrueBelow cube count letter =
    (name : ℕ) (negated : Bool) → name < count → HasLiteral cube name negated
    → IsLiteralTrue letter name negated

-- some cube of a list is true
abbrev pub SomeIsTrue : List Cube → (ℕ → Bool) → Type 0
SomeIsTrue cubes letter = (cube : Cube) × Contains cubes cube × IsTrueCube letter cube

-- a label that is true at such letters, or none if that is each letter
pub record IsLabelOrNone (rank size depth : ℕ) (Holds : (ℕ → Bool) → Type 0) (label : Option RawLabelTree)
    : Type 0 where
  pub some : IfSome label (IsLabelAt rank size depth Holds)
  pub none : IfNone label ((letter : ℕ → Bool) → Holds letter)

-- the conjunction of two labels; none is true at each letter
abbrev pub conjunction_of : Option RawLabelTree → Option RawLabelTree → Option RawLabelTree
conjunction_of None more = more
conjunction_of (Some label) None = Some label
conjunction_of (Some label) (Some more) = Some (conjunction label more)

-- the disjunction of two labels; none is true at no letter
abbrev pub disjunction_of : Option RawLabelTree → RawLabelTree → RawLabelTree
disjunction_of None more = more
disjunction_of (Some label) more = disjunction label more

-- a label can be an operand of another
abbrev pub IsOperand : RawLabelTree → Type 0
IsOperand label = raw_depth label < most_depth

-- the most cubes that are joined to one label, so that it is not too deep
abbrev pub most_cubes : ℕ
most_cubes = 128

-- cubes can be joined to one label
abbrev pub AreFew : List Cube → Type 0
AreFew cubes = (0 < length cubes) × (length cubes ≤ most_cubes)

-- the label of a cube with the literals on the first names: for each a literal of at most two nodes, and `&`
abbrev pub IsLabelBelow : Cube → ℕ → Option RawLabelTree → Type 0
IsLabelBelow cube count = IsLabelOrNone 2 (count * 3) (count + 2) (AreTrueBelow cube count)

-- the label that is true where some cube of a list is. That of a cube has at most 64 names, so it is at most 66 deep
abbrev pub IsLabelOf : List Cube → RawLabelTree → Type 0
IsLabelOf cubes = IsLabelAt 1 (length cubes * most_edge_label) (length cubes + 66) (SomeIsTrue cubes)

-- a label that is true where some cube of a list is, or none if the list is empty
pub record IsLabelOfCubes (cubes : List Cube) (label : Option RawLabelTree) : Type 0 where
  pub some : IfSome label (IsLabelOf cubes)
  pub none : IfNone label (cubes ≡ [])
