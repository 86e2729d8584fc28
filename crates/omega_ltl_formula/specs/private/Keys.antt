-- The table that keys in the order of their first occurrences are.
use Rattle.std.specs.Prelude.{◌≡◌, ◌⊎◌, ℕ, List, [], ◌∷◌, ◌++◌, Vec, map}
use Rattle.std.specs.Global.{Global}
use Rattle.omega_ltl_formula.specs.Table.{FormulaTable}
use Rattle.omega_ltl_formula.specs.declared.node.FormulaNode.{FormulaNode}

-- the bytes of keys
abbrev pub bytes_of : List (Vec ℕ Global) → List (List ℕ)
bytes_of keys = map (λ (key : Vec ℕ Global). key.items) keys

-- the table with these names and nodes
abbrev pub table_of : List (Vec ℕ Global) → List FormulaNode → FormulaTable
table_of names nodes = record { names = bytes_of names; nodes = nodes }

-- a list has become another: it is the same, or this item is behind it
abbrev pub IsWith : {X : Type 0} → List X → X → List X → Type 0
IsWith old item new = (new ≡ old) ⊎ (new ≡ old ++ item ∷ [])
