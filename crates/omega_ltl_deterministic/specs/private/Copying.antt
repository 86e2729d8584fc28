-- Nodes of a formula that are copied to a table.
use Rattle.std.specs.Prelude.{◌<◌, ℕ, List, All, length}
use Rattle.omega_ltl_formula.specs.Table.{FormulaTable}

-- numbers of nodes of a table
abbrev pub AreWithin : FormulaTable → List ℕ → Type 0
AreWithin table numbers = All (λ number. number < length table.nodes) numbers
