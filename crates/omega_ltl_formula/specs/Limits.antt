-- The limits of formulas, in numbers.
use Rattle.std.specs.Prelude.{ℕ}

-- the greatest depth
abbrev pub most_formula_depth : ℕ
most_formula_depth = 256

-- the greatest number of atoms and operators
abbrev pub most_formula_nodes : ℕ
most_formula_nodes = 4096

-- the greatest number of names
abbrev pub most_formula_names : ℕ
most_formula_names = 64
