-- How texts of circuits begin.
use Rattle.std.specs.Prelude.{ℕ, ◌||◌, Bool, List, eqb, codes}
use Rattle.std.specs.List.{starts_with}

-- with `aag ` or `aig `
abbrev pub begins_as_form : List ℕ → Bool
begins_as_form text = starts_with eqb text (codes "aag ") || starts_with eqb text (codes "aig ")

-- with one of these, or with the line `REALIZABLE` and then one of these
abbrev pub begins_as_circuit : List ℕ → Bool
begins_as_circuit text = begins_as_form text || starts_with eqb text (codes "REALIZABLE\naag ")
    || starts_with eqb text (codes "REALIZABLE\naig ")
