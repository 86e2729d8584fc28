-- Names of a formula that an automaton does not have.
use Rattle.std.specs.Prelude.{ℕ, not, List, filter}
use Rattle.std.specs.List.{list_any}
use Rattle.std.specs.Str.{bytes_eq}
use Rattle.omega_hoa_automaton.specs.Automaton.{Description}
use Rattle.omega_ltl_formula.specs.Table.{NumberedFormula}

-- the names of a formula that no proposition of an automaton has, in the order of the formula
abbrev pub unmentioned_names : NumberedFormula → Description → List (List ℕ)
unmentioned_names formula a =
    filter (λ name. not (list_any (bytes_eq name) a.propositions)) formula.table.names
