-- Automata whose names are apart and whose labels have propositions with names.
use Rattle.std.specs.Prelude.{◌≡◌, ℕ, ◌<◌, false, length, Contains, Some}
use Rattle.std.specs.Str.{bytes_eq}
use Rattle.omega_hoa_label.specs.Label.{LabelTree, propositions}
use Rattle.omega_hoa_automaton.specs.Automaton.{BodyEdge, Description, edge_at, has_repeat}
use Rattle.omega_lang_runs.specs.Lasso.{label_of}

-- no two propositions have one name, and each proposition of a label has one
pub record IsNamed (a : Description) : Type 0 where
  pub apart : has_repeat bytes_eq a.propositions ≡ false
  pub below : (number : ℕ) (edge : BodyEdge) (label : LabelTree)
      → edge_at a number ≡ Some edge → label_of edge ≡ Some label
      → (p : ℕ) → Contains (propositions label) p → p < length a.propositions
