-- The propositions of two automata joined by their names.
use Rattle.std.specs.Prelude.{ℕ, Bool, not, List, ◌++◌, map, filter}
use Rattle.std.specs.List.{list_any, position_or_len}
use Rattle.std.specs.Str.{bytes_eq}
pub use Rattle.omega_hoa_label.specs.Renumbering.{number_among, relabelled}

-- the names of the first automaton, and then those of the second that are not among them
abbrev pub joined_names : List (List ℕ) → List (List ℕ) → List (List ℕ)
joined_names names others = names ++ filter (λ name. not (list_any (bytes_eq name) names)) others

-- the position of each name among the joined ones: the joined number of each proposition
abbrev pub places_among : List (List ℕ) → List (List ℕ) → List ℕ
places_among joined names = map (λ name. position_or_len (bytes_eq name) joined) names

-- the part of a word that an automaton sees: its own propositions among the joined ones
abbrev pub part_of_word : List ℕ → (ℕ → ℕ → Bool) → ℕ → ℕ → Bool
part_of_word places word i number = word i (number_among places number)
