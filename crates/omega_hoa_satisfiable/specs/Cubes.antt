-- Cubes of labels: the disjunctive normal form that comes if conjunctions are distributed over disjunctions and nothing
-- is simplified, and the labels that are in such a form.
use Rattle.std.specs.Prelude.{ℕ, Bool, true, false, not, if◌then◌else◌}
use Rattle.std.specs.Prelude.{List, [], ◌∷◌, ◌++◌, length, map, sum_by}
use Rattle.std.specs.List.{flat_map, list_all, list_any}
use Rattle.omega_hoa_label.specs.Label.{LabelTree, conjunction, constant}
use Rattle.omega_hoa_label.specs.Label.{disjunction, negation, proposition, truth}

-- a constant or a proposition
abbrev pub IsAtom : LabelTree → Type 0
IsAtom (constant value) = Unit {0}
IsAtom (proposition number) = Unit {0}
IsAtom (negation part) = ⊥
IsAtom (conjunction left right) = ⊥
IsAtom (disjunction left right) = ⊥

-- an atom or the negation of one, or a conjunction of cubes
abbrev pub IsCube : LabelTree → Type 0
IsCube (constant value) = Unit {0}
IsCube (proposition number) = Unit {0}
IsCube (negation part) = IsAtom part
IsCube (conjunction left right) = IsCube left × IsCube right
IsCube (disjunction left right) = ⊥

-- in disjunctive normal form: a cube, or a disjunction of labels in that form
abbrev pub IsNormal : LabelTree → Type 0
IsNormal (constant value) = Unit {0}
IsNormal (proposition number) = Unit {0}
IsNormal (negation part) = IsAtom part
IsNormal (conjunction left right) = IsCube left × IsCube right
IsNormal (disjunction left right) = IsNormal left × IsNormal right

-- each cube of one list together with each cube of another
abbrev pub distributed : List (List LabelTree) → List (List LabelTree) → List (List LabelTree)
distributed lefts rights = flat_map (λ left. map (λ right. left ++ right) rights) lefts

-- the cubes of a conjunction if `both`, otherwise of a disjunction, by those of its two parts
abbrev pub cubes_of_parts : Bool → List (List LabelTree) → List (List LabelTree)
    → List (List LabelTree)
cubes_of_parts true lefts rights = distributed lefts rights
cubes_of_parts false lefts rights = lefts ++ rights

-- an atom if it is wanted, otherwise its negation
abbrev pub literal_of : Bool → LabelTree → LabelTree
literal_of wanted atom = if wanted then atom else negation atom

-- the cubes of a label if it is wanted, otherwise of its negation; each is a list of its literals
abbrev pub cubes : Bool → LabelTree → List (List LabelTree)
cubes wanted (constant value) = (literal_of wanted (constant value) ∷ []) ∷ []
cubes wanted (proposition number) = (literal_of wanted (proposition number) ∷ []) ∷ []
cubes wanted (negation part) = cubes (not wanted) part
cubes wanted (conjunction left right) =
    cubes_of_parts wanted (cubes wanted left) (cubes wanted right)
cubes wanted (disjunction left right) =
    cubes_of_parts (not wanted) (cubes wanted left) (cubes wanted right)

-- whether all literals of some cube hold
abbrev pub cubes_hold : (ℕ → Bool) → List (List LabelTree) → Bool
cubes_hold held all = list_any (λ cube. list_all (truth held) cube) all

-- the number of literals in cubes, each as often as it occurs
abbrev pub literals_in : List (List LabelTree) → ℕ
literals_in all = sum_by (λ cube. length cube) all

-- the number of literals in the cubes of a label
abbrev pub literal_count : LabelTree → ℕ
literal_count tree = literals_in (cubes true tree)
