-- What the marks of a set of edges say about a formula's atoms on every closed walk in the set.
use Rattle.std.specs.Prelude.{◌≡◌, ℕ, Bool, true, false, not, ◌&&◌, ◌||◌, ◌==◌, IsTrue}
use Rattle.std.specs.Prelude.{if◌then◌else◌, List, Contains, Option, None, Some}
use Rattle.omega_hoa_acceptance.specs.Acceptance.{AccTree, conjunction, constant}
use Rattle.omega_hoa_acceptance.specs.Acceptance.{disjunction, fin, holds, inf, occurs}
use Rattle.omega_graph.specs.Walks.{EdgeSet, MarkedGraph}

-- whether `marks` contain `set`, or, if `negated`, lack it
abbrev pub meets : Bool → ℕ → List ℕ → Bool
meets negated set marks = if negated then not (holds set marks) else holds set marks

-- the list has every edge of the set
abbrev pub ListsAll : EdgeSet → List ℕ → Type 0
ListsAll edges numbers = (number : ℕ) → IsTrue (edges number) → Contains numbers number

-- values of atoms on every closed walk, by `negated` and `set`; `None` if the value is not known
abbrev pub Known : Type 0
Known = Bool → ℕ → Option Bool

-- known values are right for a set of edges: each of its edges has them
abbrev pub IsKnown : MarkedGraph → EdgeSet → Known → Type 0
IsKnown graph edges known =
    (negated : Bool) (set : ℕ) (value : Bool) → known negated set ≡ Some value
    → (number : ℕ) → IsTrue (edges number) → meets negated set (graph number).marks ≡ value

-- a conjunction, simplified if a part is constant
abbrev pub both_of : AccTree → AccTree → AccTree
both_of (constant value) right = if value then right else constant false
both_of left (constant value) = if value then left else constant false
both_of left right = conjunction left right

-- a disjunction, simplified if a part is constant
abbrev pub either_of : AccTree → AccTree → AccTree
either_of (constant value) right = if value then constant true else right
either_of left (constant value) = if value then constant true else left
either_of left right = disjunction left right

-- the atom, or its value if that is known
abbrev pub known_or : Option Bool → AccTree → AccTree
known_or None atom = atom
known_or (Some value) atom = constant value

-- the negation of a known value
abbrev pub known_not : Option Bool → Option Bool
known_not None = None
known_not (Some value) = Some (not value)

-- the formula with known values in place of its atoms, simplified
abbrev pub simplified : Known → AccTree → AccTree
simplified known (constant value) = constant value
simplified known (inf negated set) = known_or (known negated set) (inf negated set)
simplified known (fin negated set) = known_or (known_not (known negated set)) (fin negated set)
simplified known (conjunction left right) = both_of (simplified known left) (simplified known right)
simplified known (disjunction left right) =
    either_of (simplified known left) (simplified known right)

-- whether the formula holds with each `Inf` judged on the marks `some` and each `Fin` on the marks `all`
abbrev pub accepts_apart : List (List ℕ) → List (List ℕ) → AccTree → Bool
accepts_apart some all (constant value) = value
accepts_apart some all (inf negated set) = occurs some negated set
accepts_apart some all (fin negated set) = not (occurs all negated set)
accepts_apart some all (conjunction left right) =
    accepts_apart some all left && accepts_apart some all right
accepts_apart some all (disjunction left right) =
    accepts_apart some all left || accepts_apart some all right

-- whether the formula has an atom `Fin`
abbrev pub has_fin : AccTree → Bool
has_fin (constant value) = false
has_fin (inf negated set) = false
has_fin (fin negated set) = true
has_fin (conjunction left right) = has_fin left || has_fin right
has_fin (disjunction left right) = has_fin left || has_fin right

-- whether two atoms `Fin` are the same
abbrev pub is_same_atom : Bool → ℕ → Bool → ℕ → Bool
is_same_atom negated set negated' set' =
    (if negated then negated' else not negated') && (set == set')

-- the formula with `value` in place of an atom `Fin`
abbrev pub assumed : Bool → ℕ → Bool → AccTree → AccTree
assumed negated set value (constant other) = constant other
assumed negated set value (inf negated' set') = inf negated' set'
assumed negated set value (fin negated' set') =
    if is_same_atom negated set negated' set' then constant value else fin negated' set'
assumed negated set value (conjunction left right) =
    conjunction (assumed negated set value left) (assumed negated set value right)
assumed negated set value (disjunction left right) =
    disjunction (assumed negated set value left) (assumed negated set value right)
