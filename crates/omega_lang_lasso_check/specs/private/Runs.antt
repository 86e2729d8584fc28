-- The run of a mark in rows of marks: how many rows at the front all have it.
use Rattle.std.specs.Prelude.{◌≡◌, ℕ, ◌+◌, ◌==◌, Bool, false, not, ◌&&◌, ◌||◌, if◌then◌else◌}
use Rattle.std.specs.Prelude.{List, [], ◌∷◌, ◌++◌, length, Option, None, Some}
use Rattle.std.specs.List.{list_any, prefix_len}
use Rattle.std.specs.Option.{is_some, unwrap_or}
use Rattle.omega_hoa_acceptance.specs.Acceptance.{AccTree, conjunction, constant}
use Rattle.omega_hoa_acceptance.specs.Acceptance.{disjunction, fin, holds, inf}

-- the run of `mark`, or `None` if no row has it
abbrev pub run_in : List (List ℕ) → ℕ → Option ℕ
run_in rows mark = if list_any (holds mark) rows then Some (prefix_len (holds mark) rows) else None

-- `look` gives the run of each mark
abbrev pub AreRuns : List (List ℕ) → (ℕ → Option ℕ) → Type 0
AreRuns rows look = (mark : ℕ) → look mark ≡ run_in rows mark

-- the run of a mark after the row at index `at`, which has it
abbrev pub longer_run : ℕ → ℕ → ℕ
longer_run at run = if run == at then at + 1 else run

-- `mark` is added in the row at index `at`, and other marks keep their runs
pub record GoesOn (at mark : ℕ) (old new : ℕ → Option ℕ) : Type 0 where
  pub here : new mark ≡ Some (longer_run at (unwrap_or (old mark) 0))
  pub others : (other : ℕ) → (mark == other) ≡ false → new other ≡ old other

-- `marks` are added in the row at index `at`, whatever the rows before it and the marks that it begins with
abbrev pub AddsMarks : (at : ℕ) (marks : List ℕ) → (old new : ℕ → Option ℕ) → Type 0
AddsMarks at marks old new =
    (rows : List (List ℕ)) (begun : List ℕ) → length rows ≡ at
    → AreRuns (rows ++ begun ∷ []) old → AreRuns (rows ++ (begun ++ marks) ∷ []) new

-- whether some of the rows has the mark `set`, or, if `negated`, lacks it
abbrev pub occurs_by : (ℕ → Option ℕ) → ℕ → Bool → ℕ → Bool
occurs_by look rows negated set =
    if negated then not (unwrap_or (look set) 0 == rows) else is_some (look set)

-- whether the formula holds of the rows
abbrev pub holds_by : (ℕ → Option ℕ) → ℕ → AccTree → Bool
holds_by look rows (constant value) = value
holds_by look rows (inf negated set) = occurs_by look rows negated set
holds_by look rows (fin negated set) = not (occurs_by look rows negated set)
holds_by look rows (conjunction left right) = holds_by look rows left && holds_by look rows right
holds_by look rows (disjunction left right) = holds_by look rows left || holds_by look rows right
