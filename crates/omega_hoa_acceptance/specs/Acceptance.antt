-- Acceptance formulas as trees, and which of them hold of the mark sets that occur for ever (HOA v1, acceptance).
use Rattle.std.specs.Prelude.{ℕ, ◌+◌, Bool, not, ◌&&◌, ◌||◌, ◌==◌, if◌then◌else◌, List, max}
use Rattle.std.specs.List.{list_any}

-- an acceptance formula; the truth value of an atom says whether a `!` precedes its set
pub data AccTree : Type 0 where
  constant : Bool → AccTree
  inf : Bool → ℕ → AccTree
  fin : Bool → ℕ → AccTree
  conjunction : AccTree → AccTree → AccTree
  disjunction : AccTree → AccTree → AccTree

-- an atom has depth 1, and an operator one more than its deeper part
abbrev pub acc_depth : AccTree → ℕ
acc_depth (constant value) = 1
acc_depth (inf negated set) = 1
acc_depth (fin negated set) = 1
acc_depth (conjunction left right) = max (acc_depth left) (acc_depth right) + 1
acc_depth (disjunction left right) = max (acc_depth left) (acc_depth right) + 1

-- whether a mark set holds a set
abbrev pub holds : ℕ → List ℕ → Bool
holds set marks = list_any (λ mark. mark == set) marks

-- whether some of the mark sets that occur for ever holds the set, or with `!` lacks it
abbrev pub occurs : List (List ℕ) → Bool → ℕ → Bool
occurs forever negated set =
    list_any (λ marks. if negated then not (holds set marks) else holds set marks) forever

-- whether an acceptance formula holds of the mark sets that occur for ever
abbrev pub accepts : List (List ℕ) → AccTree → Bool
accepts forever (constant value) = value
accepts forever (inf negated set) = occurs forever negated set
accepts forever (fin negated set) = not (occurs forever negated set)
accepts forever (conjunction left right) = accepts forever left && accepts forever right
accepts forever (disjunction left right) = accepts forever left || accepts forever right
