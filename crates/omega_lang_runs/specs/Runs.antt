-- Infinite runs of automata without universal branching. There is an accepting run exactly if there is an accepting
-- lasso (HOA v1, acceptance).
use Rattle.std.specs.Prelude.{◌≡◌, ◌⊎◌, ℕ, ◌+◌, ◌≤◌, Bool, false, IsTrue, List}
use Rattle.omega_hoa_acceptance.specs.Acceptance.{AccTree, conjunction, constant, disjunction, fin, inf}
use Rattle.omega_hoa_automaton.specs.Automaton.{Description}
use Rattle.omega_hoa_automaton.specs.Branching.{has_universal_branching}
use Rattle.omega_graph.specs.Marks.{meets}
use Rattle.omega_lang_runs.specs.Lasso.{IsAcceptingLasso, IsStart, IsStep, marks_at}

-- a run: a start, and infinitely many usable edges, given by number, each leaving the state that the one before enters
pub record IsRun (a : Description) (states edges : ℕ → ℕ) : Type 0 where
  pub begins : IsStart a (states 0)
  pub steps : (i : ℕ) → IsStep a (states i) (edges i) (states (i + 1))

-- infinitely often, at or after every index, the marks contain `set`, or, if `negated`, lack it
abbrev pub ForEver : (ℕ → List ℕ) → Bool → ℕ → Type 0
ForEver marks negated set = (i : ℕ) → (j : ℕ) × (i ≤ j) × IsTrue (meets negated set (marks j))

-- from some index on, the marks never contain `set`, or, if `negated`, always do
abbrev pub AtLastNever : (ℕ → List ℕ) → Bool → ℕ → Type 0
AtLastNever marks negated set =
    (from : ℕ) × ((j : ℕ) → from ≤ j → meets negated set (marks j) ≡ false)

-- infinitely many marks satisfy an acceptance formula: an `Inf` if its set occurs infinitely often, a `Fin` if only
-- finitely often, a conjunction if they satisfy both parts. For a disjunction a part that they satisfy has to be named,
-- which is more than that not both fail, since there is no excluded middle here
abbrev pub Satisfies : (ℕ → List ℕ) → AccTree → Type 0
Satisfies marks (constant value) = IsTrue value
Satisfies marks (inf negated set) = ForEver marks negated set
Satisfies marks (fin negated set) = AtLastNever marks negated set
Satisfies marks (conjunction left right) = Satisfies marks left × Satisfies marks right
Satisfies marks (disjunction left right) = Satisfies marks left ⊎ Satisfies marks right

-- a run whose marks satisfy the acceptance formula
pub record IsAcceptingRun (a : Description) (states edges : ℕ → ℕ) : Type 0 where
  pub run : IsRun a states edges
  pub accepted : Satisfies (λ i. marks_at a (edges i)) a.acceptance

-- an automaton with an accepting run has an accepting lasso
abbrev pub AcceptingRunsHaveLassos : Type 0
AcceptingRunsHaveLassos = (a : Description) (states edges : ℕ → ℕ)
    → has_universal_branching a ≡ false → IsAcceptingRun a states edges
    → (stem : List ℕ) × ((cycle : List ℕ) × IsAcceptingLasso a stem cycle)

-- an automaton with an accepting lasso has an accepting run
abbrev pub LassosAreAcceptingRuns : Type 0
LassosAreAcceptingRuns = (a : Description) (stem cycle : List ℕ)
    → has_universal_branching a ≡ false → IsAcceptingLasso a stem cycle
    → (states : ℕ → ℕ) × ((edges : ℕ → ℕ) × IsAcceptingRun a states edges)
