-- The conditions by which a lasso, given by numbers of edges, is one of an automaton (HOA v1, section 3;
-- docs/formats.md, automata).
use Rattle.std.specs.Prelude.{◌≡◌, ℕ, ◌+◌, ◌<◌, Bool, List, [], ◌∷◌}
use Rattle.std.specs.Prelude.{◌++◌, length, map, All, Some, slice_index}
use Rattle.omega_hoa_acceptance.specs.Acceptance.{accepts}
use Rattle.omega_hoa_automaton.specs.Automaton.{BodyEdge, Description, edge_at, edge_count}
use Rattle.omega_lang_runs.specs.Lasso.{IsStart, IsUsable, marks_at}

-- `number` is in the list and stops, and each number before it passes
pub record IsFirst (passes stops : ℕ → Type 0) (numbers : List ℕ) (number : ℕ) : Type 0 where
  pub place : ℕ
  pub within : place < length numbers
  pub number_is : number ≡ slice_index numbers place
  pub before : (earlier : ℕ) → earlier < place → passes (slice_index numbers earlier)
  pub stops_here : stops number

-- `number` is the first in the list that fails the condition
abbrev pub FailsFirst : (ℕ → Type 0) → List ℕ → ℕ → Type 0
FailsFirst condition numbers number = IsFirst condition (λ other. ¬ condition other) numbers number

-- the number of an edge
abbrev pub IsNumber : Description → ℕ → Type 0
IsNumber a number = number < edge_count a

-- the number of a usable edge
pub record IsUsableNumber (a : Description) (number : ℕ) : Type 0 where
  pub edge : BodyEdge
  pub numbered : edge_at a number ≡ Some edge
  pub usable : IsUsable edge

-- the number of an edge that leaves a start
pub record LeavesStart (a : Description) (number : ℕ) : Type 0 where
  pub edge : BodyEdge
  pub numbered : edge_at a number ≡ Some edge
  pub starts : IsStart a edge.source.number

-- the edge `number` follows the edge `before`: it leaves the one state that `before` enters
pub record FollowsEdge (a : Description) (before number : ℕ) : Type 0 where
  pub entering : BodyEdge
  pub numbered_before : edge_at a before ≡ Some entering
  pub leaving : BodyEdge
  pub numbered : edge_at a number ≡ Some leaving
  pub enters : entering.edge.targets ≡ leaving.source.number ∷ []

-- each edge but the first follows the one before it
abbrev pub AreLinked : Description → List ℕ → Type 0
AreLinked a numbers = (k : ℕ) → k + 1 < length numbers
    → FollowsEdge a (slice_index numbers k) (slice_index numbers (k + 1))

-- the cycle leads back to where it begins: its first edge follows its last one
abbrev pub IsClosed : Description → List ℕ → Type 0
IsClosed a cycle = (last : ℕ) → last + 1 ≡ length cycle
    → FollowsEdge a (slice_index cycle last) (slice_index cycle 0)

-- `number` is the first edge in the list that does not follow the one before it
pub record IsFirstApart (a : Description) (numbers : List ℕ) (number : ℕ) : Type 0 where
  pub before : ℕ
  pub within : before + 1 < length numbers
  pub number_is : number ≡ slice_index numbers (before + 1)
  pub linked : (k : ℕ) → k < before
      → FollowsEdge a (slice_index numbers k) (slice_index numbers (k + 1))
  pub apart : ¬ FollowsEdge a (slice_index numbers before) number

-- the cycle has an edge, and each number is an edge's
pub record HasEdges (a : Description) (stem cycle : List ℕ) : Type 0 where
  pub longer : 0 < length cycle
  pub numbered : All (IsNumber a) (stem ++ cycle)

-- these are edges, and the first one leaves a start
pub record IsBegun (a : Description) (stem cycle : List ℕ) : Type 0 where
  pub edges : HasEdges a stem cycle
  pub begins : LeavesStart a (slice_index (stem ++ cycle) 0)

-- the edges begin at a start, each follows the one before it, and the cycle closes
pub record IsLassoWalk (a : Description) (stem cycle : List ℕ) : Type 0 where
  pub begun : IsBegun a stem cycle
  pub linked : AreLinked a (stem ++ cycle)
  pub closed : IsClosed a cycle

-- whether the acceptance formula holds of the marks of the cycle's edges
abbrev pub cycle_accepts : Description → List ℕ → Bool
cycle_accepts a cycle = accepts (map (marks_at a) cycle) a.acceptance
