-- Controllers and counter-strategies of an automaton whose propositions are parted into the system's and the
-- environment's: edges that one of the two keeps, whose closed walks are accepted or are not.
use Rattle.std.specs.Prelude.{◌≡◌, ℕ, ◌<◌, Bool, false, IsTrue, List, length, map, All, Contains}
use Rattle.omega_hoa_acceptance.specs.Acceptance.{accepts}
use Rattle.omega_hoa_automaton.specs.Automaton.{Description}
use Rattle.omega_lang_runs.specs.Lasso.{IsStart, IsStep, Leads, marks_at}
use Rattle.omega_lang_runs.specs.Words.{CanBeTaken}

-- two letters agree on the inputs: the propositions that the system does not control
abbrev pub AgreeOnInputs : List ℕ → (ℕ → Bool) → (ℕ → Bool) → Type 0
AgreeOnInputs controlled one other = (p : ℕ) → ¬ Contains controlled p → one p ≡ other p

-- an edge answers an environment's letter: it can be taken at some letter that agrees with that one on the inputs
pub record Answers (a : Description) (controlled : List ℕ) (number : ℕ)
    (given : ℕ → Bool) : Type 0 where
  pub letter : ℕ → Bool
  pub agrees : AgreeOnInputs controlled given letter
  pub taken : CanBeTaken a number letter

-- a state is met: kept edges, given by number, lead to it from a start
pub record IsMet (a : Description) (kept : List ℕ) (state : ℕ) : Type 0 where
  pub start : ℕ
  pub begins : IsStart a start
  pub numbers : List ℕ
  pub all_kept : All (Contains kept) numbers
  pub leads : Leads a start numbers state

-- each kept edge is usable and leaves a state that is met
abbrev pub AreEdgesMet : Description → List ℕ → Type 0
AreEdgesMet a kept = (number : ℕ) → Contains kept number
    → (state : ℕ) × (next : ℕ) × IsMet a kept state × IsStep a state number next

-- a closed walk of at least one kept edge, from a state that is met back to it
pub record IsKeptCycle (a : Description) (kept : List ℕ) (state : ℕ) (cycle : List ℕ) : Type 0 where
  pub met : IsMet a kept state
  pub all_kept : All (Contains kept) cycle
  pub leads : Leads a state cycle state
  pub longer : 0 < length cycle

-- whether the acceptance formula holds of the marks of a closed walk's edges
abbrev pub is_accepted : Description → List ℕ → Bool
is_accepted a cycle = accepts (map (marks_at a) cycle) a.acceptance

-- a kept edge of the state answers the environment's letter
pub record HasAnswer (a : Description) (controlled kept : List ℕ) (state : ℕ)
    (given : ℕ → Bool) : Type 0 where
  pub number : ℕ
  pub next : ℕ
  pub is_kept : Contains kept number
  pub step : IsStep a state number next
  pub answers : Answers a controlled number given

-- kept edges are a controller: there is a start, and in each state that is met each environment's letter has an answer
-- among the kept edges. Each closed walk of kept edges in states that are met is accepted
pub record IsController (a : Description) (controlled kept : List ℕ) : Type 0 where
  pub begins : (start : ℕ) × IsStart a start
  pub answered : (state : ℕ) (given : ℕ → Bool) → IsMet a kept state
      → HasAnswer a controlled kept state given
  pub accepted : (state : ℕ) (cycle : List ℕ) → IsKeptCycle a kept state cycle
      → IsTrue (is_accepted a cycle)

-- kept edges and an environment's letter for each state are a counter-strategy: the kept edges of a state that is met
-- are all of its edges that answer its letter. No closed walk of kept edges in states that are met is accepted
pub record IsCounterStrategy (a : Description) (controlled kept : List ℕ)
    (letters : ℕ → ℕ → Bool) : Type 0 where
  pub answers_kept : (state number next : ℕ) → IsMet a kept state → IsStep a state number next
      → Answers a controlled number (letters state) → Contains kept number
  pub kept_answers : (state number next : ℕ) → IsMet a kept state → IsStep a state number next
      → Contains kept number → Answers a controlled number (letters state)
  pub refused : (state : ℕ) (cycle : List ℕ) → IsKeptCycle a kept state cycle
      → is_accepted a cycle ≡ false

-- there is a controller
abbrev pub HasController : Description → List ℕ → Type 0
HasController a controlled = (kept : List ℕ) × IsController a controlled kept

-- there is a counter-strategy
abbrev pub HasCounterStrategy : Description → List ℕ → Type 0
HasCounterStrategy a controlled =
    (kept : List ℕ) × (letters : ℕ → ℕ → Bool) × IsCounterStrategy a controlled kept letters
