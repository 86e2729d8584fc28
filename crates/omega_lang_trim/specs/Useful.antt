-- The useful states of an automaton: those that some accepting lasso visits (HOA v1, acceptance).
use Rattle.std.specs.Prelude.{◌↔◌, ℕ, ◌<◌, IsTrue, List, Contains, length, map}
use Rattle.std.specs.List.Sorted.{IsStrictlyIncreasing}
use Rattle.omega_hoa_acceptance.specs.Acceptance.{accepts}
use Rattle.omega_hoa_automaton.specs.Automaton.{Description}
use Rattle.omega_lang_runs.specs.Lasso.{IsStart, Leads, marks_at}

-- usable edges lead to a state from a start
pub record IsReached (a : Description) (state : ℕ) : Type 0 where
  pub start : ℕ
  pub begins : IsStart a start
  pub path : List ℕ
  pub leads : Leads a start path state

-- an accepting lasso starts in a state: a stem from there, and a cycle of at least one edge whose marks satisfy the
-- acceptance formula
pub record StartsLasso (a : Description) (state : ℕ) : Type 0 where
  pub stem : List ℕ
  pub cycle : List ℕ
  pub loop_state : ℕ
  pub stem_leads : Leads a state stem loop_state
  pub cycle_leads : Leads a loop_state cycle loop_state
  pub longer : 0 < length cycle
  pub accepted : IsTrue (accepts (map (marks_at a) cycle) a.acceptance)

-- a state is useful: a start reaches it, and an accepting lasso starts in it
pub record IsUseful (a : Description) (state : ℕ) : Type 0 where
  pub reached : IsReached a state
  pub lasso : StartsLasso a state

-- the numbers of all useful states, in ascending order
pub record AreUsefulStates (a : Description) (numbers : List ℕ) : Type 0 where
  pub rising : IsStrictlyIncreasing numbers
  pub useful : (state : ℕ) → Contains numbers state ↔ IsUseful a state
