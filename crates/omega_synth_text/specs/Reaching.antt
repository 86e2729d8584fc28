-- The states that kept edges lead to. Edges are given by number, and whether their labels can be true is not asked.
use Rattle.std.specs.Prelude.{◌≡◌, ◌↔◌, ℕ, Bool, List, [], ◌∷◌, Contains, IsTrue, Some}
use Rattle.omega_hoa_automaton.specs.Automaton.{BodyEdge, Description, edge_at}
use Rattle.omega_lang_runs.specs.Lasso.{IsStart}

-- a kept edge leads from a state to another
pub record KeptEdgeLeads (a : Description) (kept : List ℕ) (from to : ℕ) : Type 0 where
  pub number : ℕ
  pub edge : BodyEdge
  pub is_kept : Contains kept number
  pub numbered : edge_at a number ≡ Some edge
  pub leaves : edge.source.number ≡ from
  pub enters : edge.edge.targets ≡ to ∷ []

-- a state is reached: it is a start, or a kept edge leads to it from a state that is reached
pub data IsReached (a : Description) (kept : List ℕ) : ℕ → Type 0 where
  begins : (state : ℕ) → IsStart a state → IsReached a kept state
  goes_on : (from to : ℕ) → IsReached a kept from → KeptEdgeLeads a kept from to → IsReached a kept to

-- a test tells which states are reached
abbrev pub TellsReached : Description → List ℕ → (ℕ → Bool) → Type 0
TellsReached a kept reached = (state : ℕ) → IsTrue (reached state) ↔ IsReached a kept state
