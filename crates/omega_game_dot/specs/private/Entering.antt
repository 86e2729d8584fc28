-- A step of the search for the nodes that a place reaches.
use Rattle.std.specs.Prelude.{◌≡◌, ◌⊎◌, ℕ, ◌+◌, Bool, not, IsTrue, List, length, Contains, count_by}
use Rattle.omega_game_values.specs.Game.{Node, HasEdge}
use Rattle.omega_game_dot.specs.Extent.{is_drawn}

-- an edge leads to w from one of the places
abbrev pub IsAfter : List Node → List ℕ → ℕ → Type 0
IsAfter nodes front w = (v : ℕ) × Contains front v × HasEdge nodes v w

-- the places that this holds of are flagged, and those that were not flagged before are the next
pub record AreEntered (Holds : ℕ → Type 0) (drawn : List Bool) (next : List ℕ) (drawn' : List Bool)
    (next' : List ℕ) : Type 0 where
  pub count : length drawn' ≡ length drawn
  pub kept : (v : ℕ) → IsTrue (is_drawn drawn v) → IsTrue (is_drawn drawn' v)
  pub entered : (v : ℕ) → Holds v → IsTrue (is_drawn drawn' v)
  pub fresh : (v : ℕ) → IsTrue (is_drawn drawn' v)
      → IsTrue (is_drawn drawn v) ⊎ (Holds v × Contains next' v)
  pub waiting : (v : ℕ) → Contains next' v → Contains next v ⊎ IsTrue (is_drawn drawn' v)
  pub still : (v : ℕ) → Contains next v → Contains next' v
  pub left : count_by not drawn' + length next' ≡ count_by not drawn + length next
