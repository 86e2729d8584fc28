-- A search along edges left possible enters places.
use Rattle.std.specs.Prelude.{◌≡◌, ◌⊎◌, ℕ, ◌+◌, ◌≤◌, Bool, not, IsTrue, List, length, Contains, count_by}
use Rattle.omega_game_values.specs.Game.{Node, priority_at}
use Rattle.omega_game_reaching.specs.Reaching.{mark_at}

-- the places of priority at most the most are marked, and are on the stack if they were not marked before
pub record AreEntered (nodes : List Node) (most : ℕ) (places : List ℕ)
    (marks : List Bool) (stack : List ℕ) (marks' : List Bool) (stack' : List ℕ) : Type 0 where
  pub count : length marks' ≡ length marks
  pub kept : (v : ℕ) → IsTrue (mark_at marks v) → IsTrue (mark_at marks' v)
  pub entered : (v : ℕ) → Contains places v → priority_at nodes v ≤ most → IsTrue (mark_at marks' v)
  pub fresh : (v : ℕ) → IsTrue (mark_at marks' v) → IsTrue (mark_at marks v)
      ⊎ (Contains places v × (priority_at nodes v ≤ most) × Contains stack' v)
  pub waiting : (v : ℕ) → Contains stack' v → Contains stack v ⊎ IsTrue (mark_at marks' v)
  pub still : (v : ℕ) → Contains stack v → Contains stack' v
  pub left : count_by not marks' + length stack' ≡ count_by not marks + length stack
