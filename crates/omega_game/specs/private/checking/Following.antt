-- The places that a strategy reaches from some places.
use Rattle.std.specs.Prelude.{◌↔◌, ℕ, Bool, IsTrue, Option, List, Contains}
use Rattle.omega_game_values.specs.Game.{Node}
use Rattle.omega_game_reaching.specs.Reaching.{left_at, mark_at, AreReached}

-- the marks are those of the places
abbrev pub AreMarked : List ℕ → List Bool → Type 0
AreMarked places marks = (v : ℕ) → IsTrue (mark_at marks v) ↔ Contains places v

-- what is marked leads to what is marked
abbrev pub AreClosed : List Node → List (Option ℕ) → List Bool → Type 0
AreClosed nodes choices marks = (v w : ℕ) → IsTrue (mark_at marks v)
    → Contains (left_at nodes choices v) w → IsTrue (mark_at marks w)

-- each place that is left possible from v is marked
abbrev pub LeadsToMarked : List Node → List (Option ℕ) → List Bool → ℕ → Type 0
LeadsToMarked nodes choices marks v =
    (w : ℕ) → Contains (left_at nodes choices v) w → IsTrue (mark_at marks w)

-- the marks are those of the places that are reached, whatever their priorities
abbrev pub AreFollowed : List Node → List (Option ℕ) → List ℕ → List Bool → Type 0
AreFollowed nodes choices places marks = AreReached nodes choices 4294967295 places marks
