-- Lists of the indices at which a list has a state, each linked to the one before it.
use Rattle.std.specs.Prelude.{◌≡◌, ℕ, zero, suc, ◌<◌, ◌==◌, if◌then◌else◌, List, length, slice_index}

-- one more than the last index below n at which a list has a state, or 0 without such an index
unfoldable pub last_before : List ℕ → ℕ → ℕ → ℕ
last_before states state zero = 0
last_before states state (suc n) =
    if slice_index states n == state then suc n else last_before states state n

-- a list of states below a count
pub record Linked : Type 0 where
  pub count : ℕ
  pub states : List ℕ

-- for each state below a count its last index in a list, and for each index the one before it of the same state
pub record AreLinks (states : List ℕ) (count : ℕ) (last before : List ℕ) : Type 0 where
  pub counted : length last ≡ count
  pub even : length before ≡ length states
  pub last_is : (state : ℕ) → state < count
      → slice_index last state ≡ last_before states state (length states)
  pub before_is : (i : ℕ) → i < length states
      → slice_index before i ≡ last_before states (slice_index states i) i
