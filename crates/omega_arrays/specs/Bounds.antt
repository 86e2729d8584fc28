-- A bound in two halves.
use Rattle.std.specs.Prelude.{◌≡◌, ◌⊎◌, ◌+◌, ◌*◌, ◌^◌, ◌≤◌, List, ℕ}
use Rattle.omega_game_values.specs.Bound.{bound_of}
use Rattle.omega_game_values.specs.declared.player.Player.{Player}
use Rattle.omega_arrays.specs.declared.bounding.Bound.{Bound}

-- the two halves are the player's bound; or it does not fit, and is over 128 bits
abbrev pub IsBound : Player → (priorities : List ℕ) → Bound → Type 0
IsBound player priorities bound =
    ((bound.fits ≡ 1) × (bound_of player priorities ≡ bound.high * 2 ^ 64 + bound.low))
    ⊎ ((bound.fits ≡ 0) × (bound.high ≡ 0) × (bound.low ≡ 0) × (2 ^ 128 ≤ bound_of player priorities))
