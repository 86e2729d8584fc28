-- The premise of laws about what happens infinitely often, under its name in constructive mathematics.
use Rattle.std.specs.Prelude.{◌≡◌, ◌⊎◌, ℕ, Bool, true, false}

-- the limited principle of omniscience: each test of numbers passes somewhere or nowhere, as it does by the excluded
-- middle
abbrev pub LimitedPrincipleOfOmniscience : Type 0
LimitedPrincipleOfOmniscience =
    (test : ℕ → Bool) → ((n : ℕ) × (test n ≡ true)) ⊎ ((n : ℕ) → test n ≡ false)
