-- The pending branches of a search, the last first. Each goes on under the first `count` assumptions.
use Rattle.std.specs.Prelude.{◌≡◌, ℕ, ◌≤◌, Bool, true, false, ◌&&◌, ◌||◌, List}
use Rattle.std.specs.Prelude.{[], ◌∷◌, Option, Some, None, length, nat_eq, take}
use Rattle.std.specs.Map.{lookup}
use Rattle.omega_hoa_satisfiable.specs.declared.branches.Later.{Later}
use Rattle.omega_hoa_satisfiable.specs.private.Leading.{is_as}

-- whether a valuation meets all assumptions
abbrev pub fits : (ℕ → Bool) → List (ℕ × Bool) → Bool
fits held [] = true
fits held (one ∷ rest) = is_as one.1 (held one.0) && fits held rest

-- whether it meets one more assumption, if there is one
abbrev pub fits_one : (ℕ → Bool) → Option (ℕ × Bool) → Bool
fits_one held None = true
fits_one held (Some one) = is_as one.1 (held one.0)

-- the proposition of one more assumption, if there is one, has no assumption yet
abbrev pub IsFree : List (ℕ × Bool) → Option (ℕ × Bool) → Type 0
IsFree assumed None = Unit {0}
IsFree assumed (Some one) = lookup (nat_eq one.0) assumed ≡ None

-- whether a valuation leads to the end in some pending branch, if `onward` says from which places it does
abbrev pub pending_lead : (ℕ → Bool) → (ℕ → Bool) → List (ℕ × Bool) → List Later → Bool
pending_lead held onward assumed [] = false
pending_lead held onward assumed (next ∷ rest) =
    ((fits held (take next.count assumed) && fits_one held next.extra) && onward next.place)
    || pending_lead held onward (take next.count assumed) rest

-- each pending branch goes on under the first of these assumptions, and its own assumption is about another proposition
abbrev pub IsPending : List (ℕ × Bool) → List Later → Type 0
IsPending assumed [] = Unit {0}
IsPending assumed (next ∷ rest) =
    (next.count ≤ length assumed) × IsFree (take next.count assumed) next.extra
    × IsPending (take next.count assumed) rest
