-- The allowance towards a measure, by its entries.
use Rattle.std.specs.Prelude.{ℕ, zero, suc, ◌-◌, ◌++◌, Option, Some, None, List, []}
use Rattle.std.specs.Prelude.{◌∷◌, length, map, take, replicate, nat_lt, if◌then◌else◌}
use Rattle.std.specs.Option.{option_map_or}
use Rattle.omega_game_values.specs.declared.player.Player.{Player}
use Rattle.omega_game_values.specs.Bound.{occurrences, losing_priorities}
use Rattle.omega_game_values.specs.Player.{loses}
use Rattle.omega_lift_laws.specs.Measure.{Measure, entries_from}

-- the greatest entries of a measure below top: the number of nodes of each losing priority, the greatest priority first
abbrev pub limits_of : Player → List ℕ → List ℕ
limits_of player priorities = map (occurrences priorities) (losing_priorities player priorities)

-- the entries with all but the first `kept` cleared
abbrev pub cleared_after : ℕ → List ℕ → List ℕ
cleared_after kept entries = take kept entries ++ replicate (length entries - kept) 0

-- the entries with the last of the first `kept` that is below its limit raised by one, and all after it cleared; none
-- if each is at its limit
abbrev pub raised : ℕ → List ℕ → List ℕ → Option (List ℕ)
raised zero limits entries = None
raised (suc kept) [] entries = None
raised (suc kept) (limit ∷ limits) [] = None
raised (suc kept) (limit ∷ limits) (x ∷ xs) =
    option_map_or (λ ys. Some (x ∷ ys)) (raised kept limits xs)
    (if nat_lt x limit then Some (suc x ∷ replicate (length xs) 0) else None)

-- the least measure that suffices at priority p: the entries for priorities at least p, raised if p loses,
-- and zeros after them
abbrev pub least_sufficient : Player → List ℕ → ℕ → Measure → Measure
least_sufficient player priorities p None = None
least_sufficient player priorities p (Some entries) =
    let kept = entries_from player priorities p in
    if loses player p then raised kept (limits_of player priorities) entries
    else Some (cleared_after kept entries)
