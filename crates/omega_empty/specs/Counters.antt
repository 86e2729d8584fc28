-- Counters, which degeneralize generalized Büchi acceptance: the set that is waited for, and the priorities of marks
-- meanwhile.
use Rattle.std.specs.Prelude.{ℕ, ◌+◌, ◌==◌, ◌&&◌, if◌then◌else◌, List}
use Rattle.omega_hoa_parity_kind.specs.Priority.{priority_of}
use Rattle.omega_hoa_acceptance.specs.Acceptance.{holds}
use Rattle.omega_hoa_acceptance.specs.declared.kind.AccKind.{AccKind}
use Rattle.omega_hoa_acceptance.specs.declared.kind.AccKind.TheVariants.{Parity, GenBuchi}

-- the number of counters of a kind: one for each set of a generalized Büchi kind, else one alone
abbrev pub counters : AccKind → ℕ
counters (Parity kind) = 1
counters (GenBuchi sets) = sets

-- a counter waits for its set: at marks that hold it the next counter comes, and after the last the first
abbrev pub counter_after : AccKind → ℕ → List ℕ → ℕ
counter_after (Parity kind) counter marks = counter
counter_after (GenBuchi sets) counter marks =
    if holds counter marks then (if counter + 1 == sets then 0 else counter + 1) else counter

-- the priority of marks at a counter: for a generalized Büchi kind 2 if the last counter's set is held, else 1
abbrev pub priority_at_counter : AccKind → ℕ → List ℕ → ℕ
priority_at_counter (Parity kind) counter marks = priority_of kind marks
priority_at_counter (GenBuchi sets) counter marks =
    if holds counter marks && (counter + 1 == sets) then 2 else 1
