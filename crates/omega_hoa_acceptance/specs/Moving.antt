-- Acceptance formulas whose sets are numbered after other sets.
use Rattle.std.specs.Prelude.{ℕ, ◌+◌}
use Rattle.omega_hoa_acceptance.specs.Acceptance.{AccTree}
use Rattle.omega_hoa_acceptance.specs.Acceptance as acc

-- an acceptance formula with `before` added to the number of each set
abbrev pub moved_after : ℕ → AccTree → AccTree
moved_after before (acc.constant value) = acc.constant value
moved_after before (acc.inf negated set) = acc.inf negated (before + set)
moved_after before (acc.fin negated set) = acc.fin negated (before + set)
moved_after before (acc.conjunction left right) =
    acc.conjunction (moved_after before left) (moved_after before right)
moved_after before (acc.disjunction left right) =
    acc.disjunction (moved_after before left) (moved_after before right)
