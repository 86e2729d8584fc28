-- Marks of a kind: those of a parity kind are below its count, which is small.
use Rattle.std.specs.Prelude.{ℕ, ◌<◌, ◌≤◌, All, List}
use Rattle.omega_hoa_expression.specs.Limits.{most_depth}
use Rattle.omega_hoa_acceptance.specs.declared.kind.AccKind.{AccKind}
use Rattle.omega_hoa_acceptance.specs.declared.kind.AccKind.TheVariants.{Parity, GenBuchi}

-- the kind has a priority for each of the marks
abbrev pub AreMarksBelow : AccKind → List ℕ → Type 0
AreMarksBelow (Parity kind) marks = All (λ mark. mark < kind.count) marks
AreMarksBelow (GenBuchi sets) marks = Unit {0}

-- the kind has no more sets than a formula of an automaton may be deep
abbrev pub IsSmall : AccKind → Type 0
IsSmall (Parity kind) = kind.count ≤ most_depth
IsSmall (GenBuchi sets) = sets ≤ most_depth
