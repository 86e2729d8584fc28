-- The roles of edges in a lasso, by their numbers.
use Rattle.std.specs.Prelude.{ℕ, ◌==◌, Bool, if◌then◌else◌, List}
use Rattle.std.specs.List.{list_any}
use Rattle.omega_hoa_dot.specs.declared.role.Role.{Role}
use Rattle.omega_hoa_dot.specs.declared.role.Role.TheVariants.{Cycle, Plain, Stem}

-- whether a number is one of these
abbrev pub is_member : ℕ → List ℕ → Bool
is_member number numbers = list_any (λ other. other == number) numbers

-- the role that the numbers of a list have, and the role of any other number
abbrev pub role_among : List ℕ → Role → Role → ℕ → Role
role_among numbers role other number = if is_member number numbers then role else other

-- an edge is on the cycle, or else on the stem, or else on neither
abbrev pub role_of : List ℕ → List ℕ → ℕ → Role
role_of stem cycle number = role_among cycle Cycle (role_among stem Stem Plain number) number
