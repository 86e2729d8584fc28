-- Roles by number, in a table.
use Rattle.std.specs.Prelude.{◌≡◌, ℕ, ◌<◌, List, length, slice_index_or}
use Rattle.omega_hoa_dot.specs.Roles.{role_among, role_of}
use Rattle.omega_hoa_dot.specs.declared.role.Role.{Role}
use Rattle.omega_hoa_dot.specs.declared.role.Role.TheVariants.{Plain}

-- the role of a number in a table
abbrev pub role_at : List Role → ℕ → Role
role_at roles number = slice_index_or roles number Plain

-- a table has the roles of another, except for these numbers, which have this role
abbrev pub AreMarked : List ℕ → Role → List Role → List Role → Type 0
AreMarked numbers role before after = (number : ℕ) → number < length before
    → role_at after number ≡ role_among numbers role (role_at before number) number

-- a table has an entry for each of `edges` edges: its role in the lasso
pub record AreRoles (stem cycle : List ℕ) (edges : ℕ) (roles : List Role) : Type 0 where
  pub entries : length roles ≡ edges
  pub each : (number : ℕ) → number < edges → role_at roles number ≡ role_of stem cycle number
