-- Marks of an edge.
use Rattle.std.proofs.Common.{ℕ, ◌≤◌, List, [], ◌∷◌, arith}
use Rattle.omega_hoa_parity_kind.specs.Priority.{least_mark}

-- no least mark is above the count
pub least_mark-le : (count : ℕ) (marks : List ℕ) → least_mark count marks ≤ count
least_mark-le count [] = omega arith
least_mark-le count (mark ∷ marks) = omega (arith, least_mark-le count marks)
