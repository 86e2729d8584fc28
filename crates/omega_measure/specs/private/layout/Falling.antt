-- How many numbers of a list are at least another.
use Rattle.std.specs.Prelude.{ℕ, nat_le, List, count_by}

-- the count of numbers that are at least p
abbrev pub count_from : ℕ → List ℕ → ℕ
count_from p numbers = count_by (λ q. nat_le p q) numbers
