-- Parity formulas of infinitely many marks: the limit of their priorities decides.
use Rattle.std.specs.Prelude.{◌≡◌, ◌↔◌, ℕ, ◌<◌, ◌≤◌, ◌%◌, All, List}
use Rattle.omega_hoa_parity_kind.specs.Priority.{priority_of}
use Rattle.omega_hoa_parity_kind.specs.declared.kind.ParityKind.{ParityKind}
use Rattle.omega_hoa_acceptance.specs.Kind.{parity_formula}
use Rattle.omega_lang_runs.specs.Runs.{Satisfies}

-- the limit of infinitely many numbers: the greatest that recurs for ever. It occurs at or after every index, and from
-- some index on none is greater
pub record IsLimit (numbers : ℕ → ℕ) (limit : ℕ) : Type 0 where
  pub recurring : (i : ℕ) → (j : ℕ) × (i ≤ j) × (numbers j ≡ limit)
  pub from : ℕ
  pub none_greater : (i : ℕ) → from ≤ i → numbers i ≤ limit

-- infinitely many marks of a parity kind satisfy its formula exactly if the limit of their priorities is even
abbrev pub ParityIsLimit : Type 0
ParityIsLimit = (kind : ParityKind) (marks : ℕ → List ℕ) (limit : ℕ)
    → ((i : ℕ) → All (λ mark. mark < kind.count) (marks i))
    → IsLimit (λ i. priority_of kind (marks i)) limit
    → Satisfies marks (parity_formula kind) ↔ (limit % 2 ≡ 0)
