-- The faults of labels with their aliases replaced, and the size of all together.
use Rattle.std.specs.Prelude.{◌≡◌, ℕ, ◌+◌, ◌≤◌, Bool, false, ◌||◌, List, Option, is_none, is_some, min}
use Rattle.std.specs.List.{list_any}
use Rattle.omega_hoa_label_text.specs.Expanding.{Defined, Meaning, expansion, fault_of_meaning}
use Rattle.omega_hoa_syntax.specs.declared.raw_state.RawState.{RawState}
use Rattle.omega_hoa_automaton.specs.Faults.{is_deep, is_labelled, is_large}
use Rattle.omega_hoa_automaton.specs.Limits.{most_total_size}
use Rattle.omega_hoa_automaton.specs.declared.judging.findings.Findings.{Findings}

-- whether what a label means has a fault
abbrev pub is_faulty : Option Meaning → Bool
is_faulty meaning = is_some (fault_of_meaning meaning)

-- whether what some label of the states means, its aliases replaced, passes a test
abbrev pub labels_pass : (Option Meaning → Bool) → List Defined → List RawState → Bool
labels_pass test definitions states =
    list_any (is_labelled (λ label. test (expansion definitions label))) states

-- a size as it is counted: exact up to the limit, and one more beyond
abbrev pub capped : ℕ → ℕ
capped size = min size (most_total_size + 1)

-- the findings of labels: the tests that the meaning of one of them passes, and the size of all together, counted if no
-- label has a fault
pub record AreFound (some : (Option Meaning → Bool) → Bool) (size : ℕ)
    (found : Findings) : Type 0 where
  pub undefined : found.undefined ≡ some is_none
  pub deep : found.deep ≡ some is_deep
  pub large : found.large ≡ some is_large
  pub sized : some is_faulty ≡ false → found.size ≡ capped size
  pub within : found.size ≤ most_total_size + 1

-- what is found of labels and of others, put together
pub record AreJoinedFindings (one other both : Findings) : Type 0 where
  pub undefined : both.undefined ≡ (one.undefined || other.undefined)
  pub deep : both.deep ≡ (one.deep || other.deep)
  pub large : both.large ≡ (one.large || other.large)
  pub size : both.size ≡ capped (one.size + other.size)
