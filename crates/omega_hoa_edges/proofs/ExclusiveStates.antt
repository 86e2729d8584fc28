-- The states so far of which at most one edge can be taken at each letter, one more at a time.
use Rattle.std.proofs.Common.{◌≡◌, ℕ, ◌+◌, ◌<◌, ◌≤◌, ◌⊎◌, inl, inr, subst, arith}
use Rattle.std.proofs.lemmas.Bool.{cases_lt}
use Rattle.omega_hoa_automaton.specs.Automaton.{Description}
use Rattle.omega_hoa_edges.specs.Determinism.{AreExclusiveBelow}
use Rattle.omega_hoa_edges.specs.AutomatonLabels.{labels_at}
use Rattle.omega_hoa_edges.specs.Letters.{AreExclusive}

-- at most one edge at each letter, of one state more
pub exclusive_more : (a : Description) (count : ℕ) → AreExclusiveBelow a count → AreExclusive (labels_at a count) → AreExclusiveBelow a (count + 1)
exclusive_more a count before here number below = go (cases_lt number count)
  where
    go : (number < count) ⊎ (count ≤ number) → AreExclusive (labels_at a number)
    go (inl less) = before number less
    go (inr past) = let last : count ≡ number = omega arith in subst (λ n. AreExclusive (labels_at a n)) last here
