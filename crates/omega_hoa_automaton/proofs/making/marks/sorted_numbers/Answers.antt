-- Sorting keeps the numbers, and repeats are side by side.
use Rattle.std.proofs.Common.{sym, ◌∙◌}
use Rattle.std.proofs.lemmas.List.Filters.{dedup_is}
use Rattle.std.proofs.lemmas.List.Kept.{Contains-dedup_nat, Contains-from_dedup}
use Rattle.std.proofs.lemmas.List.Sorted.{Contains-permutation, IsPermutation-sym}
use Rattle.std.proofs.lemmas.Map.Keys.{IsStrictlyIncreasing-dedup}
use Rattle.omega_hoa_automaton.proofs.making.marks.sorted_numbers.Goals as goal

pub returns-clause-ok : goal.returns-clause-ok
returns-clause-ok c =
    let left = c.in_ok-marks.ensures ∙ (c.as_slice.ensures.value ∙ dedup_is _ _ _ c.dedup.ensures.filtered) in
    let taken = c.in_ok-rising.ensures.items in
    let moved = c.sort_unstable.ensures.permutation in
    record {
      rising = rw left (IsStrictlyIncreasing-dedup _ c.sort_unstable.ensures.sorted);
      same = λ mark. (
        (λ h. rw (sym taken) (Contains-permutation _ _ mark (IsPermutation-sym _ _ moved) (Contains-from_dedup _ _ mark (rw left at h)))),
        (λ h. rw left (Contains-dedup_nat _ mark (Contains-permutation _ _ mark moved (rw (sym taken) at h)))),
      );
    }
