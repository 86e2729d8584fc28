-- `falling`: the numbers, the greatest first.
use Rattle.std.proofs.Common.{ℕ, cond, eqb, ap, ◌∙◌}
use Rattle.std.proofs.lemmas.List.Sorted.{sum_by-IsPermutation}
use Rattle.omega_game_values.specs.Bound.{occurrences}
use Rattle.omega_game_values.proofs.priority_counts.falling_numbers.Goals as goal

pub returns-clause-times : goal.returns-clause-times
returns-clause-times c q =
    let f = λ (x : ℕ). cond (eqb x q) 1 0 in
    sum_by-IsPermutation f c.sort_unstable.new.self.items c.reverse.new.self.items c.reverse.ensures.permutation
    ∙ sum_by-IsPermutation f c.in_ok-sorted.sorted.items c.sort_unstable.new.self.items c.sort_unstable.ensures.permutation
    ∙ ap (λ xs. occurrences xs q) c.in_ok-sorted.ensures.items
