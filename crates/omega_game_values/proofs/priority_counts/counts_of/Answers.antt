-- `counts_of`: each priority in use, the greatest first, with the number of nodes that have it.
use Rattle.std.proofs.Common.{ap, ◌∙◌}
use Rattle.omega_game_values.specs.Bound.{occurrences}
use Rattle.omega_game_values.proofs.priorities.InUse.{counts_are}
use Rattle.omega_game_values.proofs.priority_counts.counts_of.Goals as goal

pub returns : goal.returns
returns c =
    counts_are c.args.priorities.now c.deref.result.now c.in_ok-counts.counts.items c.in_ok-counts.ensures
    (λ q. ap (λ xs. occurrences xs q) c.deref.ensures.value ∙ c.in_ok-sorted.ensures.times q)
