-- What holds in the loop of `counts_along`: the numbers of a falling list, each once, and how often each stands in it.
use Rattle.std.proofs.Common.{take}
use Rattle.omega_game_values.specs.private.priorities.Tally.{AreTallied}
use Rattle.omega_game_values.proofs.priorities.Tallies.{numbers_of, times_of}
use Rattle.omega_game_values.proofs.priority_counts.counts_along.Given as goal

abbrev pub invariant-loop-number : goal.invariant-loop-number
invariant-loop-number l = AreTallied (take l.number-index l.numbers) (numbers_of l.counts.items) (times_of l.counts.items)
