-- `falling_priorities`: the priorities that are counted are those in use.
use Rattle.std.proofs.Common.{map, ap, ◌∙◌, arith}
use Rattle.std.proofs.lemmas.List.{take_all}
use Rattle.omega_game_values.specs.declared.priority_counts.PriorityCount.{PriorityCount}
use Rattle.omega_game_values.specs.Game.{priorities}
use Rattle.omega_answers_game.proofs.TurnedPriorities.{counted-in_use}
use Rattle.omega_answers_game.proofs.turning.falling_priorities.Goals as goal

pub returns-clause-falling : goal.returns-clause-falling
returns-clause-falling c =
    c.loop-count.invariant
    ∙ ap (map (λ (count : PriorityCount). count.priority))
    (take_all c.loop-count.count-index c.priority_counts-counts.result.now (omega (arith, c.loop-count-test.false)) ∙ c.priority_counts-counts.ensures)
    ∙ counted-in_use (priorities c.args.game.now)
