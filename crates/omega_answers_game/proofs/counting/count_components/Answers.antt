-- `count_components`: leaders are places of the game.
use Rattle.std.proofs.Common.{◌<◌, ℕ, List, All, length, sym, subst}
use Rattle.omega_answers_game.proofs.Leading.{leaders_inside}
use Rattle.omega_answers_game.proofs.counting.count_components.Goals as goal

pub sizes_of-requires-clause-inside : goal.sizes_of-requires-clause-inside
sizes_of-requires-clause-inside c =
    subst (λ (xs : List ℕ). All (λ leader. leader < length xs) xs) (sym c.as_slice-leaders.ensures.value)
    (leaders_inside c.args.game.now c.in_ok-leaders.leaders.items c.in_ok-leaders.ensures.leaders)

pub largest_size-largest-requires-clause-inside : goal.largest_size-largest-requires-clause-inside
largest_size-largest-requires-clause-inside c =
    subst (λ (xs : List ℕ). All (λ leader. leader < length xs) xs) (sym c.as_slice-leaders.ensures.value)
    (leaders_inside c.args.game.now c.in_ok-leaders.leaders.items c.in_ok-leaders.ensures.leaders)
