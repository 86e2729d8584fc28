-- What holds in the loop of `number_all`: the states so far have numbers.
use Rattle.std.proofs.Common.{◌≡◌, length, get_or, map, take, All}
use Rattle.omega_graph.specs.private.Numbering.{IsKnown}
use Rattle.omega_graph.proofs.numbering.number_all.Given as goal

abbrev pub invariant-loop-state : goal.invariant-loop-state
invariant-loop-state l =
    (length l.numbers.items ≡ length l.initial.numbers.items)
    × (l.given.items ≡ map (λ state. get_or l.numbers.items state 0) (take l.state-index l.listed))
    × All (IsKnown l.numbers.items l.states.items) (take l.state-index l.listed)
