use Rattle.std.proofs.Common.{◌≡◌, ◌↔◌, ◌+◌, ◌++◌, ◌<◌, true, length, map}
use Rattle.omega_empty.specs.private.layout.Nodes.{begun}
use Rattle.omega_empty.specs.private.layout.Ranges.{usable_in}
use Rattle.omega_empty.proofs.nodes.add_linked.Given as goal

abbrev pub invariant-loop-number : goal.invariant-loop-number
invariant-loop-number l =
    (l.builder ≡ l.initial.builder ++ begun l.fn.id (map (λ number. l.fn.first + number) (usable_in l.usable (record { first = l.fn.range.first; end = l.number }))))
    × ((l.some ≡ true) ↔ (0 < length (map (λ number. l.fn.first + number) (usable_in l.usable (record { first = l.fn.range.first; end = l.number })))))
