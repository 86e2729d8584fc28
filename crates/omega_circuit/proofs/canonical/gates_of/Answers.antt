-- All of them are there.
use Rattle.std.proofs.Common.{map, ap, ◌∙◌}
use Rattle.omega_circuit.specs.private.Renumbered.{greater_first}
use Rattle.omega_circuit.proofs.canonical.gates_of.Goals as goal

pub unreachable-requires : goal.unreachable-requires
unreachable-requires c = let none = rw c.in-None.is at c.in_ok-found.ensures.none in none c.requires.there

pub returns : goal.returns
returns c = (
  c.in-Some.made.items,
  rw c.in-Some.is at c.in_ok-found.ensures.some,
  c.in_ok-gates-in-Some.ensures ∙ ap (map greater_first) c.as_slice.ensures.value,
)
