-- All of them are there.
use Rattle.omega_circuit.proofs.canonical.all_numbers.Goals as goal

pub unreachable-requires : goal.unreachable-requires
unreachable-requires c = let none = rw c.in-None.is at c.in_ok-found.ensures.none in none c.requires.there

pub returns : goal.returns
returns c = rw c.in-Some.is at c.in_ok-found.ensures.some
