-- `count_automata`: those before this one are counted.
use Rattle.std.proofs.Common.{◌≡◌, take}
use Rattle.omega_answers_stream.specs.Counting.{automata_in}
use Rattle.omega_answers_stream.proofs.counting.count_automata.Given as goal

abbrev pub invariant-loop-item : goal.invariant-loop-item
invariant-loop-item l = l.count ≡ automata_in (take l.item-index l.items)
