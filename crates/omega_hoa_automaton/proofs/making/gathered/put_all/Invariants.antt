-- What holds in the loop of `put_all`: the words so far come after the others.
use Rattle.std.proofs.Common.{◌≡◌, ◌++◌}
use Rattle.omega_hoa_automaton.proofs.making.gathered.put_all.Given as goal

abbrev pub invariant-loop-word : goal.invariant-loop-word
invariant-loop-word l = l.words.items ≡ l.initial.words.items ++ l.yielded
