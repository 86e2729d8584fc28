-- the states of the letters so far
use Rattle.std.proofs.Common.{◌≡◌, ◌++◌, length}
use Rattle.omega_lang_inclusion.specs.Written.{letter_states}
use Rattle.omega_lang_inclusion.proofs.states.append_states.Given as goal

abbrev pub invariant-loop-letter : goal.invariant-loop-letter
invariant-loop-letter l =
    l.states.items ≡ l.initial.states.items ++ letter_states l.row.count l.row.back (length l.initial.states.items) l.yielded
