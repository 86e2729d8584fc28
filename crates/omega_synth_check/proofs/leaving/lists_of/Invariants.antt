-- the edges so far
use Rattle.std.proofs.Common.{length}
use Rattle.omega_synth_check.specs.private.Leaving.{AreListed}
use Rattle.omega_synth_check.proofs.leaving.lists_of.Given as goal

abbrev pub invariant-loop-number : goal.invariant-loop-number
invariant-loop-number l = AreListed l.places (length l.automaton.defined) l.number l.lists.items
