-- what the edges so far enter is met
use Rattle.std.proofs.Common.{take}
use Rattle.omega_synth_check.specs.private.Meeting.{Extends, HasEntered, IsMetOf, state_at}
use Rattle.omega_synth_check.proofs.entering.enter_all.Given as goal

abbrev pub invariant-loop-number : goal.invariant-loop-number
invariant-loop-number l =
    IsMetOf l.search.automaton.now l.met × Extends l.initial.met.states.keys l.met.states.keys
    × HasEntered l.search.automaton.now (state_at l.initial.met.states.keys l.at) (take l.number-index l.numbers) l.met.states.keys
