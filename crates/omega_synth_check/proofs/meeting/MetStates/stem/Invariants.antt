-- the edges from the state that is left to the end
use Rattle.std.proofs.Common.{◌<◌, length, reverse}
use Rattle.omega_lang_runs.specs.Lasso.{Leads}
use Rattle.omega_synth_check.specs.private.Meeting.{state_at}
use Rattle.omega_synth_check.proofs.meeting.MetStates.stem.Given as goal

abbrev pub invariant-loop-at : goal.invariant-loop-at
invariant-loop-at l =
    (l.at < length l.self.states.keys)
    × Leads l._automaton (state_at l.self.states.keys l.at) (reverse l.numbers.items) (state_at l.self.states.keys l.place)

abbrev pub decreases-loop-at : goal.decreases-loop-at
decreases-loop-at l = l.at
