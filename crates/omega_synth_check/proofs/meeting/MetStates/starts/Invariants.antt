-- the starts so far are met
use Rattle.std.proofs.Common.{ℕ, ◌∷◌, [], Contains, take}
use Rattle.omega_synth_check.specs.private.Meeting.{IsMetOf}
use Rattle.omega_synth_check.proofs.meeting.MetStates.starts.Given as goal

abbrev pub invariant-loop-start : goal.invariant-loop-start
invariant-loop-start l =
    IsMetOf l.automaton l.met
    × ((start : ℕ) → Contains (take l.start-index l.automaton.starts) (start ∷ []) → Contains l.met.states.keys start)
