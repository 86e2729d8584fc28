-- the environment has a letter in the states so far, and what they lead to is met
use Rattle.std.proofs.Common.{ℕ, ◌-◌, ◌<◌, ◌≤◌}
use Rattle.omega_hoa_edges.specs.Limits.{most_states}
use Rattle.omega_synth_check.specs.private.Meeting.{HasNext, HasStarts, IsMetOf, state_at}
use Rattle.omega_synth_check.specs.WaysOut.{HasLetterIn, flag}
use Rattle.omega_synth_check.proofs.without_letter.first_blocked.Given as goal

abbrev pub invariant-loop-at : goal.invariant-loop-at
invariant-loop-at l = record {
  met : IsMetOf l.search.automaton.now l.met;
  starts : HasStarts l.search.automaton.now l.met.states.keys;
  few : l.at ≤ most_states;
  next : (place : ℕ) → place < l.at → HasNext l.search.automaton.now (state_at l.met.states.keys place) l.met.states.keys;
  lettered : (place : ℕ) → place < l.at
      → HasLetterIn l.asked.automaton.now l.asked.controlled.now (flag l.ways_out) (state_at l.met.states.keys place);
}

abbrev pub decreases-loop-at : goal.decreases-loop-at
decreases-loop-at l = 1048577 - l.at
