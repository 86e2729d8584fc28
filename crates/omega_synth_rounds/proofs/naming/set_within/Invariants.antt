use Rattle.std.proofs.Common.{◌≡◌, ℕ, ◌<◌, ◌≤◌, length}
use Rattle.std.specs.Prelude.{slice_index_or}
use Rattle.omega_synth_rounds.proofs.naming.set_within.Given as goal

abbrev pub invariant-loop-question : goal.invariant-loop-question
invariant-loop-question l = record {
  entries : length l.states.items ≡ length l.initial.states.items;
  within : (question : ℕ) → l.fn.range.first ≤ question → question < l.question → slice_index_or l.states.items question 0 ≡ l.state;
  before : (question : ℕ) → question < l.fn.range.first
      → slice_index_or l.states.items question 0 ≡ slice_index_or l.initial.states.items question 0;
  after : (question : ℕ) → l.fn.range.end ≤ question
      → slice_index_or l.states.items question 0 ≡ slice_index_or l.initial.states.items question 0;
}
