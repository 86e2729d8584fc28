-- one state more was visited
use Rattle.std.proofs.Common.{◌+◌, ◌<◌, ◌≤◌, ℕ, List, length, subst, arith}
use Rattle.omega_hoa_edges.specs.Limits.{most_states}
use Rattle.omega_synth_game.specs.RoundsOf.{holds_in}
use Rattle.omega_synth_check.specs.Judging.{AreInputs, IsAnswered}
use Rattle.omega_synth_check.specs.private.Meeting.{state_at}
use Rattle.omega_synth_check.specs.Lacks.{IsSettled}
use Rattle.omega_synth_check.specs.private.Searching.{IsVisited}
use Rattle.omega_synth_check.proofs.MetStates.{longer, state_kept}
use Rattle.omega_synth_check.proofs.Searches.{all_settled, next_more, settled_more, starts_kept, too_many}
use Rattle.omega_synth_check.proofs.searching.first_lacking.Goals as goal

pub loop-at-init : goal.loop-at-init
loop-at-init c = record {
  met = c.requires.met;
  starts = c.requires.starts;
  few = omega arith;
  next = λ place low. absurd (omega (arith, low));
  settled = λ place low. absurd (omega (arith, low));
}

pub returns-then-len-gt-MOST_STATES-clause-refused : goal.returns-then-len-gt-MOST_STATES-clause-refused
returns-then-len-gt-MOST_STATES-clause-refused c =
    too_many c.args.search.now.automaton.now c.args.search.now.controlled.now c.loop-at.met.states.keys c.loop-at.met.entries.items c.loop-at.invariant.met
    (omega (arith, c.if-len-gt-MOST_STATES.true, c.len-in-loop-at.ensures))

pub visit-requires-clause-at : goal.visit-requires-clause-at
visit-requires-clause-at c = omega (arith, c.loop-at-test.true, c.len.ensures)

pub loop-at-preserved : goal.loop-at-preserved
loop-at-preserved c =
    let a = c.args.search.now.automaton.now in
    let controlled : List ℕ = c.args.search.now.controlled.now in
    let states : List ℕ = c.loop-at.met.states.keys in
    let more : List ℕ = c.visit.new.met.states.keys in
    let at : ℕ = c.loop-at.at in
    let below : at < length states = omega (arith, c.loop-at-test.true, c.len.ensures) in
    let few : length states ≤ most_states = omega (arith, c.if-len-gt-MOST_STATES.false, c.len-in-loop-at.ensures) in
    record {
      met = c.in_ok-letter.ensures.met;
      starts = starts_kept a states more c.in_ok-letter.ensures.extends c.loop-at.invariant.starts;
      few = omega (arith, below, few);
      next = next_more a states more at c.in_ok-letter.ensures.extends below c.loop-at.invariant.next c.in_ok-letter.ensures.next;
      settled = settled_more (IsSettled a controlled) states more at c.in_ok-letter.ensures.extends below c.loop-at.invariant.settled
          (subst (IsVisited a controlled (state_at states at)) c.in-None.is c.in_ok-letter.ensures.letter);
    }

pub returns-in-Some-clause-lacking : goal.returns-in-Some-clause-lacking
returns-in-Some-clause-lacking c =
    let a = c.args.search.now.automaton.now in
    let controlled : List ℕ = c.args.search.now.controlled.now in
    let states : List ℕ = c.loop-at.met.states.keys in
    let more : List ℕ = c.visit.new.met.states.keys in
    let at : ℕ = c.loop-at.at in
    let below : at < length states = omega (arith, c.loop-at-test.true, c.len.ensures) in
    let lacks : (¬ IsAnswered a controlled (state_at states at) (holds_in c.in-Some.letter)) × AreInputs a controlled c.in-Some.letter =
    subst (IsVisited a controlled (state_at states at)) c.in-Some.is c.in_ok-letter.ensures.letter in (
      omega (arith, below, longer states more c.in_ok-letter.ensures.extends),
      λ answered.
          lacks.0 (subst (λ (s : ℕ). IsAnswered a controlled s (holds_in c.in-Some.letter)) (state_kept states more at c.in_ok-letter.ensures.extends below) answered),
      lacks.1,
    )

pub returns-clause-lacking : goal.returns-clause-lacking
returns-clause-lacking c =
    let states : List ℕ = c.loop-at.met.states.keys in
    let past : length states < c.loop-at.at + 1 = omega (arith, c.loop-at-test.false, c.len.ensures) in
    all_settled c.args.search.now.automaton.now c.args.search.now.controlled.now states c.loop-at.at past c.loop-at.invariant.few c.loop-at.invariant.starts
    c.loop-at.invariant.next c.loop-at.invariant.settled
