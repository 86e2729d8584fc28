-- one state more was visited
use Rattle.std.proofs.Common.{◌+◌, ◌<◌, ◌≤◌, ℕ, Bool, List, length, sym, subst, arith}
use Rattle.omega_hoa_edges.specs.Limits.{most_states}
use Rattle.omega_synth_check.specs.private.Meeting.{state_at}
use Rattle.omega_synth_check.specs.WaysOut.{HasLetterIn, IsBlocked, flag}
use Rattle.omega_synth_check.specs.private.Blocked.{IsVisitedFor}
use Rattle.omega_synth_check.proofs.MetStates.{longer, state_kept}
use Rattle.omega_synth_check.proofs.Searches.{next_more, reached_settled, settled_more, starts_kept}
use Rattle.omega_synth_check.proofs.WayRefusals.{many_ways_refused}
use Rattle.omega_synth_check.proofs.without_letter.first_blocked.Goals as goal

pub loop-at-init : goal.loop-at-init
loop-at-init c = record {
  met = c.requires.met;
  starts = c.requires.starts;
  few = omega arith;
  next = λ place low. absurd (omega (arith, low));
  lettered = λ place low. absurd (omega (arith, low));
}

pub returns-then-len-gt-MOST_STATES-clause-refused : goal.returns-then-len-gt-MOST_STATES-clause-refused
returns-then-len-gt-MOST_STATES-clause-refused c =
    many_ways_refused c.args.search.now.automaton.now c.args.asked.now.automaton.now c.args.asked.now.controlled.now c.loop-at.met.states.keys c.loop-at.met.entries.items
    c.loop-at.invariant.met (omega (arith, c.if-len-gt-MOST_STATES.true, c.len-in-loop-at.ensures))

pub way_out_at-requires-clause-at : goal.way_out_at-requires-clause-at
way_out_at-requires-clause-at c = omega (arith, c.loop-at-test.true, c.len.ensures)

pub loop-at-preserved : goal.loop-at-preserved
loop-at-preserved c =
    let a = c.args.search.now.automaton.now in
    let b = c.args.asked.now.automaton.now in
    let controlled : List ℕ = c.args.asked.now.controlled.now in
    let out : ℕ → Bool = flag c.args.ways_out.now in
    let states : List ℕ = c.loop-at.met.states.keys in
    let more : List ℕ = c.way_out_at.new.met.states.keys in
    let at : ℕ = c.loop-at.at in
    let below : at < length states = omega (arith, c.loop-at-test.true, c.len.ensures) in
    let few : length states ≤ most_states = omega (arith, c.if-len-gt-MOST_STATES.false, c.len-in-loop-at.ensures) in
    record {
      met = c.in_ok-number.ensures.met;
      starts = starts_kept a states more c.in_ok-number.ensures.extends c.loop-at.invariant.starts;
      few = omega (arith, below, few);
      next = next_more a states more at c.in_ok-number.ensures.extends below c.loop-at.invariant.next c.in_ok-number.ensures.next;
      lettered = settled_more (HasLetterIn b controlled out) states more at c.in_ok-number.ensures.extends below c.loop-at.invariant.lettered
          (subst (IsVisitedFor b controlled out (state_at states at)) c.in-None.is c.in_ok-number.ensures.way);
    }

pub returns-in-Some-clause-blocked : goal.returns-in-Some-clause-blocked
returns-in-Some-clause-blocked c =
    let a = c.args.search.now.automaton.now in
    let b = c.args.asked.now.automaton.now in
    let controlled : List ℕ = c.args.asked.now.controlled.now in
    let out : ℕ → Bool = flag c.args.ways_out.now in
    let states : List ℕ = c.loop-at.met.states.keys in
    let more : List ℕ = c.way_out_at.new.met.states.keys in
    let at : ℕ = c.loop-at.at in
    let below : at < length states = omega (arith, c.loop-at-test.true, c.len.ensures) in
    let blocked : IsBlocked b controlled out (state_at states at) c.in-Some.number =
    subst (IsVisitedFor b controlled out (state_at states at)) c.in-Some.is c.in_ok-number.ensures.way in (
      omega (arith, below, longer states more c.in_ok-number.ensures.extends),
      subst (λ (s : ℕ). IsBlocked b controlled out s c.in-Some.number) (sym (state_kept states more at c.in_ok-number.ensures.extends below)) blocked,
    )

pub returns-clause-blocked : goal.returns-clause-blocked
returns-clause-blocked c =
    let a = c.args.search.now.automaton.now in
    let states : List ℕ = c.loop-at.met.states.keys in
    let past : length states < c.loop-at.at + 1 = omega (arith, c.loop-at-test.false, c.len.ensures) in
    reached_settled a (HasLetterIn c.args.asked.now.automaton.now c.args.asked.now.controlled.now (flag c.args.ways_out.now)) states c.loop-at.at past c.loop-at.invariant.starts
    c.loop-at.invariant.next c.loop-at.invariant.lettered
