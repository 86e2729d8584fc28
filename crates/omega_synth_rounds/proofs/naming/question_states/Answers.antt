-- one state more, and all
use Rattle.std.proofs.Common.{◌≡◌, ◌<◌, ℕ, length, subst, arith}
use Rattle.omega_synth_rounds.specs.private.Naming.{AreStatesBelow}
use Rattle.omega_synth_rounds.proofs.Named.{states_all, states_more}
use Rattle.omega_synth_rounds.proofs.naming.question_states.Goals as goal

pub set_within-requires : goal.set_within-requires
set_within-requires c =
    let below : c.loop-state.state < length c.args.rounds.now.states = omega (arith, c.loop-state-test.true, c.loop-state.auto.state-end) in
    rw (c.range_of-range.ensures, c.loop-state.invariant.entries) (c.requires.rounds.within c.loop-state.state below)

pub loop-state-preserved : goal.loop-state-preserved
loop-state-preserved c =
    states_more c.args.rounds.now c.loop-state.states.items c.set_within.new.states.items c.loop-state.state c.range_of-range.result
    (omega (arith, c.loop-state-test.true, c.loop-state.auto.state-end)) c.range_of-range.ensures c.loop-state.invariant c.set_within.ensures.entries c.set_within.ensures.within c.set_within.ensures.before
    c.set_within.ensures.after

pub returns-clause-states : goal.returns-clause-states
returns-clause-states c =
    let all : c.loop-state.state ≡ length c.args.rounds.now.states = omega (arith, c.loop-state.auto.state-end) in
    states_all c.args.rounds.now c.requires.rounds c.loop-state.states.items
    (subst (λ (n : ℕ). AreStatesBelow c.args.rounds.now c.loop-state.states.items n) all c.loop-state.invariant)
