-- the edge leads where it leads alone
use Rattle.std.proofs.Common.{ℕ, Contains, Option, subst}
use Rattle.std.specs.Prelude.{IfNone, IfSome}
use Rattle.omega_lang_runs.specs.Lasso.{IsStep}
use Rattle.omega_synth_game.specs.Making.{IsLeaving}
use Rattle.omega_synth_check.specs.private.Meeting.{state_at}
use Rattle.omega_synth_check.proofs.MetStates.{extends_not}
use Rattle.omega_synth_check.proofs.Steps.{one_step}
use Rattle.omega_synth_check.proofs.entering.enter.Goals as goal

pub returns-in-None-clause-extends : goal.returns-in-None-clause-extends
returns-in-None-clause-extends c = extends_not c.args.met.now.states.keys

pub returns-in-None-clause-entered : goal.returns-in-None-clause-entered
returns-in-None-clause-entered c =
    let a = c.args.search.now.automaton.now in
    let number : ℕ = c.args.number in
    let none : (state next : ℕ) → ¬ IsStep a state number next =
    subst (λ (found : Option ℕ). IfNone found ((state next : ℕ) → ¬ IsStep a state number next)) c.in-None.is c.in_ok-target.ensures.none in
    λ next step. absurd (none (state_at c.args.met.now.states.keys c.args.at) next step)

pub returns-in_ok-add-in-Some-clause-entered : goal.returns-in_ok-add-in-Some-clause-entered
returns-in_ok-add-in-Some-clause-entered c =
    let a = c.args.search.now.automaton.now in
    let number : ℕ = c.args.number in
    let from : ℕ = state_at c.args.met.now.states.keys c.args.at in
    let leads : (state : ℕ) → IsLeaving a state number → IsStep a state number c.in-Some.state =
    subst (λ (found : Option ℕ). IfSome found (λ target. (state : ℕ) → IsLeaving a state number → IsStep a state number target)) c.in-Some.is c.in_ok-target.ensures.step in
    λ next step.
    subst (Contains c.add.new.self.states.keys) (one_step a from number c.in-Some.state next (leads from c.requires.leaves) step)
    c.in_ok-add-in-Some.ensures.there
