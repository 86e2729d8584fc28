-- A run goes on lift by lift, and ends with none due or with its budget used up.
use Rattle.std.proofs.Common.{◌≡◌, ◌-◌, ◌∙◌, ap, arith, refl, subst, sym, true}
use Rattle.omega_lift_schedules.proofs.Flags.{waits_taken}
use Rattle.omega_solve.specs.Solver.{SolverState}
use Rattle.omega_solve.specs.private.solving.Progress.{IsSolver}
use Rattle.omega_solve.proofs.lifting.Finishing.{finished_idle, reached_bounded, solving_reached}
use Rattle.omega_solve.proofs.runs.Dealing.{call_done, call_over, call_reaches, call_spent}
use Rattle.omega_solve.proofs.lifting.Lifting.{lifts_more}
use Rattle.omega_solve.proofs.solver.Solver.run.Goals as goal

pub returns-then-self-clause-ran : goal.returns-then-self-clause-ran
returns-then-self-clause-ran g c =
    let kept = subst (λ (s : SolverState). IsSolver s c.self.inside.won.items c.self.inside.choice.items) c.self.view_is c.self.invariant in
    let done : c.args.self.now.done ≡ true = sym (ap (λ (s : SolverState). s.done) c.self.view_is) ∙ c.if-self.true in
    call_over c.args.self.now c.args.budget done (finished_idle c.args.self.now kept.solving (kept.answered.idle done))

pub returns-then-self-clause-reported : goal.returns-then-self-clause-reported
returns-then-self-clause-reported g c = (λ _. refl, λ _. sym (ap (λ (s : SolverState). s.done) c.self.view_is) ∙ c.if-self.true)

pub loop-place-smaller-in-None : goal.loop-place-smaller-in-None
loop-place-smaller-in-None g c =
    rw c.settle.ensures (omega (arith, waits_taken c.loop-place.self.pending c.in-Some.place c.in-Some.ensures.pending))

pub loop-place-preserved : goal.loop-place-preserved
loop-place-preserved g c =
    let kept = c.loop-place.invariant in
    record {
      same_nodes = c.lift-more.ensures.same_nodes ∙ kept.same_nodes;
      same_player = c.lift-more.ensures.same_player ∙ kept.same_player;
      lifted = lifts_more c.args.self.now c.loop-place.self c.lift-more.new.self c.loop-place.made (c.args.budget - c.loop-place.made)
          c.lift-more.result kept.same_nodes kept.same_player kept.lifted c.lift-more.ensures;
      counted = omega (arith, c.lift-more.ensures.counted, kept.counted);
      within = omega (arith, kept.within, c.lift-more.ensures.within);
      goes_on = c.lift-more.ensures.same_done ∙ kept.goes_on;
    }

pub returns-then-made-budget-clause-ran : goal.returns-then-made-budget-clause-ran
returns-then-made-budget-clause-ran g c =
    let kept = c.loop-place.invariant in
    let due = c.in-Some-due_towards.ensures in
    call_spent c.args.self.now c.loop-place.self c.loop-place.made c.args.budget kept.same_nodes kept.same_player kept.lifted kept.counted
    c.if-made-budget.true kept.goes_on (c.in-Some.place, (due.value, due.lifts))

pub returns-then-made-budget-clause-reached : goal.returns-then-made-budget-clause-reached
returns-then-made-budget-clause-reached g c =
    let kept = subst (λ (s : SolverState). IsSolver s c.self.inside.won.items c.self.inside.choice.items) c.self.view_is c.self.invariant in
    call_reaches c.args.self.now c.loop-place.self c.args.budget (solving_reached c.args.self.now kept.solving)
    (returns-then-made-budget-clause-ran g c)

pub returns-then-made-budget-clause-bounded : goal.returns-then-made-budget-clause-bounded
returns-then-made-budget-clause-bounded g c =
    reached_bounded c.loop-place.self c.runs_are_bounded.ensures (returns-then-made-budget-clause-reached g c)

pub returns-clause-ran : goal.returns-clause-ran
returns-clause-ran g c =
    let kept = c.loop-place.invariant in
    call_done c.args.self.now c.loop-place.self c.finish.new.self c.loop-place.made c.args.budget
    kept.same_nodes kept.same_player kept.lifted kept.within c.in_default.ensures.finished c.finish.ensures

pub returns-clause-reported : goal.returns-clause-reported
returns-clause-reported g c = (λ _. refl, λ _. ap (λ (s : SolverState). s.done) c.finish.ensures)

pub returns-clause-reached : goal.returns-clause-reached
returns-clause-reached g c =
    let kept = subst (λ (s : SolverState). IsSolver s c.self.inside.won.items c.self.inside.choice.items) c.self.view_is c.self.invariant in
    call_reaches c.args.self.now c.finish.new.self c.args.budget (solving_reached c.args.self.now kept.solving) (returns-clause-ran g c)

pub returns-clause-bounded : goal.returns-clause-bounded
returns-clause-bounded g c = reached_bounded c.finish.new.self c.runs_are_bounded.ensures (returns-clause-reached g c)
