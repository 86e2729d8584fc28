-- The buffers of a solver that is done hold an exact answer.
use Rattle.std.proofs.Common.{◌≡◌, ◌∙◌, List, Bool, Option, ℕ, ap, subst, sym, true}
use Rattle.omega_lift_laws.specs.Laws.{ChoicesAreAStrategy, ChoicesWin, RegionsStayBelowTop}
use Rattle.omega_solve.specs.Headline.{IsExact}
use Rattle.omega_solve.specs.Solver.{SolverState}
use Rattle.omega_solve.specs.private.solving.Progress.{IsSolver}
use Rattle.omega_solve.proofs.answers.Exactness.{answer_exact}
use Rattle.omega_solve.proofs.lifting.Finishing.{finished_idle}
use Rattle.omega_solve.proofs.solver.Solver.answer.Goals as goal

-- the buffers of a solver that is done hold an exact answer
exact : (state : SolverState) (won : List Bool) (choices : List (Option ℕ)) → ChoicesAreAStrategy → ChoicesWin → RegionsStayBelowTop
    → IsSolver state won choices → state.done ≡ true → IsExact state.nodes state.player won choices
exact state won choices strategy win stay kept done =
    let s = kept.solving in
    subst (λ (flags : List Bool). IsExact state.nodes state.player flags choices) (sym (kept.answered.places_won done))
    (answer_exact state.nodes state.player s.places state.table.measures choices strategy win stay s.game s.content.is_table s.lifted
    (finished_idle state s (kept.answered.idle done)) (kept.answered.chosen done))

pub returns-clause-finished : goal.returns-clause-finished
returns-clause-finished g c some =
    let kept = subst (λ (s : SolverState). IsSolver s c.self.inside.won.items c.self.inside.choice.items) c.self.view_is c.self.invariant in
    let done : c.args.self.now.done ≡ true = sym (ap (λ (s : SolverState). s.done) c.self.view_is) ∙ c.if-not-self.false in
    finished_idle c.args.self.now kept.solving (kept.answered.idle done)

pub returns-clause-exact : goal.returns-clause-exact
returns-clause-exact g c =
    let state : SolverState = c.args.self.now in
    let kept = subst (λ (s : SolverState). IsSolver s c.self.inside.won.items c.self.inside.choice.items) c.self.view_is c.self.invariant in
    let done : state.done ≡ true = sym (ap (λ (s : SolverState). s.done) c.self.view_is) ∙ c.if-not-self.false in
    subst (λ (won : List Bool). IsExact state.nodes state.player won c.deref-2.result.now) (sym c.deref.ensures.value)
    (subst (λ (choices : List (Option ℕ)). IsExact state.nodes state.player c.self.inside.won.items choices) (sym c.deref-2.ensures.value)
    (exact state c.self.inside.won.items c.self.inside.choice.items c.choices_are_a_strategy.ensures c.choices_win.ensures
    c.regions_stay_below_top.ensures kept done))
