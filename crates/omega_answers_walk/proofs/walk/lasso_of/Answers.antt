-- `lasso_of`: the places that have the identifiers are no lasso, and no others have them.
use Rattle.std.proofs.Common.{ℕ, List, sym, subst, ◌∙◌}
use Rattle.std.proofs.lemmas.Bool.{false≢true}
use Rattle.omega_answers_walk.specs.Walk.{AreNamed, IsLassoIn}
use Rattle.omega_answers_walk.proofs.Naming.{named_once}
use Rattle.omega_answers_walk.proofs.walk.lasso_of.Goals as goal

pub returns-then-not-branch-clause-none : goal.returns-then-not-branch-clause-none
returns-then-not-branch-clause-none c =
    let game = c.args.game.now in
    let said = c.args.said.now in
    let stem = c.in-Some.stem.items in
    let cycle = c.in-Some-2.cycle.items in
    let stem_named : AreNamed game said.stem stem =
    subst (λ (ids : List ℕ). AreNamed game ids stem) c.as_slice.ensures (rw c.in-Some.is at c.in_ok-stem.ensures.found) in
    let cycle_named : AreNamed game said.cycle cycle =
    subst (λ (ids : List ℕ). AreNamed game ids cycle) c.as_slice-2.ensures (rw c.in-Some-2.is at c.in_ok-cycle.ensures.found) in
    λ lasso named.
    let same_stem = c.as_slice-3.ensures.value ∙ named_once game c.keeps_limits.ensures.game said.stem stem lasso.stem stem_named named.stem in
    let same_cycle = c.as_slice-4.ensures.value ∙ named_once game c.keeps_limits.ensures.game said.cycle cycle lasso.cycle cycle_named named.cycle in
    let joined = subst (λ (list : List ℕ). IsLassoIn game list c.as_slice-4.result.now) (sym same_stem)
    (subst (IsLassoIn game lasso.stem) (sym same_cycle) named.joined) in
    absurd (false≢true (sym c.if-not-branch.true ∙ c.in_ok-is_lasso.ensures.lasso.1 joined))
