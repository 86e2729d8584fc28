-- one state more
use Rattle.std.proofs.Common.{◌≡◌, ◌<◌, ◌+◌, ℕ, List, length, get_or, max, All, subst, arith}
use Rattle.std.proofs.lemmas.List.{take_all}
use Rattle.omega_lang_lasso_search.proofs.Kept.{bound_more}
use Rattle.omega_lang_lasso_search.proofs.numbering.start_bound.Goals as goal

pub loop-start-preserved : goal.loop-start-preserved
loop-start-preserved c =
    let below : c.loop-start.start-index < length c.args.starts.now = omega arith in
    let is : c.max-bound.result ≡ max c.loop-start.bound (get_or c.args.starts.now c.loop-start.start-index 0 + 1) = c.max-bound.ensures in
    bound_more (λ bound start. start < bound) c.args.starts.now c.loop-start.start-index 0 c.loop-start.bound _ below (λ start low. omega arith) c.loop-start.invariant (omega arith)

pub returns : goal.returns
returns c =
    subst (λ (starts : List ℕ). All (λ start. start < c.loop-start.bound) starts) (take_all c.loop-start.start-index c.args.starts.now (omega arith)) c.loop-start.invariant
