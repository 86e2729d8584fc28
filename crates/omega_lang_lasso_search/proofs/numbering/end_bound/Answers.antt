-- the ends of one edge more
use Rattle.std.proofs.Common.{◌≡◌, ◌<◌, ◌+◌, List, length, get_or, max, All, subst, arith}
use Rattle.std.proofs.lemmas.List.{take_all}
use Rattle.omega_graph.specs.Graph.{IsInside}
use Rattle.omega_graph.specs.declared.edge.Edge.{Edge}
use Rattle.omega_lang_lasso_search.proofs.Kept.{bound_more}
use Rattle.omega_lang_lasso_search.proofs.numbering.end_bound.Goals as goal

pub loop-end-preserved : goal.loop-end-preserved
loop-end-preserved c =
    let below : c.loop-end.end-index < length c.args.ends.now = omega arith in
    let is : c.max-bound.result ≡ max c.loop-end.bound (c.max.result + 1) = c.max-bound.ensures in
    let ends : c.max.result ≡ max (get_or c.args.ends.now c.loop-end.end-index (record { from = 0; to = 0 })).from (get_or c.args.ends.now c.loop-end.end-index (record { from = 0; to = 0 })).to = c.max.ensures in (
      omega (arith, c.loop-end.invariant.0),
      bound_more IsInside c.args.ends.now c.loop-end.end-index (record { from = 0; to = 0 }) c.loop-end.bound _ below (λ end inside. let f : end.from < c.loop-end.bound = inside.0 in let t : end.to < c.loop-end.bound = inside.1 in (omega arith, omega arith)) c.loop-end.invariant.1 (omega arith, omega arith),
    )

pub returns-clause-ends : goal.returns-clause-ends
returns-clause-ends c =
    subst (λ (ends : List Edge). All (IsInside c.loop-end.bound) ends) (take_all c.loop-end.end-index c.args.ends.now (omega arith)) c.loop-end.invariant.1
