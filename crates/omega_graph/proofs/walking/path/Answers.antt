-- `path`: a walk of edges of a list from one of some states to a state.
use Rattle.std.proofs.Common.{ℕ, [], IsTrue, length, subst}
use Rattle.omega_graph.specs.Graph.{listed, marked}
use Rattle.omega_graph.specs.Reaching.{IsWalkFrom}
use Rattle.omega_graph.specs.private.Searching.{mark_at}
use Rattle.omega_graph.proofs.Searched.{leads_back}
use Rattle.omega_graph.proofs.Walks.{leaves_count, reached_marked}
use Rattle.omega_graph.proofs.walking.path.Goals as goal

pub walk_to-requires-clause-back : goal.walk_to-requires-clause-back
walk_to-requires-clause-back c =
    let is = c.in_ok-search.ensures in
    leads_back is.leaves is.enters c.args.sources.now c.in_ok-search.search.met (length c.args.edges.now)
    (leaves_count (marked c.args.graph.now (λ n. [])) c.args.edges.now is.leaves is.enters (is.ends (λ n. []))) is.searched.tree

pub returns-in-None-clause-none : goal.returns-in-None-clause-none
returns-in-None-clause-none c =
    λ marks reached.
    let is = c.in_ok-search.ensures in
    let unmet : IsTrue (mark_at c.in_ok-search.search.marks c.args.target) → ⊥ =
    λ mark. let at = is.searched.found c.args.target mark in c.in-None.ensures.none at.0 at.1 at.2 in
    unmet (reached_marked (marked c.args.graph.now marks) c.args.edges.now is.leaves is.enters (is.ends marks) c.args.sources.now c.args.graph.now.states c.in_ok-search.search
    (is.searched.whole unmet) c.args.target reached)

pub returns-clause-walk : goal.returns-clause-walk
returns-clause-walk c =
    λ marks.
    let is = c.in_ok-search.ensures in
    subst (λ (s : ℕ). IsWalkFrom (marked c.args.graph.now marks) (listed c.args.edges.now) c.args.sources.now c.in_ok-walk-in-Some.walk.items s) c.in-Some.ensures.some.1
    (c.in_ok-walk-in-Some.ensures (marked c.args.graph.now marks) is.leaves is.enters c.args.sources.now (is.ends marks) is.searched.tree)
