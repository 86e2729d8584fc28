-- `reached`: which states are reached from some states by edges of a list.
use Rattle.std.proofs.Common.{List, Bool, sym, subst, ◌∙◌, IsTrue}
use Rattle.omega_graph.specs.Graph.{marked}
use Rattle.omega_graph.specs.private.Searching.{mark_at}
use Rattle.omega_graph.proofs.Walks.{marked_reached, reached_marked}
use Rattle.omega_graph.proofs.reaching.reached_flags.Goals as goal

pub returns-clause-count : goal.returns-clause-count
returns-clause-count c = c.into_marks.ensures.count ∙ c.in_ok-search.ensures.searched.count_is

pub returns-clause-reached : goal.returns-clause-reached
returns-clause-reached c =
    λ marks state.
    let is = c.in_ok-search.ensures in (
      λ mark. marked_reached (marked c.args.graph.now marks) c.args.edges.now is.leaves is.enters (is.ends marks) c.args.sources.now c.args.graph.now.states c.in_ok-search.search is.searched state
          (subst (λ (m : List Bool). IsTrue (mark_at m state)) c.into_marks.ensures.marks mark),
      λ reached. subst (λ (m : List Bool). IsTrue (mark_at m state)) (sym c.into_marks.ensures.marks)
          (reached_marked (marked c.args.graph.now marks) c.args.edges.now is.leaves is.enters (is.ends marks) c.args.sources.now c.args.graph.now.states c.in_ok-search.search is.searched state reached),
    )
