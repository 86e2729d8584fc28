-- the walk's marks are among those of all edges, and the formula has no `Fin`
use Rattle.std.proofs.Common.{[], sym, ◌∙◌}
use Rattle.std.proofs.lemmas.Bool.{false≢true}
use Rattle.omega_graph.specs.Walks.{marks_on}
use Rattle.omega_graph.proofs.Passing.{occurs_more}
use Rattle.omega_graph.proofs.Positive.{apart_same, holds_of_more, without_fin}
use Rattle.omega_graph.proofs.ClosedWalking.{on_edges}
use Rattle.omega_graph.proofs.rules.all_edges_show_inf.Goals as goal

pub returns : goal.returns
returns c graph edges all formula none lists has =
    let closed = has.1.closed in
    sym (apart_same (marks_on graph all) formula)
    ∙ without_fin (marks_on graph all) (marks_on graph all) [] formula none
    ∙ holds_of_more (marks_on graph has.0) (marks_on graph all) (marks_on graph has.0) []
    (λ negated set. occurs_more graph negated set has.0 all (λ number on. lists number (on_edges graph edges closed.loop_state has.0 closed.loop_state closed.leads number on)))
    (λ negated set is. absurd (false≢true is))
    formula (apart_same (marks_on graph has.0) formula ∙ has.1.accepted)
