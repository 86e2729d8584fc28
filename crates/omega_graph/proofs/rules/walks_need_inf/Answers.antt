-- the edges of the walk are among all
use Rattle.std.proofs.Common.{[], ◌∙◌}
use Rattle.std.proofs.lemmas.Bool.{false≢true}
use Rattle.omega_graph.specs.Walks.{marks_on}
use Rattle.omega_graph.proofs.Passing.{occurs_more}
use Rattle.omega_graph.proofs.Positive.{apart_same, holds_of_more}
use Rattle.omega_graph.proofs.ClosedWalking.{on_edges}
use Rattle.omega_graph.proofs.rules.walks_need_inf.Goals as goal

pub returns : goal.returns
returns c graph edges all formula lists has =
    let closed = has.1.closed in
    holds_of_more (marks_on graph has.0) (marks_on graph all) (marks_on graph has.0) []
    (λ negated set. occurs_more graph negated set has.0 all (λ number on. lists number (on_edges graph edges closed.loop_state has.0 closed.loop_state closed.leads number on)))
    (λ negated set is. absurd (false≢true is))
    formula (apart_same (marks_on graph has.0) formula ∙ has.1.accepted)
