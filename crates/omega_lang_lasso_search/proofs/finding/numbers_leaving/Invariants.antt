-- what is left of the edges before
use Rattle.std.proofs.Common.{◌≡◌, false, filter, get_or, take}
use Rattle.omega_graph.specs.Graph.{ends_at}
use Rattle.omega_lang_lasso_search.proofs.finding.numbers_leaving.Given as goal

abbrev pub invariant-loop-number : goal.invariant-loop-number
invariant-loop-number l =
    l.edges.items ≡ filter (λ number. get_or l.states (ends_at l.graph number).from false) (take l.number-index l.numbers)
