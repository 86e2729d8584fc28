-- the edges with the ends before
use Rattle.std.proofs.Common.{◌≡◌, take}
use Rattle.omega_lang_lasso_search.proofs.numbering.graph_on.Given as goal

abbrev pub invariant-loop-end : goal.invariant-loop-end
invariant-loop-end l = (l.graph.states ≡ l.states) × (l.graph.edges ≡ take l.end-index l.ends)
