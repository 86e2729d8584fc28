-- the ends before are below the bound
use Rattle.std.proofs.Common.{◌≤◌, take, All}
use Rattle.omega_graph.specs.Graph.{IsInside}
use Rattle.omega_lang_lasso_search.proofs.numbering.end_bound.Given as goal

abbrev pub invariant-loop-end : goal.invariant-loop-end
invariant-loop-end l = (l.least ≤ l.bound) × All (IsInside l.bound) (take l.end-index l.ends)
