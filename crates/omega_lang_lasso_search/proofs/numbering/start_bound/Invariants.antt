-- the states before are below the bound
use Rattle.std.proofs.Common.{◌<◌, take, All}
use Rattle.omega_lang_lasso_search.proofs.numbering.start_bound.Given as goal

abbrev pub invariant-loop-start : goal.invariant-loop-start
invariant-loop-start l = All (λ start. start < l.bound) (take l.start-index l.starts)
