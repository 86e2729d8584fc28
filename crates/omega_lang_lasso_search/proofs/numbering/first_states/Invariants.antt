-- the first states of the lists before
use Rattle.std.proofs.Common.{◌≡◌, map, take}
use Rattle.omega_lang_lasso_search.specs.private.Numbering.{first_of}
use Rattle.omega_lang_lasso_search.proofs.numbering.first_states.Given as goal

abbrev pub invariant-loop-start : goal.invariant-loop-start
invariant-loop-start l = l.states.items ≡ map first_of (take l.start-index l.starts)
