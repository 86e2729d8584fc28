-- the numbers before are those of edges
use Rattle.std.proofs.Common.{ℕ, ◌<◌, get_or}
use Rattle.omega_lang_lasso_check.specs.Conditions.{IsNumber}
use Rattle.omega_lang_lasso_check.proofs.links.first_not_there.Given as goal

abbrev pub invariant-loop-number : goal.invariant-loop-number
invariant-loop-number l = (k : ℕ) → k < l.number-index → IsNumber l.automaton (get_or l.numbers k 0)
