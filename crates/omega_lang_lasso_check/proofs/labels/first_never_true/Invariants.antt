-- the edges before are usable
use Rattle.std.proofs.Common.{ℕ, ◌<◌, get_or}
use Rattle.omega_lang_lasso_check.specs.Conditions.{IsUsableNumber}
use Rattle.omega_lang_lasso_check.proofs.labels.first_never_true.Given as goal

abbrev pub invariant-loop-number : goal.invariant-loop-number
invariant-loop-number l = (k : ℕ) → k < l.number-index → IsUsableNumber l.table.automaton.now (get_or l.numbers k 0)
