-- the starts before are others
use Rattle.std.proofs.Common.{◌≡◌, ℕ, ◌<◌, [], ◌∷◌, get_or}
use Rattle.omega_lang_lasso_check.proofs.links.is_start.Given as goal

abbrev pub invariant-loop-start : goal.invariant-loop-start
invariant-loop-start l = (k : ℕ) → k < l.start-index → get_or l.automaton.starts k (l.state ∷ []) ≡ l.state ∷ [] → ⊥
