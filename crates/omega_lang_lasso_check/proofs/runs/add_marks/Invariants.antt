-- the marks before are added
use Rattle.std.proofs.Common.{◌≡◌, ◌++◌, ◌∷◌, [], ℕ, List, length, nat_eq, take}
use Rattle.indexmap.specs.IndexMap.{get}
use Rattle.omega_lang_lasso_check.specs.private.Runs.{AreRuns}
use Rattle.omega_lang_lasso_check.proofs.runs.add_marks.Given as goal

abbrev pub invariant-loop-mark : goal.invariant-loop-mark
invariant-loop-mark l =
    (rows : List (List ℕ)) (begun : List ℕ) → length rows ≡ l.at → AreRuns (rows ++ begun ∷ []) (get nat_eq l.initial.runs)
    → AreRuns (rows ++ (begun ++ take l.mark-index l.marks) ∷ []) (get nat_eq l.runs)
