-- one edge more
use Rattle.std.proofs.Common.{◌≡◌, ◌++◌, ◌∷◌, [], ◌<◌, ℕ, List, length, map, nat_eq, take, ap, subst, ◌∙◌, arith}
use Rattle.std.proofs.lemmas.List.{length-map, length-take-le}
use Rattle.indexmap.specs.IndexMap.{get}
use Rattle.omega_lang_runs.specs.Lasso.{marks_at}
use Rattle.omega_lang_lasso_check.specs.private.Runs.{AreRuns}
use Rattle.omega_lang_lasso_check.proofs.Marking.{rows_more, runs_begun}
use Rattle.omega_lang_lasso_check.proofs.runs.runs.Goals as goal

pub loop-at-preserved : goal.loop-at-preserved
loop-at-preserved c =
    let at : ℕ = c.loop-at.at in
    let cycle : List ℕ = c.args.cycle.now in
    let below : at < length cycle = omega arith in
    let rows : List (List ℕ) = map (marks_at c.args.table.now.automaton.now) (take at cycle) in
    let counted : length rows ≡ at = length-map (take at cycle) (marks_at c.args.table.now.automaton.now) ∙ length-take-le at cycle (omega arith) in
    let first = c.in_ok-add_marks.ensures.runs rows [] counted (runs_begun rows (get nat_eq c.loop-at.runs) c.loop-at.invariant) in
    let second = c.in_ok-add_marks-2.ensures.runs rows c.as_slice.result.now counted first in
    let marks : c.as_slice.result.now ++ c.marks.result.now ≡ c.find-found.result.source.now.marks ++ c.find-found.result.edge.marks =
    ap (λ (list : List ℕ). list ++ c.marks.result.now) c.as_slice.ensures ∙ ap (λ (list : List ℕ). c.find-found.result.source.now.marks ++ list) c.marks.ensures in
    subst (λ (list : List (List ℕ)). AreRuns list (get nat_eq c.add_marks-in-loop-at.new.runs))
    (ap (λ (row : List ℕ). rows ++ row ∷ []) marks ∙ rows_more c.args.table.now.automaton.now cycle at _ below c.find-found.ensures) second
