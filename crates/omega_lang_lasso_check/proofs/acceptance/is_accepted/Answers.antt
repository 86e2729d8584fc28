-- the formula holds of the rows of the cycle
use Rattle.std.proofs.Common.{◌≡◌, ℕ, List, length, map, nat_eq, sym, ap, ◌∙◌}
use Rattle.std.proofs.lemmas.List.{length-map}
use Rattle.indexmap.specs.IndexMap.{get}
use Rattle.omega_hoa_acceptance.specs.Acceptance.{AccTree, accepts}
use Rattle.omega_lang_runs.specs.Lasso.{marks_at}
use Rattle.omega_lang_lasso_check.specs.private.Runs.{holds_by}
use Rattle.omega_lang_lasso_check.proofs.Marking.{holds_are, holds_by_runs}
use Rattle.omega_lang_lasso_check.proofs.acceptance.is_accepted.Goals as goal

pub returns-clause-accepted : goal.returns-clause-accepted
returns-clause-accepted c =
    let rows : List (List ℕ) = map (marks_at c.args.table.now.automaton.now) c.args.cycle.now in
    let counted : length rows ≡ length c.args.cycle.now = length-map c.args.cycle.now (marks_at c.args.table.now.automaton.now) in
    c.in_ok-accepted.ensures.ok
    ∙ holds_by_runs (get nat_eq c.in_ok-runs.runs) (length c.args.cycle.now) c.acceptance.result.now
    ∙ ap (λ (n : ℕ). holds_by (get nat_eq c.in_ok-runs.runs) n c.acceptance.result.now) (sym counted)
    ∙ holds_are rows (get nat_eq c.in_ok-runs.runs) c.in_ok-runs.ensures.runs c.acceptance.result.now
    ∙ ap (λ (tree : AccTree). accepts rows tree) c.acceptance.ensures
