-- The common suffix of stem and cycle begins the new cycle.
use Rattle.std.proofs.Common.{◌≡◌, ℕ, ◌-◌, List, ◌++◌, drop, length, take, sym, ap, ◌∙◌, subst}
use Rattle.std.proofs.lemmas.List.{length-drop, take-append-drop}
use Rattle.std.proofs.Math.Seq.{take-length}
use Rattle.omega_lang_runs.specs.Lasso.{IsAcceptingLasso}
use Rattle.omega_lang_lasso_search.proofs.Entering.{turned_lasso}
use Rattle.omega_lang_lasso_search.proofs.turning.shortest_lasso.Goals as goal

pub returns-clause-verdict : goal.returns-clause-verdict
returns-clause-verdict c = λ a accepting.
    let stem = c.args.stem.now in
    let cycle = c.args.cycle.now in
    let n = length stem - c.shared_end-shared.result in
    let m = length cycle - c.shared_end-shared.result in
    let stem_parts : stem ≡ take n stem ++ drop m cycle =
    sym (take-append-drop n stem) ∙ ap (λ (rest : List ℕ). take n stem ++ rest) c.shared_end-shared.ensures.same in
    let cycle_parts : cycle ≡ take m cycle ++ drop m cycle = sym (take-append-drop m cycle) in
    let P : List ℕ → List ℕ → Type 0 = λ xs ys. IsAcceptingLasso a xs ys in
    let whole = subst (λ (ys : List ℕ). P (take n stem ++ drop m cycle) ys) cycle_parts (subst (λ (xs : List ℕ). P xs cycle) stem_parts accepting) in
    let turned = turned_lasso a (take n stem) (take m cycle) (drop m cycle) whole in
    let stem_is : c.from_vec.result ≡ take n stem = c.from_vec.ensures ∙ c.in_ok-before.ensures.items in
    let following : take (length cycle - m) (drop m cycle) ≡ drop m cycle =
    ap (λ (k : ℕ). take k (drop m cycle)) (sym (length-drop m cycle)) ∙ take-length (drop m cycle) in
    let cycle_is : c.from_vec-2.result ≡ drop m cycle ++ take m cycle =
    c.from_vec-2.ensures ∙ c.in_ok-extend_from_slice.ensures.items ∙ ap (λ (front : List ℕ). front ++ take m cycle) (c.in_ok-around.ensures.items ∙ following) in
    subst (λ (ys : List ℕ). P c.from_vec.result ys) (sym cycle_is) (subst (λ (xs : List ℕ). P xs (drop m cycle ++ take m cycle)) (sym stem_is) turned)
