-- The truth value that nodes leave is that of their tree.
use Rattle.std.proofs.Common.{◌≡◌, ℕ, Bool, List, [], ◌∷◌, ◌++◌, ap, append-nil, refl, sym, ◌∙◌}
use Rattle.omega_hoa_expression.specs.Joins.{regrouped}
use Rattle.omega_hoa_acceptance.specs.Acceptance.{AccTree}
use Rattle.omega_hoa_acceptance.specs.Acceptance as acc
use Rattle.omega_hoa_acceptance.specs.Judging.{holds_by_atoms}
use Rattle.omega_hoa_acceptance.specs.private.layout.Acceptance.{acc_postfix}
use Rattle.omega_hoa_acceptance.specs.private.layout.Judged.{top_truth, truths_after}
use Rattle.omega_hoa_acceptance.specs.declared.formula.AccNode.{AccNode}
use Rattle.omega_hoa_acceptance.specs.declared.formula.AccNode.TheVariants.{And, Or}

truths-postfix : (infs fins : Bool → ℕ → Bool) (tree : AccTree) (truths : List Bool) (rest : List AccNode)
    → truths_after infs fins truths (acc_postfix tree ++ rest) ≡ truths_after infs fins (holds_by_atoms infs fins tree ∷ truths) rest
truths-postfix infs fins (acc.constant value) truths rest = refl
truths-postfix infs fins (acc.inf negated set) truths rest = refl
truths-postfix infs fins (acc.fin negated set) truths rest = refl
truths-postfix infs fins (acc.conjunction left right) truths rest =
    ap (truths_after infs fins truths) (regrouped (acc_postfix left) (acc_postfix right) And rest)
    ∙ (truths-postfix infs fins left truths (acc_postfix right ++ And ∷ rest)
    ∙ truths-postfix infs fins right (holds_by_atoms infs fins left ∷ truths) (And ∷ rest))
truths-postfix infs fins (acc.disjunction left right) truths rest =
    ap (truths_after infs fins truths) (regrouped (acc_postfix left) (acc_postfix right) Or rest)
    ∙ (truths-postfix infs fins left truths (acc_postfix right ++ Or ∷ rest)
    ∙ truths-postfix infs fins right (holds_by_atoms infs fins left ∷ truths) (Or ∷ rest))

-- a formula's nodes leave its truth value
pub truth-formula : (infs fins : Bool → ℕ → Bool) (tree : AccTree) (nodes : List AccNode) → nodes ≡ acc_postfix tree
    → top_truth (truths_after infs fins [] nodes) ≡ holds_by_atoms infs fins tree
truth-formula infs fins tree nodes is =
    ap (λ nodes. top_truth (truths_after infs fins [] nodes)) (is ∙ sym (append-nil (acc_postfix tree)))
    ∙ ap top_truth (truths-postfix infs fins tree [] [])
