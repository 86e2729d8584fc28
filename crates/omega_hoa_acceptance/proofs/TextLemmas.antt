-- The text that nodes make is that of their tree.
use Rattle.std.proofs.Common.{◌≡◌, List, [], ◌∷◌, ◌++◌, ap, append-nil, refl, sym, ◌∙◌}
use Rattle.std.specs.List.{IsLastAndRest}
use Rattle.omega_hoa_expression.specs.Joins.{regrouped}
use Rattle.omega_hoa_expression.specs.Texts.{top_text}
use Rattle.omega_hoa_expression.specs.Writing.{Text}
use Rattle.omega_hoa_acceptance.specs.Acceptance.{AccTree}
use Rattle.omega_hoa_acceptance.specs.Acceptance as acc
use Rattle.omega_hoa_acceptance.specs.Writing.{acc_text}
use Rattle.omega_hoa_acceptance.specs.private.layout.Acceptance.{acc_postfix}
use Rattle.omega_hoa_acceptance.specs.private.layout.Texts.{acc_texts_after}
use Rattle.omega_hoa_acceptance.specs.declared.formula.AccNode.{AccNode}
use Rattle.omega_hoa_acceptance.specs.declared.formula.AccNode.TheVariants as node

acc_texts_after-postfix : (tree : AccTree) (stack : List Text) (rest : List AccNode) → acc_texts_after stack (acc_postfix tree ++ rest) ≡ acc_texts_after (acc_text tree ∷ stack) rest
acc_texts_after-postfix (acc.constant value) stack rest = refl
acc_texts_after-postfix (acc.inf negated set) stack rest = refl
acc_texts_after-postfix (acc.fin negated set) stack rest = refl
acc_texts_after-postfix (acc.conjunction left right) stack rest =
    ap (acc_texts_after stack) (regrouped (acc_postfix left) (acc_postfix right) node.And rest)
    ∙ (acc_texts_after-postfix left stack (acc_postfix right ++ node.And ∷ rest) ∙ acc_texts_after-postfix right (acc_text left ∷ stack) (node.And ∷ rest))
acc_texts_after-postfix (acc.disjunction left right) stack rest =
    ap (acc_texts_after stack) (regrouped (acc_postfix left) (acc_postfix right) node.Or rest)
    ∙ (acc_texts_after-postfix left stack (acc_postfix right ++ node.Or ∷ rest) ∙ acc_texts_after-postfix right (acc_text left ∷ stack) (node.Or ∷ rest))

-- a formula's nodes alone leave its text alone
texts_after-formula : (tree : AccTree) → acc_texts_after [] (acc_postfix tree) ≡ acc_text tree ∷ []
texts_after-formula tree = ap (acc_texts_after []) (sym (append-nil (acc_postfix tree))) ∙ acc_texts_after-postfix tree [] []

acc_texts_after-append : (front : List AccNode) (stack : List Text) (rest : List AccNode) → acc_texts_after stack (front ++ rest) ≡ acc_texts_after (acc_texts_after stack front) rest
acc_texts_after-append [] stack rest = refl
acc_texts_after-append (node.Constant value ∷ front) stack rest = acc_texts_after-append front _ rest
acc_texts_after-append (node.Inf negated set ∷ front) stack rest = acc_texts_after-append front _ rest
acc_texts_after-append (node.Fin negated set ∷ front) stack rest = acc_texts_after-append front _ rest
acc_texts_after-append (node.And ∷ front) stack rest = acc_texts_after-append front _ rest
acc_texts_after-append (node.Or ∷ front) stack rest = acc_texts_after-append front _ rest

pub acc_texts-last : (nodes before : List AccNode) (last shape : AccNode) → IsLastAndRest nodes last before → last ≡ shape
    → acc_texts_after (acc_texts_after [] before) (shape ∷ []) ≡ acc_texts_after [] nodes
acc_texts-last nodes before last shape is same =
    sym (ap (acc_texts_after []) (is.0 ∙ ap (λ node. before ++ node ∷ []) same) ∙ acc_texts_after-append before [] (shape ∷ []))

-- the text on top is the formula's, where the nodes are the formula's
pub top_of-formula : (formula : AccTree) (nodes : List AccNode) → nodes ≡ acc_postfix formula → top_text (acc_texts_after [] nodes) ≡ acc_text formula
top_of-formula formula nodes is = ap (λ nodes. top_text (acc_texts_after [] nodes)) is ∙ ap top_text (texts_after-formula formula)
