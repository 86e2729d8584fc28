-- The text that nodes make is that of their tree.
use Rattle.std.proofs.Common.{◌≡◌, List, [], ◌∷◌, ◌++◌, ap, append-nil, append_assoc, refl, sym, ◌∙◌}
use Rattle.std.specs.List.{IsLastAndRest}
use Rattle.omega_hoa_expression.specs.Joins.{regrouped}
use Rattle.omega_hoa_expression.specs.Writing.{Text}
use Rattle.omega_hoa_label.specs.Label.{LabelTree, conjunction, constant, disjunction, negation, proposition}
use Rattle.omega_hoa_label.specs.Postfix.{postfix}
use Rattle.omega_hoa_label.specs.Writing.{label_text}
use Rattle.omega_hoa_label.specs.private.layout.Texts.{texts_after}
use Rattle.omega_hoa_label.specs.declared.label.LabelNode.{LabelNode}
use Rattle.omega_hoa_label.specs.declared.label.LabelNode.TheVariants.{Alias, And, Constant, Group, Not, Or, Proposition}

texts_after-postfix : (tree : LabelTree) (stack : List Text) (rest : List LabelNode) → texts_after stack (postfix tree ++ rest) ≡ texts_after (label_text tree ∷ stack) rest
texts_after-postfix (constant value) stack rest = refl
texts_after-postfix (proposition number) stack rest = refl
texts_after-postfix (negation part) stack rest =
    ap (texts_after stack) (append_assoc (postfix part) (Not ∷ []) rest) ∙ texts_after-postfix part stack (Not ∷ rest)
texts_after-postfix (conjunction left right) stack rest =
    ap (texts_after stack) (regrouped (postfix left) (postfix right) And rest)
    ∙ (texts_after-postfix left stack (postfix right ++ And ∷ rest) ∙ texts_after-postfix right (label_text left ∷ stack) (And ∷ rest))
texts_after-postfix (disjunction left right) stack rest =
    ap (texts_after stack) (regrouped (postfix left) (postfix right) Or rest)
    ∙ (texts_after-postfix left stack (postfix right ++ Or ∷ rest) ∙ texts_after-postfix right (label_text left ∷ stack) (Or ∷ rest))

-- a label's nodes alone leave its text alone
pub texts_after-label : (tree : LabelTree) → texts_after [] (postfix tree) ≡ label_text tree ∷ []
texts_after-label tree = ap (texts_after []) (sym (append-nil (postfix tree))) ∙ texts_after-postfix tree [] []

-- what the last node makes of the texts of those before it
texts_after-append : (front : List LabelNode) (stack : List Text) (rest : List LabelNode) → texts_after stack (front ++ rest) ≡ texts_after (texts_after stack front) rest
texts_after-append [] stack rest = refl
texts_after-append (Constant value ∷ front) stack rest = texts_after-append front _ rest
texts_after-append (Proposition number ∷ front) stack rest = texts_after-append front _ rest
texts_after-append (Not ∷ front) stack rest = texts_after-append front _ rest
texts_after-append (And ∷ front) stack rest = texts_after-append front _ rest
texts_after-append (Or ∷ front) stack rest = texts_after-append front _ rest
texts_after-append (Alias count ∷ front) stack rest = texts_after-append front stack rest
texts_after-append (Group ∷ front) stack rest = texts_after-append front stack rest

pub texts-last : (nodes before : List LabelNode) (last shape : LabelNode) → IsLastAndRest nodes last before → last ≡ shape
    → texts_after (texts_after [] before) (shape ∷ []) ≡ texts_after [] nodes
texts-last nodes before last shape is same =
    sym (ap (texts_after []) (is.0 ∙ ap (λ node. before ++ node ∷ []) same) ∙ texts_after-append before [] (shape ∷ []))
