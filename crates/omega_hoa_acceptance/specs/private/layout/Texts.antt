-- The texts that the nodes of a formula leave.
use Rattle.std.specs.Prelude.{List, [], ◌∷◌, ◌++◌, codes}
use Rattle.omega_hoa_expression.specs.Texts.{texts_below, top_text}
use Rattle.omega_hoa_expression.specs.Writing.{Text, atom_text, joined_text, set_text, truth_text}
use Rattle.omega_hoa_acceptance.specs.declared.formula.AccNode.{AccNode}
use Rattle.omega_hoa_acceptance.specs.declared.formula.AccNode.TheVariants as acc

-- the texts that a formula's nodes leave of those before them
abbrev pub acc_texts_after : List Text → List AccNode → List Text
acc_texts_after stack [] = stack
acc_texts_after stack (acc.Constant value ∷ nodes) =
    acc_texts_after (atom_text (truth_text value) ∷ stack) nodes
acc_texts_after stack (acc.Inf negated set ∷ nodes) =
    acc_texts_after (atom_text (codes "Inf" ++ set_text negated set) ∷ stack) nodes
acc_texts_after stack (acc.Fin negated set ∷ nodes) =
    acc_texts_after (atom_text (codes "Fin" ++ set_text negated set) ∷ stack) nodes
acc_texts_after stack (acc.And ∷ nodes) =
    acc_texts_after (joined_text 2 38 (top_text (texts_below stack)) (top_text stack)
    ∷ texts_below (texts_below stack)) nodes
acc_texts_after stack (acc.Or ∷ nodes) =
    acc_texts_after (joined_text 1 124 (top_text (texts_below stack)) (top_text stack)
    ∷ texts_below (texts_below stack)) nodes
