-- The texts that the nodes of a label leave.
use Rattle.std.specs.Prelude.{List, [], ◌∷◌, decimal}
use Rattle.omega_hoa_expression.specs.Texts.{texts_below, top_text}
use Rattle.omega_hoa_expression.specs.Writing.{Text, atom_text, joined_text, negated_text, truth_text}
use Rattle.omega_hoa_label.specs.declared.label.LabelNode.{LabelNode}
use Rattle.omega_hoa_label.specs.declared.label.LabelNode.TheVariants.{Alias, And, Constant, Group}
use Rattle.omega_hoa_label.specs.declared.label.LabelNode.TheVariants.{Not, Or, Proposition}

-- the texts that a label's nodes leave of those before them
abbrev pub texts_after : List Text → List LabelNode → List Text
texts_after stack [] = stack
texts_after stack (Constant value ∷ nodes) = texts_after (atom_text (truth_text value) ∷ stack) nodes
texts_after stack (Proposition number ∷ nodes) =
    texts_after (atom_text (decimal number) ∷ stack) nodes
texts_after stack (Not ∷ nodes) =
    texts_after (negated_text (top_text stack) ∷ texts_below stack) nodes
texts_after stack (And ∷ nodes) =
    texts_after (joined_text 2 38 (top_text (texts_below stack)) (top_text stack)
    ∷ texts_below (texts_below stack)) nodes
texts_after stack (Or ∷ nodes) =
    texts_after (joined_text 1 124 (top_text (texts_below stack)) (top_text stack)
    ∷ texts_below (texts_below stack)) nodes
texts_after stack (Alias count ∷ nodes) = texts_after stack nodes
texts_after stack (Group ∷ nodes) = texts_after stack nodes
