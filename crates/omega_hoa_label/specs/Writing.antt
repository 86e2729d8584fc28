-- How labels are written (docs/formats.md, labels and acceptance formulas): their canonical texts, and the labels that
-- these texts are.
use Rattle.std.specs.Prelude.{◌≤◌, Bool, nat_le, nat_lt, if◌then◌else◌, decimal}
use Rattle.omega_text.specs.Limits.{most_number}
use Rattle.omega_hoa_expression.specs.Writing.{Text, atom_text, joined_text, negated_text, truth_text}
use Rattle.omega_hoa_label.specs.Label.{LabelTree, conjunction, constant, disjunction, negation, proposition}
use Rattle.omega_hoa_label.specs.Raw.{RawLabelTree}
use Rattle.omega_hoa_label.specs.Raw as raw

-- the text of a label
abbrev pub label_text : LabelTree → Text
label_text (constant value) = atom_text (truth_text value)
label_text (proposition number) = atom_text (decimal number)
label_text (negation part) = negated_text (label_text part)
label_text (conjunction left right) = joined_text 2 38 (label_text left) (label_text right)
label_text (disjunction left right) = joined_text 1 124 (label_text left) (label_text right)

-- a label in parentheses or not
abbrev pub grouped : Bool → RawLabelTree → RawLabelTree
grouped within label = if within then raw.group label else label

-- the label as its canonical text has it, with parentheses only if an operator needs them
abbrev pub label_written : LabelTree → RawLabelTree
label_written (constant value) = raw.constant value
label_written (proposition number) = raw.proposition number
label_written (negation part) =
    raw.negation (grouped (nat_lt (label_text part).rank 3) (label_written part))
label_written (conjunction left right) =
    raw.conjunction (grouped (nat_lt (label_text left).rank 2) (label_written left))
    (grouped (nat_le (label_text right).rank 2) (label_written right))
label_written (disjunction left right) =
    raw.disjunction (grouped (nat_lt (label_text left).rank 1) (label_written left))
    (grouped (nat_le (label_text right).rank 1) (label_written right))

-- no proposition of a label is above the greatest number of a text
abbrev pub NumbersFit : LabelTree → Type 0
NumbersFit (constant value) = Unit {0}
NumbersFit (proposition number) = number ≤ most_number
NumbersFit (negation part) = NumbersFit part
NumbersFit (conjunction left right) = NumbersFit left × NumbersFit right
NumbersFit (disjunction left right) = NumbersFit left × NumbersFit right
