-- How acceptance formulas are written (docs/formats.md, labels and acceptance formulas): their canonical texts, and the
-- formulas that these texts are.
use Rattle.std.specs.Prelude.{◌≤◌, Bool, nat_le, nat_lt, if◌then◌else◌, ◌++◌, codes}
use Rattle.omega_text.specs.Limits.{most_number}
use Rattle.omega_hoa_expression.specs.Writing.{Text, atom_text, joined_text, set_text, truth_text}
use Rattle.omega_hoa_acceptance.specs.Acceptance.{AccTree}
use Rattle.omega_hoa_acceptance.specs.Acceptance as acc
use Rattle.omega_hoa_acceptance.specs.Raw.{RawAccTree}
use Rattle.omega_hoa_acceptance.specs.Raw as raw_acc

-- the text of an acceptance formula
abbrev pub acc_text : AccTree → Text
acc_text (acc.constant value) = atom_text (truth_text value)
acc_text (acc.inf negated set) = atom_text (codes "Inf" ++ set_text negated set)
acc_text (acc.fin negated set) = atom_text (codes "Fin" ++ set_text negated set)
acc_text (acc.conjunction left right) = joined_text 2 38 (acc_text left) (acc_text right)
acc_text (acc.disjunction left right) = joined_text 1 124 (acc_text left) (acc_text right)

-- a formula in parentheses or not
abbrev pub acc_grouped : Bool → RawAccTree → RawAccTree
acc_grouped within formula = if within then raw_acc.group formula else formula

-- the formula as its canonical text has it, with parentheses only if an operator needs them
abbrev pub acc_written : AccTree → RawAccTree
acc_written (acc.constant value) = raw_acc.constant value
acc_written (acc.inf negated set) = raw_acc.atom (codes "Inf") negated set
acc_written (acc.fin negated set) = raw_acc.atom (codes "Fin") negated set
acc_written (acc.conjunction left right) =
    raw_acc.conjunction (acc_grouped (nat_lt (acc_text left).rank 2) (acc_written left))
    (acc_grouped (nat_le (acc_text right).rank 2) (acc_written right))
acc_written (acc.disjunction left right) =
    raw_acc.disjunction (acc_grouped (nat_lt (acc_text left).rank 1) (acc_written left))
    (acc_grouped (nat_le (acc_text right).rank 1) (acc_written right))

-- no set of a formula is above the greatest number of a text
abbrev pub SetsFit : AccTree → Type 0
SetsFit (acc.constant value) = Unit {0}
SetsFit (acc.inf negated set) = set ≤ most_number
SetsFit (acc.fin negated set) = set ≤ most_number
SetsFit (acc.conjunction left right) = SetsFit left × SetsFit right
SetsFit (acc.disjunction left right) = SetsFit left × SetsFit right
