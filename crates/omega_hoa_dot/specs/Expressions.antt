-- The text of a label in a drawing: the names of the propositions are in place of their numbers.
use Rattle.std.specs.Prelude.{ℕ, nat_le, nat_lt, List, ◌++◌, codes}
use Rattle.omega_hoa_label.specs.Label.{LabelTree, conjunction, constant, disjunction, negation, proposition}
use Rattle.omega_hoa_expression.specs.Writing.{bracketed, truth_text}
use Rattle.omega_hoa_label.specs.Writing.{label_text}
use Rattle.omega_hoa_dot.specs.Names.{drawn_name, name_at}

-- a label with names, with the parentheses of its canonical text, and with spaces about `&` and `|`
abbrev pub named_text : List (List ℕ) → LabelTree → List ℕ
named_text names (constant value) = truth_text value
named_text names (proposition number) = drawn_name (name_at names number)
named_text names (negation part) =
    codes "!" ++ bracketed (nat_lt (label_text part).rank 3) (named_text names part)
named_text names (conjunction left right) =
    bracketed (nat_lt (label_text left).rank 2) (named_text names left) ++ (codes " & "
    ++ bracketed (nat_le (label_text right).rank 2) (named_text names right))
named_text names (disjunction left right) =
    bracketed (nat_lt (label_text left).rank 1) (named_text names left) ++ (codes " | "
    ++ bracketed (nat_le (label_text right).rank 1) (named_text names right))
