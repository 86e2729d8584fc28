-- A label made from its last node to its first is the one as a text writes it.
use Rattle.std.proofs.Common.{◌≡◌, ℕ, Bool, true, false, nat_lt, nat_le, List, [], ◌∷◌, ◌++◌, append-nil, append_assoc, ap, refl, sym, ◌∙◌}
use Rattle.std.specs.List.{IsLastAndRest}
use Rattle.omega_hoa_expression.specs.Joins.{regrouped}
use Rattle.omega_hoa_label.specs.Label.{LabelTree, conjunction, constant, disjunction, negation, proposition}
use Rattle.omega_hoa_label.specs.Postfix.{postfix, alias_names, raw_postfix}
use Rattle.omega_hoa_label.specs.Raw.{RawLabelTree}
use Rattle.omega_hoa_label.specs.Writing.{grouped, label_text, label_written}
use Rattle.omega_hoa_label.specs.private.layout.Parts.{Part, nodes_before, part_of, part_with, parts_after, within, within_rank}
use Rattle.omega_hoa_label.specs.declared.label.LabelNode.{LabelNode}
use Rattle.omega_hoa_label.specs.declared.label.LabelNode.TheVariants.{And, Not, Or}

-- ---- the parts of a label

-- the nodes of a label in parentheses or not
within-grouped : (parentheses : Bool) (part : RawLabelTree) → raw_postfix (grouped parentheses part) ≡ within parentheses (raw_postfix part)
within-grouped true part = refl
within-grouped false part = refl

-- the right part of `&` is to bind more tightly than it
above-and : (tree : LabelTree) → nat_le (label_text tree).rank 2 ≡ nat_lt (label_text tree).rank 3
above-and (constant value) = refl
above-and (proposition number) = refl
above-and (negation part) = refl
above-and (conjunction left right) = refl
above-and (disjunction left right) = refl

-- and that of `|` than it
above-or : (tree : LabelTree) → nat_le (label_text tree).rank 1 ≡ nat_lt (label_text tree).rank 2
above-or (constant value) = refl
above-or (proposition number) = refl
above-or (negation part) = refl
above-or (conjunction left right) = refl
above-or (disjunction left right) = refl

-- the nodes of a part under an operator
part-within : (tree : LabelTree) (test : Bool) (wanted : ℕ) → test ≡ nat_lt (label_text tree).rank wanted
    → raw_postfix (grouped test (label_written tree)) ≡ within_rank wanted (part_of tree)
part-within tree test wanted is =
    within-grouped test (label_written tree) ∙ ap (λ parentheses. within parentheses (raw_postfix (label_written tree))) is

-- two parts and their operator are a part
part-joined : (left right one other : List LabelNode) (rank : ℕ) (operator : LabelNode) (parts : List Part) (rest : List LabelNode)
    → one ≡ left → other ≡ right
    → parts_after (record { rank = rank; nodes = left ++ (right ++ operator ∷ []) } ∷ parts) rest
    ≡ parts_after (record { rank = rank; nodes = one ++ (other ++ operator ∷ []) } ∷ parts) rest
part-joined left right one other rank operator parts rest is_left is_right =
    ap (λ (front : List LabelNode). parts_after (record { rank = rank; nodes = front ++ (right ++ operator ∷ []) } ∷ parts) rest) (sym is_left)
    ∙ ap (λ (back : List LabelNode). parts_after (record { rank = rank; nodes = one ++ (back ++ operator ∷ []) } ∷ parts) rest) (sym is_right)

-- a label's nodes leave the part that it is
parts-postfix : (tree : LabelTree) (parts : List Part) (rest : List LabelNode)
    → parts_after parts (postfix tree ++ rest) ≡ parts_after (part_of tree ∷ parts) rest
parts-postfix (constant value) parts rest = refl
parts-postfix (proposition number) parts rest = refl
parts-postfix (negation part) parts rest =
    ap (parts_after parts) (append_assoc (postfix part) (Not ∷ []) rest)
    ∙ (parts-postfix part parts (Not ∷ rest)
    ∙ ap (λ (nodes : List LabelNode). parts_after (record { rank = 3; nodes = nodes ++ Not ∷ [] } ∷ parts) rest)
    (sym (part-within part (nat_lt (label_text part).rank 3) 3 refl)))
parts-postfix (conjunction left right) parts rest =
    ap (parts_after parts) (regrouped (postfix left) (postfix right) And rest)
    ∙ (parts-postfix left parts (postfix right ++ And ∷ rest)
    ∙ (parts-postfix right (part_of left ∷ parts) (And ∷ rest)
    ∙ part-joined _ _ _ _ 2 And parts rest (part-within left (nat_lt (label_text left).rank 2) 2 refl) (part-within right (nat_le (label_text right).rank 2) 3 (above-and right))))
parts-postfix (disjunction left right) parts rest =
    ap (parts_after parts) (regrouped (postfix left) (postfix right) Or rest)
    ∙ (parts-postfix left parts (postfix right ++ Or ∷ rest)
    ∙ (parts-postfix right (part_of left ∷ parts) (Or ∷ rest)
    ∙ part-joined _ _ _ _ 1 Or parts rest (part-within left (nat_lt (label_text left).rank 1) 1 refl) (part-within right (nat_le (label_text right).rank 1) 2 (above-or right))))

-- no part is to be in parentheses alone
alone-bare : (tree : LabelTree) → within_rank 0 (part_of tree) ≡ raw_postfix (label_written tree)
alone-bare (constant value) = refl
alone-bare (proposition number) = refl
alone-bare (negation part) = refl
alone-bare (conjunction left right) = refl
alone-bare (disjunction left right) = refl

-- all nodes of a label, made so, are those of the label as it is written
pub whole-written : (tree : LabelTree) (nodes : List LabelNode) → nodes ≡ postfix tree
    → nodes_before [] (parts_after [] nodes) ≡ raw_postfix (label_written tree)
whole-written tree nodes flat =
    ap (λ all. nodes_before [] (parts_after [] all)) (flat ∙ sym (append-nil (postfix tree)))
    ∙ (ap (nodes_before []) (parts-postfix tree [] []) ∙ alone-bare tree)

-- parentheses have no alias
names-grouped : (parentheses : Bool) (part : RawLabelTree) → alias_names (grouped parentheses part) ≡ alias_names part
names-grouped true part = refl
names-grouped false part = refl

-- two parts without aliases
names-joined : (one other : List ℕ) → one ≡ [] → other ≡ [] → one ++ other ≡ []
names-joined one other none no_other = ap (λ names. names ++ other) none ∙ no_other

-- a label as it is written has no alias
pub names-written : (tree : LabelTree) → alias_names (label_written tree) ≡ []
names-written (constant value) = refl
names-written (proposition number) = refl
names-written (negation part) = names-grouped (nat_lt (label_text part).rank 3) (label_written part) ∙ names-written part
names-written (conjunction left right) =
    names-joined _ _ (names-grouped (nat_lt (label_text left).rank 2) (label_written left) ∙ names-written left)
    (names-grouped (nat_le (label_text right).rank 2) (label_written right) ∙ names-written right)
names-written (disjunction left right) =
    names-joined _ _ (names-grouped (nat_lt (label_text left).rank 1) (label_written left) ∙ names-written left)
    (names-grouped (nat_le (label_text right).rank 1) (label_written right) ∙ names-written right)

-- what the last node makes of the parts of those before it
parts-append : (front : List LabelNode) (parts : List Part) (rest : List LabelNode)
    → parts_after parts (front ++ rest) ≡ parts_after (parts_after parts front) rest
parts-append [] parts rest = refl
parts-append (node ∷ front) parts rest = parts-append front (part_with parts node) rest

pub parts-last : (nodes before : List LabelNode) (last : LabelNode) → IsLastAndRest nodes last before
    → part_with (parts_after [] before) last ≡ parts_after [] nodes
parts-last nodes before last is = sym (ap (parts_after []) is.0 ∙ parts-append before [] (last ∷ []))
