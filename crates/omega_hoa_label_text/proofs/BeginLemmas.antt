-- With which tokens labels begin: what is pending, and a part of what is still to come, are completed.
use Rattle.std.proofs.Common.{◌≡◌, ℕ, suc, true, List, [], ◌∷◌, ◌++◌, map, ap, append-nil, append_assoc, sym, ◌∙◌}
use Rattle.std.proofs.lemmas.List.{map-append}
use Rattle.omega_hoa_label.specs.Raw.{RawLabelTree, alias, conjunction, constant, disjunction, group, negation, proposition}
use Rattle.omega_hoa_label_text.specs.Reading.{BeginsLabel, IsOf, label_symbols}
use Rattle.omega_hoa_label_text.specs.private.Building.{Before, FitsAfter, IsOpenBefore, anded, before_symbols, denied, opened, ored, start}
use Rattle.omega_hoa_expression.specs.Symbols.{Rank, conjunctive, disjunctive, expression_symbol_of, sign, unary}
use Rattle.omega_hoa_expression.proofs.ClosingLemmas.{closed_list, closers, closing, closing_spelled, operated_list, plain}
use Rattle.omega_text.specs.Lexeme.{Lexeme}
use Rattle.omega_text.specs.declared.hoa.kind.HoaKind.{HoaKind}
use Rattle.omega_text.specs.declared.hoa.kind.HoaKind.TheVariants as kind

-- a unary part may stand anywhere
pub fits_unary : (before : Before) → FitsAfter unary before
fits_unary start = tt
fits_unary (opened before) = tt
fits_unary (denied before) = tt
fits_unary (anded before left) = tt
fits_unary (ored before left) = tt

-- a unary part is an and-expression, and an and-expression an or-expression
pub unary_is : (tree : RawLabelTree) (rank : Rank) → IsOf unary tree → IsOf rank tree
unary_is (constant value) rank is = tt
unary_is (proposition value) rank is = tt
unary_is (alias text) rank is = tt
unary_is (negation part) rank is = is
unary_is (group part) rank is = is
unary_is (conjunction left right) rank is = absurd is.0
unary_is (disjunction left right) rank is = absurd is.0

pub conjunctive_is : (tree : RawLabelTree) → IsOf conjunctive tree → IsOf disjunctive tree
conjunctive_is (constant value) is = tt
conjunctive_is (proposition value) is = tt
conjunctive_is (alias text) is = tt
conjunctive_is (negation part) is = is
conjunctive_is (group part) is = is
conjunctive_is (conjunction left right) is = is
conjunctive_is (disjunction left right) is = absurd is.0

-- how many parentheses are open
abbrev pub opens : Before → ℕ
opens start = 0
opens (opened before) = suc (opens before)
opens (denied before) = opens before
opens (anded before left) = opens before
opens (ored before left) = opens before

-- a label whose last part is this one, with nothing open
abbrev finished : Before → RawLabelTree → RawLabelTree
finished start part = part
finished (opened before) part = finished before (group part)
finished (denied before) part = finished before (negation part)
finished (anded before left) part = finished before (conjunction left part)
finished (ored before left) part = finished before (disjunction left part)

-- its symbols
finished_spelled : (before : Before) (part : RawLabelTree) → label_symbols (finished before part) ≡ before_symbols before ++ (label_symbols part ++ closers (opens before))
finished_spelled start part = sym (append-nil (label_symbols part))
finished_spelled (opened before) part =
    finished_spelled before (group part)
    ∙ closed_list (before_symbols before) (label_symbols part) (closers (opens before)) (sign kind.OpenParenthesis) (sign kind.CloseParenthesis)
finished_spelled (denied before) part =
    finished_spelled before (negation part) ∙ sym (append_assoc (before_symbols before) (sign kind.Not ∷ []) (label_symbols part ++ closers (opens before)))
finished_spelled (anded before left) part =
    finished_spelled before (conjunction left part) ∙ operated_list (before_symbols before) (label_symbols left) (label_symbols part) (closers (opens before)) (sign kind.And)
finished_spelled (ored before left) part =
    finished_spelled before (disjunction left part) ∙ operated_list (before_symbols before) (label_symbols left) (label_symbols part) (closers (opens before)) (sign kind.Or)

-- each part is an or-expression
any_is : (rank : Rank) (part : RawLabelTree) → IsOf rank part → IsOf disjunctive part
any_is unary part is = unary_is part disjunctive is
any_is conjunctive part is = conjunctive_is part is
any_is disjunctive part is = is

-- it is of the case that is wanted
finished_is : (before : Before) (rank : Rank) (part : RawLabelTree) → IsOf rank part → FitsAfter rank before → IsOpenBefore before → IsOf disjunctive (finished before part)
finished_is start rank part is fits sound = any_is rank part is
finished_is (opened before) rank part is fits sound = finished_is before unary (group part) (any_is rank part is) (fits_unary before) sound
finished_is (denied before) unary part is fits sound = finished_is before unary (negation part) is (fits_unary before) sound
finished_is (denied before) conjunctive part is fits sound = absurd fits
finished_is (denied before) disjunctive part is fits sound = absurd fits
finished_is (anded before left) unary part is fits sound = finished_is before conjunctive (conjunction left part) (tt, (sound.0, is)) sound.1.0 sound.1.1
finished_is (anded before left) conjunctive part is fits sound = absurd fits
finished_is (anded before left) disjunctive part is fits sound = absurd fits
finished_is (ored before left) unary part is fits sound = finished_is before disjunctive (disjunction left part) (tt, (sound.0, unary_is part conjunctive is)) sound.1.0 sound.1.1
finished_is (ored before left) conjunctive part is fits sound = finished_is before disjunctive (disjunction left part) (tt, (sound.0, is)) sound.1.0 sound.1.1
finished_is (ored before left) disjunctive part is fits sound = absurd fits

-- tokens that are such a label begin one
begun_with : (before : Before) (rank : Rank) (part : RawLabelTree) (front more : List (Lexeme HoaKind)) → IsOf rank part → FitsAfter rank before → IsOpenBefore before
    → map expression_symbol_of (front ++ more) ≡ before_symbols before ++ (label_symbols part ++ closers (opens before)) → BeginsLabel front
begun_with before rank part front more is fits sound spells = (
  more,
  finished before part,
  record {
    front = front ++ more;
    split = sym (append-nil (front ++ more));
    spells = spells ∙ sym (finished_spelled before part);
    is = finished_is before rank part is fits sound;
    ends = tt;
  },
)

-- where a part is wanted, a label begins with what is before it
pub begun_wanted : (before : Before) (front : List (Lexeme HoaKind)) → IsOpenBefore before → map expression_symbol_of front ≡ before_symbols before → BeginsLabel front
begun_wanted before front sound spells =
    begun_with before unary (constant true) front (plain kind.True ∷ closing (opens before)) tt (fits_unary before) sound
    (map-append expression_symbol_of front (plain kind.True ∷ closing (opens before))
    ∙ (ap (λ symbols. symbols ++ map expression_symbol_of (plain kind.True ∷ closing (opens before))) spells
    ∙ ap (λ symbols. before_symbols before ++ sign kind.True ∷ symbols) (closing_spelled (opens before))))

-- where a part has been read, a label begins with what is up to its end
pub begun_had : (before : Before) (rank : Rank) (part : RawLabelTree) (front : List (Lexeme HoaKind)) → IsOf rank part → FitsAfter rank before → IsOpenBefore before
    → map expression_symbol_of front ≡ before_symbols before ++ label_symbols part → BeginsLabel front
begun_had before rank part front is fits sound spells =
    begun_with before rank part front (closing (opens before)) is fits sound
    (map-append expression_symbol_of front (closing (opens before))
    ∙ (ap (λ symbols. symbols ++ map expression_symbol_of (closing (opens before))) spells
    ∙ (ap (λ symbols. (before_symbols before ++ label_symbols part) ++ symbols) (closing_spelled (opens before)) ∙ append_assoc (before_symbols before) (label_symbols part) (closers (opens before)))))
