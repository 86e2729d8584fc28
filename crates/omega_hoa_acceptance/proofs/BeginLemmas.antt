-- With which tokens acceptance formulas begin: what is pending, and a part of what is still to come, are completed.
use Rattle.std.proofs.Common.{◌≡◌, ℕ, suc, true, false, List, [], ◌∷◌, ◌++◌, map, ap, append-nil, append_assoc, refl, sym, ◌∙◌}
use Rattle.std.proofs.lemmas.List.{map-append}
use Rattle.omega_hoa_acceptance.specs.Raw.{RawAccTree, atom, conjunction, constant, disjunction, group}
use Rattle.omega_hoa_acceptance.specs.Reading.{BeginsAcc, IsAccOf, formula_symbols}
use Rattle.omega_hoa_acceptance.specs.private.layout.Building.{Before, FitsAfter, IsOpenBefore, anded, before_symbols, opened, ored, start}
use Rattle.omega_hoa_acceptance.specs.private.layout.States.{BeginsSet, set_symbols}
use Rattle.omega_hoa_expression.specs.Symbols.{ExpressionSymbol, Rank, conjunctive, disjunctive, expression_symbol_of, number, sign, unary, word}
use Rattle.omega_hoa_expression.proofs.ClosingLemmas.{closed_list, closers, closing, closing_spelled, operated_list, plain}
use Rattle.omega_text.specs.Lexeme.{Lexeme}
use Rattle.omega_text.specs.declared.hoa.kind.HoaKind.{HoaKind}
use Rattle.omega_text.specs.declared.hoa.kind.HoaKind.TheVariants as kind

-- a unary part may stand anywhere
pub fits_unary : (before : Before) → FitsAfter unary before
fits_unary start = tt
fits_unary (opened before) = tt
fits_unary (anded before left) = tt
fits_unary (ored before left) = tt

-- a unary part is an and-expression, and an and-expression an or-expression
pub unary_is : (tree : RawAccTree) (rank : Rank) → IsAccOf unary tree → IsAccOf rank tree
unary_is (constant value) rank is = tt
unary_is (atom name negated set) rank is = tt
unary_is (group part) rank is = is
unary_is (conjunction left right) rank is = absurd is.0
unary_is (disjunction left right) rank is = absurd is.0

pub conjunctive_is : (tree : RawAccTree) → IsAccOf conjunctive tree → IsAccOf disjunctive tree
conjunctive_is (constant value) is = tt
conjunctive_is (atom name negated set) is = tt
conjunctive_is (group part) is = is
conjunctive_is (conjunction left right) is = is
conjunctive_is (disjunction left right) is = absurd is.0

-- how many parentheses are open
abbrev pub opens : Before → ℕ
opens start = 0
opens (opened before) = suc (opens before)
opens (anded before left) = opens before
opens (ored before left) = opens before

-- a formula whose last part is this one, with nothing open
abbrev finished : Before → RawAccTree → RawAccTree
finished start part = part
finished (opened before) part = finished before (group part)
finished (anded before left) part = finished before (conjunction left part)
finished (ored before left) part = finished before (disjunction left part)

-- its symbols
finished_spelled : (before : Before) (part : RawAccTree) → formula_symbols (finished before part) ≡ before_symbols before ++ (formula_symbols part ++ closers (opens before))
finished_spelled start part = sym (append-nil (formula_symbols part))
finished_spelled (opened before) part =
    finished_spelled before (group part)
    ∙ closed_list (before_symbols before) (formula_symbols part) (closers (opens before)) (sign kind.OpenParenthesis) (sign kind.CloseParenthesis)
finished_spelled (anded before left) part =
    finished_spelled before (conjunction left part) ∙ operated_list (before_symbols before) (formula_symbols left) (formula_symbols part) (closers (opens before)) (sign kind.And)
finished_spelled (ored before left) part =
    finished_spelled before (disjunction left part) ∙ operated_list (before_symbols before) (formula_symbols left) (formula_symbols part) (closers (opens before)) (sign kind.Or)

-- each part is an or-expression
any_is : (rank : Rank) (part : RawAccTree) → IsAccOf rank part → IsAccOf disjunctive part
any_is unary part is = unary_is part disjunctive is
any_is conjunctive part is = conjunctive_is part is
any_is disjunctive part is = is

-- it is of the case that is wanted
finished_is : (before : Before) (rank : Rank) (part : RawAccTree) → IsAccOf rank part → FitsAfter rank before → IsOpenBefore before → IsAccOf disjunctive (finished before part)
finished_is start rank part is fits sound = any_is rank part is
finished_is (opened before) rank part is fits sound = finished_is before unary (group part) (any_is rank part is) (fits_unary before) sound
finished_is (anded before left) unary part is fits sound = finished_is before conjunctive (conjunction left part) (tt, (sound.0, is)) sound.1.0 sound.1.1
finished_is (anded before left) conjunctive part is fits sound = absurd fits
finished_is (anded before left) disjunctive part is fits sound = absurd fits
finished_is (ored before left) unary part is fits sound = finished_is before disjunctive (disjunction left part) (tt, (sound.0, unary_is part conjunctive is)) sound.1.0 sound.1.1
finished_is (ored before left) conjunctive part is fits sound = finished_is before disjunctive (disjunction left part) (tt, (sound.0, is)) sound.1.0 sound.1.1
finished_is (ored before left) disjunctive part is fits sound = absurd fits

-- tokens that are such a formula begin one
begun_with : (before : Before) (rank : Rank) (part : RawAccTree) (front more : List (Lexeme HoaKind)) → IsAccOf rank part → FitsAfter rank before → IsOpenBefore before
    → map expression_symbol_of (front ++ more) ≡ before_symbols before ++ (formula_symbols part ++ closers (opens before)) → BeginsAcc front
begun_with before rank part front more is fits sound spells = (
  more,
  finished before part,
  record {
    front = front ++ more;
    split = sym (append-nil (front ++ more));
    spells = spells ∙ sym (finished_spelled before part);
    is = finished_is before rank part is fits sound;
    ends = tt;
  },
)

-- where a part is wanted, a formula begins with what is before it
pub begun_wanted : (before : Before) (front : List (Lexeme HoaKind)) → IsOpenBefore before → map expression_symbol_of front ≡ before_symbols before → BeginsAcc front
begun_wanted before front sound spells =
    begun_with before unary (constant true) front (plain kind.True ∷ closing (opens before)) tt (fits_unary before) sound
    (map-append expression_symbol_of front (plain kind.True ∷ closing (opens before))
    ∙ (ap (λ symbols. symbols ++ map expression_symbol_of (plain kind.True ∷ closing (opens before))) spells
    ∙ ap (λ symbols. before_symbols before ++ sign kind.True ∷ symbols) (closing_spelled (opens before))))

-- where a part has been read, a formula begins with what is up to its end
pub begun_had : (before : Before) (rank : Rank) (part : RawAccTree) (front : List (Lexeme HoaKind)) → IsAccOf rank part → FitsAfter rank before → IsOpenBefore before
    → map expression_symbol_of front ≡ before_symbols before ++ formula_symbols part → BeginsAcc front
begun_had before rank part front is fits sound spells =
    begun_with before rank part front (closing (opens before)) is fits sound
    (map-append expression_symbol_of front (closing (opens before))
    ∙ (ap (λ symbols. symbols ++ map expression_symbol_of (closing (opens before))) spells
    ∙ (ap (λ symbols. (before_symbols before ++ formula_symbols part) ++ symbols) (closing_spelled (opens before)) ∙ append_assoc (before_symbols before) (formula_symbols part) (closers (opens before)))))

-- a name, what its set begins with and what follows that, regrouped
named_list : (front middle more others : List (Lexeme HoaKind)) (lexeme : Lexeme HoaKind) → (front ++ lexeme ∷ middle) ++ (more ++ others) ≡ front ++ lexeme ∷ ((middle ++ more) ++ others)
named_list front middle more others lexeme =
    append_assoc front (lexeme ∷ middle) (more ++ others) ∙ ap (λ rest. front ++ lexeme ∷ rest) (sym (append_assoc middle more others))

-- where the name of an atom is passed and its set begins, a formula begins
pub begun_named : (before : Before) (front middle : List (Lexeme HoaKind)) (lexeme : Lexeme HoaKind) (text : List ℕ) → IsOpenBefore before → map expression_symbol_of front ≡ before_symbols before
    → expression_symbol_of lexeme ≡ word text → BeginsSet [] middle → BeginsAcc (front ++ lexeme ∷ middle)
begun_named before front middle lexeme text sound spells is begun =
    let more = begun.0 in
    let rest = closing (opens before) in
    let set = set_symbols begun.1 begun.2 in
    begun_with before unary (atom text begun.1 begun.2) (front ++ lexeme ∷ middle) (more ++ rest) tt (fits_unary before) sound
    (ap (map expression_symbol_of) (named_list front middle more rest lexeme)
    ∙ (map-append expression_symbol_of front (lexeme ∷ ((middle ++ more) ++ rest))
    ∙ (ap (λ symbols. symbols ++ expression_symbol_of lexeme ∷ map expression_symbol_of ((middle ++ more) ++ rest)) spells
    ∙ (ap (λ symbol. before_symbols before ++ symbol ∷ map expression_symbol_of ((middle ++ more) ++ rest)) is
    ∙ (ap (λ symbols. before_symbols before ++ word text ∷ symbols) (map-append expression_symbol_of (middle ++ more) rest)
    ∙ (ap (λ symbols. before_symbols before ++ word text ∷ (symbols ++ map expression_symbol_of rest)) begun.3
    ∙ ap (λ symbols. before_symbols before ++ word text ∷ (set ++ symbols)) (closing_spelled (opens before))))))))

-- a set begins with its first symbol too
pub begun_following : (passed : List ExpressionSymbol) (symbol : ExpressionSymbol) (lexeme : Lexeme HoaKind) (middle : List (Lexeme HoaKind)) → expression_symbol_of lexeme ≡ symbol
    → BeginsSet (passed ++ symbol ∷ []) middle → BeginsSet passed (lexeme ∷ middle)
begun_following passed symbol lexeme middle is begun = (
  begun.0,
  begun.1,
  begun.2,
  ap (λ one. passed ++ one ∷ map expression_symbol_of (middle ++ begun.0)) is
      ∙ (sym (append_assoc passed (symbol ∷ []) (map expression_symbol_of (middle ++ begun.0))) ∙ begun.3),
)

-- what a set begins with
pub begun_unentered : BeginsSet [] []
begun_unentered = (plain kind.OpenParenthesis ∷ plain kind.Int ∷ plain kind.CloseParenthesis ∷ [], false, 0, refl)

pub begun_entered : BeginsSet (sign kind.OpenParenthesis ∷ []) []
begun_entered = (plain kind.Int ∷ plain kind.CloseParenthesis ∷ [], false, 0, refl)

pub begun_barred : BeginsSet (sign kind.OpenParenthesis ∷ sign kind.Not ∷ []) []
begun_barred = (plain kind.Int ∷ plain kind.CloseParenthesis ∷ [], true, 0, refl)

pub begun_numbered : (set : ℕ) → BeginsSet (sign kind.OpenParenthesis ∷ number set ∷ []) []
begun_numbered set = (plain kind.CloseParenthesis ∷ [], false, set, refl)

pub begun_barred_number : (set : ℕ) → BeginsSet (sign kind.OpenParenthesis ∷ sign kind.Not ∷ number set ∷ []) []
begun_barred_number set = (plain kind.CloseParenthesis ∷ [], true, set, refl)
