-- Tokens passed one after another, and what follows them.
use Rattle.std.proofs.Common.{◌≡◌, List, [], ◌∷◌, ◌++◌, map, ap, append_assoc, refl, sym, ◌∙◌, subst, Result, Ok, Err, IfErr, IsErrAnd}
use Rattle.std.proofs.lemmas.List.{map-append}
use Rattle.omega_hoa_expression.specs.Symbols.{EndsThere, IsNoOperator, ExpressionSymbol, expression_symbol_of}
use Rattle.omega_hoa_expression.specs.Passing.{NextIsNot, Passed}
use Rattle.omega_text.specs.Lexeme.{Lexeme}
use Rattle.omega_text.specs.declared.hoa.kind.HoaKind.{HoaKind}
use Rattle.omega_text.specs.declared.hoa.kind.HoaKind.TheVariants as kind

-- a token more is passed
passed_more : (whole : List (Lexeme HoaKind)) (symbols : List ExpressionSymbol) (lexeme : Lexeme HoaKind) (left : List (Lexeme HoaKind)) (more : List ExpressionSymbol)
    → Passed whole symbols (lexeme ∷ left) → more ≡ symbols ++ expression_symbol_of lexeme ∷ [] → Passed whole more left
passed_more whole symbols lexeme left more passed is = record {
  front = passed.front ++ lexeme ∷ [];
  split = passed.split ∙ sym (append_assoc passed.front (lexeme ∷ []) left);
  spells = map-append expression_symbol_of passed.front (lexeme ∷ []) ∙ (ap (λ front. front ++ expression_symbol_of lexeme ∷ []) passed.spells ∙ sym is);
}

-- the same symbols otherwise grouped
pub passed_same : (whole left : List (Lexeme HoaKind)) (symbols more : List ExpressionSymbol)
    → Passed whole symbols left → more ≡ symbols → Passed whole more left
passed_same whole left symbols more passed is = record { front = passed.front; split = passed.split; spells = passed.spells ∙ sym is }

-- the next token
pub passed_next : (whole old left : List (Lexeme HoaKind)) (lexeme : Lexeme HoaKind) (symbols more : List ExpressionSymbol) (symbol : ExpressionSymbol)
    → Passed whole symbols old → old ≡ lexeme ∷ left → expression_symbol_of lexeme ≡ symbol → more ≡ symbols ++ symbol ∷ [] → Passed whole more left
passed_next whole old left lexeme symbols more symbol passed next is grouped =
    passed_more whole symbols lexeme left more (subst (Passed whole symbols) next passed) (grouped ∙ ap (λ s. symbols ++ s ∷ []) (sym is))

-- nothing is passed
pub nothing_passed : (whole : List (Lexeme HoaKind)) → Passed whole [] whole
nothing_passed whole = record { front = []; split = refl; spells = refl }

-- what is passed from where these stand
pub passed_then : (whole middle left : List (Lexeme HoaKind)) (symbols more : List ExpressionSymbol)
    → Passed whole symbols middle → Passed middle more left → Passed whole (symbols ++ more) left
passed_then whole middle left symbols more first second = record {
  front = first.front ++ second.front;
  split = first.split ∙ (ap (λ rest. first.front ++ rest) second.split ∙ sym (append_assoc first.front second.front left));
  spells = map-append expression_symbol_of first.front second.front ∙ (ap (λ front. front ++ map expression_symbol_of second.front) first.spells ∙ ap (λ back. symbols ++ back) second.spells);
}

-- two lists and what joins them, regrouped
pub joined_lists : {A : Type 0} (before left right : List A) (between : A)
    → before ++ (left ++ between ∷ right) ≡ (before ++ (left ++ between ∷ [])) ++ right
joined_lists before left right between =
    sym (append_assoc before (left ++ between ∷ []) right ∙ ap (λ more. before ++ more) (append_assoc left (between ∷ []) right))

pub followed_lists : {A : Type 0} (before left right : List A) (following : A)
    → ((before ++ left) ++ right) ++ following ∷ [] ≡ before ++ (left ++ (right ++ following ∷ []))
followed_lists before left right following =
    append_assoc (before ++ left) right (following ∷ []) ∙ append_assoc before left (right ++ following ∷ [])

-- a list between two
pub enclosed_list : {A : Type 0} (before part : List A) (first last : A)
    → before ++ first ∷ (part ++ last ∷ []) ≡ ((before ++ first ∷ []) ++ part) ++ last ∷ []
enclosed_list before part first last =
    sym (append_assoc (before ++ first ∷ []) part (last ∷ []) ∙ append_assoc before (first ∷ []) (part ++ last ∷ []))

-- neither an operator nor `)`
abbrev pub GoesOnNone : HoaKind → Type 0
GoesOnNone kind.And = ⊥
GoesOnNone kind.Or = ⊥
GoesOnNone kind.CloseParenthesis = ⊥
GoesOnNone other = Unit {0}

goes_on_others : (sort : HoaKind) → (sort ≡ kind.And → ⊥) → (sort ≡ kind.Or → ⊥) → (sort ≡ kind.CloseParenthesis → ⊥) → GoesOnNone sort
goes_on_others kind.And not_and not_or not_close = not_and refl
goes_on_others kind.Or not_and not_or not_close = not_or refl
goes_on_others kind.CloseParenthesis not_and not_or not_close = not_close refl
goes_on_others other not_and not_or not_close = tt

-- the tokens begin with neither an operator nor `)`
abbrev pub GoOnNone : List (Lexeme HoaKind) → Type 0
GoOnNone [] = Unit {0}
GoOnNone (lexeme ∷ rest) = GoesOnNone lexeme.kind

-- tokens that do not go on
pub go_on_others : (left : List (Lexeme HoaKind)) → NextIsNot kind.And left → NextIsNot kind.Or left → NextIsNot kind.CloseParenthesis left → GoOnNone left
go_on_others [] a b c = tt
go_on_others (lexeme ∷ rest) a b c = goes_on_others lexeme.kind a b c

ends_others : (sort : HoaKind) → (sort ≡ kind.And → ⊥) → (sort ≡ kind.Or → ⊥) → IsNoOperator sort
ends_others kind.And not_and not_or = not_and refl
ends_others kind.Or not_and not_or = not_or refl
ends_others other not_and not_or = tt

pub end_others : (left : List (Lexeme HoaKind)) → NextIsNot kind.And left → NextIsNot kind.Or left → EndsThere left
end_others [] a b = tt
end_others (lexeme ∷ rest) a b = ends_others lexeme.kind a b

-- what holds of an error follows from what else holds of it
pub error_then : {A E : Type 0} (result : Result A E) (said wanted_of : E → Type 0) → IsErrAnd result said → ((error : E) → said error → wanted_of error) → IfErr result wanted_of
error_then (Ok value) said wanted_of is follows = tt
error_then (Err error) said wanted_of is follows = follows error is
