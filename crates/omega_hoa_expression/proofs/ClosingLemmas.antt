-- How an expression is completed: a part, and then `)` for each parenthesis that is open.
use Rattle.std.proofs.Common.{◌≡◌, ℕ, zero, suc, List, [], ◌∷◌, ◌++◌, map, ap, append_assoc, refl, sym, ◌∙◌}
use Rattle.omega_hoa_expression.specs.Symbols.{ExpressionSymbol, expression_symbol_of, sign}
use Rattle.omega_text.specs.Lexeme.{Lexeme, lexeme_at}
use Rattle.omega_text.specs.declared.hoa.kind.HoaKind.{HoaKind}
use Rattle.omega_text.specs.declared.hoa.kind.HoaKind.TheVariants as kind

-- a token of this kind that says nothing else
abbrev pub plain : HoaKind → Lexeme HoaKind
plain sort = lexeme_at 0 sort 0 []

-- as many `)`
abbrev pub closing : ℕ → List (Lexeme HoaKind)
closing zero = []
closing (suc count) = plain kind.CloseParenthesis ∷ closing count

-- and their symbols
abbrev pub closers : ℕ → List ExpressionSymbol
closers zero = []
closers (suc count) = sign kind.CloseParenthesis ∷ closers count

pub closing_spelled : (count : ℕ) → map expression_symbol_of (closing count) ≡ closers count
closing_spelled zero = refl
closing_spelled (suc count) = ap (λ more. sign kind.CloseParenthesis ∷ more) (closing_spelled count)

-- a part in parentheses and others, regrouped
pub closed_list : (before part others : List ExpressionSymbol) (first last : ExpressionSymbol)
    → before ++ ((first ∷ (part ++ last ∷ [])) ++ others) ≡ (before ++ first ∷ []) ++ (part ++ last ∷ others)
closed_list before part others first last =
    ap (λ more. before ++ first ∷ more) (append_assoc part (last ∷ []) others) ∙ sym (append_assoc before (first ∷ []) (part ++ last ∷ others))

-- a part after an operator and others, regrouped
pub operated_list : (before left part others : List ExpressionSymbol) (between : ExpressionSymbol)
    → before ++ ((left ++ between ∷ part) ++ others) ≡ (before ++ (left ++ between ∷ [])) ++ (part ++ others)
operated_list before left part others between =
    ap (λ more. before ++ more) (append_assoc left (between ∷ part) others ∙ sym (append_assoc left (between ∷ []) (part ++ others)))
    ∙ sym (append_assoc before (left ++ between ∷ []) (part ++ others))
