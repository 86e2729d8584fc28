-- Tokens whose symbols are two lists, one after the other.
use Rattle.std.proofs.Common.{◌≡◌, ◌≢◌, ℕ, true, false, List, [], ◌∷◌, ◌++◌, map, ap, append_assoc, refl, sym, ◌∙◌, subst}
use Rattle.omega_hoa_expression.specs.Passing.{NextIsNot}
use Rattle.omega_hoa_expression.specs.Symbols.{EndsThere, ExpressionSymbol, IsNoOperator, expression_symbol_of, seen_as, sign}
use Rattle.omega_hoa_label.specs.Raw.{RawLabelTree, alias, conjunction, constant, disjunction, group, negation, proposition}
use Rattle.omega_hoa_label_text.specs.Reading.{label_symbols}
use Rattle.omega_text.specs.Lexeme.{Lexeme}
use Rattle.omega_text.specs.declared.hoa.kind.HoaKind.{HoaKind}
use Rattle.omega_text.specs.declared.hoa.kind.HoaKind.TheVariants as kind
use Rattle.omega_lang_word_text.proofs.Following.{Tokens}

-- tokens are a front and a rest, with these symbols
pub record Splits (tokens : Tokens) (first second : List ExpressionSymbol) : Type 0 where
  pub front : Tokens
  pub rest : Tokens
  pub split : tokens ≡ front ++ rest
  pub front_is : map expression_symbol_of front ≡ first
  pub rest_is : map expression_symbol_of rest ≡ second

pub splits : (tokens : Tokens) (first second : List ExpressionSymbol) → map expression_symbol_of tokens ≡ first ++ second → Splits tokens first second
splits tokens [] second is = record { front = []; rest = tokens; split = refl; front_is = refl; rest_is = is }
splits [] (symbol ∷ first) second is = absurd (let e : [] ≡ symbol ∷ (first ++ second) = is in cc)
splits (token ∷ tokens) (symbol ∷ first) second is =
    let e : expression_symbol_of token ∷ map expression_symbol_of tokens ≡ symbol ∷ (first ++ second) = is in
    let head : expression_symbol_of token ≡ symbol = cc in
    let tail : map expression_symbol_of tokens ≡ first ++ second = cc in
    let more = splits tokens first second tail in
    record {
      front = token ∷ more.front;
      rest = more.rest;
      split = ap (λ (r : Tokens). token ∷ r) more.split;
      front_is = λ i. head i ∷ more.front_is i;
      rest_is = more.rest_is;
    }

-- what is seen as a sign is of its kind
seen_sign : (sort : HoaKind) (value : ℕ) (text : List ℕ) (other : HoaKind) → seen_as sort value text ≡ sign other → sort ≡ other
seen_sign kind.Int value text other is = cc
seen_sign kind.AliasName value text other is = cc
seen_sign kind.Identifier value text other is = cc
seen_sign kind.HeaderName value text other is = cc
seen_sign kind.String value text other is = cc
seen_sign sort value text other is = cc

pub sign_kind : (token : Lexeme HoaKind) (sort : HoaKind) → expression_symbol_of token ≡ sign sort → token.kind ≡ sort
sign_kind token sort is = seen_sign token.kind token.value token.text sort is

-- signs that no label has, and that name no token with a text
abbrev pub is_mark : HoaKind → Type 0
is_mark kind.End = Unit {0}
is_mark kind.Body = Unit {0}
is_mark kind.OpenBrace = Unit {0}
is_mark kind.CloseBrace = Unit {0}
is_mark other = ⊥

pub mark_seen : (sort : HoaKind) (value : ℕ) (text : List ℕ) → is_mark sort → seen_as sort value text ≡ sign sort
mark_seen kind.End value text mark = refl
mark_seen kind.Body value text mark = refl
mark_seen kind.OpenBrace value text mark = refl
mark_seen kind.CloseBrace value text mark = refl
mark_seen other value text mark = absurd mark

-- a token of such a kind is seen as it
pub marked : (token : Lexeme HoaKind) (sort : HoaKind) → is_mark sort → token.kind ≡ sort → expression_symbol_of token ≡ sign sort
marked token sort mark is =
    ap (λ (k : HoaKind). seen_as k token.value token.text) is ∙ mark_seen sort token.value token.text mark

mark_ends : (sort : HoaKind) → is_mark sort → IsNoOperator sort
mark_ends kind.And mark = absurd mark
mark_ends kind.Or mark = absurd mark
mark_ends other mark = tt

-- tokens that begin with such a sign go on with no operator
pub ends_at_mark : (rest : Tokens) (sort : HoaKind) (more : List ExpressionSymbol) → is_mark sort → map expression_symbol_of rest ≡ sign sort ∷ more → EndsThere rest
ends_at_mark [] sort more mark is = tt
ends_at_mark (token ∷ rest) sort more mark is =
    let e : expression_symbol_of token ∷ map expression_symbol_of rest ≡ sign sort ∷ more = is in
    let head : expression_symbol_of token ≡ sign sort = cc in
    subst IsNoOperator (sym (sign_kind token sort head)) (mark_ends sort mark)

-- they begin with one token of its kind
pub record BeginsWith (tokens : Tokens) (sort : HoaKind) (more : List ExpressionSymbol) : Type 0 where
  pub first : Lexeme HoaKind
  pub rest : Tokens
  pub split : tokens ≡ first ∷ rest
  pub is : first.kind ≡ sort
  pub rest_is : map expression_symbol_of rest ≡ more

pub begins_with : (tokens : Tokens) (sort : HoaKind) (more : List ExpressionSymbol) → map expression_symbol_of tokens ≡ sign sort ∷ more → BeginsWith tokens sort more
begins_with [] sort more is = absurd (let e : [] ≡ sign sort ∷ more = is in cc)
begins_with (token ∷ rest) sort more is =
    let e : expression_symbol_of token ∷ map expression_symbol_of rest ≡ sign sort ∷ more = is in
    let head : expression_symbol_of token ≡ sign sort = cc in
    record { first = token; rest = rest; split = refl; is = sign_kind token sort head; rest_is = cc }

-- no label begins with such a sign
pub label_begins : (tree : RawLabelTree) (sort : HoaKind) (more others : List ExpressionSymbol) → is_mark sort → label_symbols tree ++ more ≡ sign sort ∷ others → ⊥
label_begins (constant true) sort more others mark is = begins_true sort mark (let e : sign kind.True ∷ more ≡ sign sort ∷ others = is in let s : kind.True ≡ sort = cc in s)
  where
    begins_true : (sort : HoaKind) → is_mark sort → kind.True ≡ sort → ⊥
    begins_true sort mark is = subst is_mark (sym is) mark
label_begins (constant false) sort more others mark is = begins_false sort mark (let e : sign kind.False ∷ more ≡ sign sort ∷ others = is in let s : kind.False ≡ sort = cc in s)
  where
    begins_false : (sort : HoaKind) → is_mark sort → kind.False ≡ sort → ⊥
    begins_false sort mark is = subst is_mark (sym is) mark
label_begins (proposition value) sort more others mark is = cc
label_begins (alias text) sort more others mark is = cc
label_begins (negation part) sort more others mark is =
    let e : sign kind.Not ∷ (label_symbols part ++ more) ≡ sign sort ∷ others = is in
    let s : kind.Not ≡ sort = cc in
    subst is_mark (sym s) mark
label_begins (conjunction left right) sort more others mark is =
    label_begins left sort ((sign kind.And ∷ label_symbols right) ++ more) others mark (sym (append_assoc (label_symbols left) (sign kind.And ∷ label_symbols right) more) ∙ is)
label_begins (disjunction left right) sort more others mark is =
    label_begins left sort ((sign kind.Or ∷ label_symbols right) ++ more) others mark (sym (append_assoc (label_symbols left) (sign kind.Or ∷ label_symbols right) more) ∙ is)
label_begins (group part) sort more others mark is =
    let e : sign kind.OpenParenthesis ∷ ((label_symbols part ++ sign kind.CloseParenthesis ∷ []) ++ more) ≡ sign sort ∷ others = is in
    let s : kind.OpenParenthesis ≡ sort = cc in
    subst is_mark (sym s) mark
