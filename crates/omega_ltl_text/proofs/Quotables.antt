-- Names of formulas that texts say: they can stand between quotes.
use Rattle.std.proofs.Common.{◌≡◌, ℕ, suc, ◌+◌, ◌-◌, ◌<◌, ◌⊎◌, inl, inr, ◌==◌, ◌&&◌, ◌||◌, not, Bool, true}
use Rattle.std.proofs.Common.{false, Option, Some, None, List, [], ◌∷◌, ◌++◌, length, map, take, drop, get_or}
use Rattle.std.proofs.Common.{refl, ap, sym, ◌∙◌, subst, arith, codes, length-append, if◌then◌else◌}
use Rattle.std.specs.Prelude.{option_map, slice_index}
use Rattle.std.specs.List.{AllByRecursion, list_all, prefix_len}
use Rattle.std.specs.Option.{option_or}
use Rattle.std.specs.Str.{bytes_eq, str_eq_ignore_ascii_case}
use Rattle.std.proofs.lemmas.Bool.{and_from, and_parts, cases_Bool, eqb-true}
use Rattle.std.proofs.lemmas.List.{drop_more, take_at}
use Rattle.omega_text.specs.Bytes.{is_digit, is_letter}
use Rattle.omega_text.specs.Cut.{Cuts}
use Rattle.omega_text.specs.Forms.{between_quotes}
use Rattle.omega_text.specs.Lexeme.{Lexeme}
use Rattle.omega_ltl_formula.specs.Formula.{names_in}
use Rattle.omega_ltl_formula.specs.declared.operators.BinaryOperator.TheVariants.{And, Iff, Implies, Or}
use Rattle.omega_ltl_formula.specs.declared.operators.BinaryOperator.TheVariants.{Release, StrongRelease}
use Rattle.omega_ltl_formula.specs.declared.operators.BinaryOperator.TheVariants.{Until, WeakUntil, Xor}
use Rattle.omega_ltl_formula.specs.declared.operators.UnaryOperator.{UnaryOperator}
use Rattle.omega_ltl_formula.specs.declared.operators.UnaryOperator.TheVariants.{Finally, Globally, Next, Not}
use Rattle.omega_ltl_text.specs.Cut.{Follows, formula_format}
use Rattle.omega_ltl_text.specs.Grammar.{RawFormula, bare, raw_binary, raw_constant, raw_group, raw_name}
use Rattle.omega_ltl_text.specs.Grammar.{raw_symbols, raw_unary}
use Rattle.omega_ltl_text.specs.Laws.{NamesAreQuotable}
use Rattle.omega_ltl_text.specs.Symbols.{FormulaSymbol, before, between, closing, constant, formula_symbol_of}
use Rattle.omega_ltl_text.specs.Symbols.{name, opening, symbol}
use Rattle.omega_ltl_text.specs.Tokens.{Front, front, front_operator, front_quoted, front_sign, front_token}
use Rattle.omega_ltl_text.specs.Tokens.{front_word, goes_on, inner_sign, is_either, letter_operator}
use Rattle.omega_ltl_text.specs.Tokens.{outer_sign, quoted_count, sign_in, word_kind}
use Rattle.omega_ltl_text.specs.Written.{HasQuotableNames, IsQuotable}
use Rattle.omega_ltl_text.specs.declared.kind.FormulaKind.{FormulaKind}
use Rattle.omega_ltl_text.specs.declared.kind.FormulaKind.TheVariants.{Binary, CloseParenthesis, Constant}
use Rattle.omega_ltl_text.specs.declared.kind.FormulaKind.TheVariants.{Name, OpenParenthesis, QuotedName}
use Rattle.omega_ltl_text.specs.declared.kind.FormulaKind.TheVariants.{Unary}

-- a closing quote is found whatever follows it
pub more_after : (escaped : Bool) (xs rest : List ℕ) → quoted_count escaped (xs ++ 34 ∷ []) ≡ Some (suc (length xs))
    → quoted_count escaped (xs ++ 34 ∷ rest) ≡ Some (suc (length xs))
more_after true [] rest is = absurd (let clash : ◌≡◌ {A = Option ℕ} None (Some 1) = is in cc)
more_after false [] rest is = refl
more_after escaped (x ∷ xs) rest is = go (not escaped && x == 34) is (more_after (not escaped && x == 92) xs rest)
  where
    inner : (found : Option ℕ) → quoted_count (not escaped && x == 92) (xs ++ 34 ∷ []) ≡ found → option_map suc found ≡ Some (suc (suc (length xs)))
        → (quoted_count (not escaped && x == 92) (xs ++ 34 ∷ []) ≡ Some (suc (length xs))
        → quoted_count (not escaped && x == 92) (xs ++ 34 ∷ rest) ≡ Some (suc (length xs)))
        → option_map suc (quoted_count (not escaped && x == 92) (xs ++ 34 ∷ rest)) ≡ Some (suc (suc (length xs)))
    inner None e outer further = absurd (let clash : ◌≡◌ {A = Option ℕ} None (Some (suc (suc (length xs)))) = outer in cc)
    inner (Some n) e outer further =
        let two : suc n ≡ suc (suc (length xs)) = cc in
        let one : n ≡ suc (length xs) = omega (arith, two) in
        ap (option_map suc) (further (e ∙ ap Some one))

    go : (b : Bool) → (if b then Some 1 else option_map suc (quoted_count (not escaped && x == 92) (xs ++ 34 ∷ []))) ≡ Some (suc (suc (length xs)))
        → (quoted_count (not escaped && x == 92) (xs ++ 34 ∷ []) ≡ Some (suc (length xs))
        → quoted_count (not escaped && x == 92) (xs ++ 34 ∷ rest) ≡ Some (suc (length xs)))
        → (if b then Some 1 else option_map suc (quoted_count (not escaped && x == 92) (xs ++ 34 ∷ rest))) ≡ Some (suc (suc (length xs)))
    go true e further = absurd (let clash : 1 ≡ suc (suc (length xs)) = cc in omega (arith, clash))
    go false e further = inner (quoted_count (not escaped && x == 92) (xs ++ 34 ∷ [])) refl e further

-- one byte more inside quotes
pub quoted_step : (bytes : List ℕ) (index : ℕ) (escaped closes next : Bool) → index < length bytes
    → closes ≡ (not escaped && get_or bytes index 0 == 34) → closes ≡ false → next ≡ (not escaped && get_or bytes index 0 == 92)
    → quoted_count false bytes ≡ option_map (λ (n : ℕ). index + n) (quoted_count escaped (drop index bytes))
    → quoted_count false bytes ≡ option_map (λ (n : ℕ). (index + 1) + n) (quoted_count next (drop (index + 1) bytes))
quoted_step bytes index escaped closes next within closes_is open_still next_is is =
    is
    ∙ (ap (λ (l : List ℕ). option_map (λ (n : ℕ). index + n) (quoted_count escaped l)) (drop_more bytes index 0 within)
    ∙ (ap (λ (b : Bool). option_map (λ (n : ℕ). index + n) (if b then Some 1
    else option_map suc (quoted_count (not escaped && get_or bytes index 0 == 92) (drop (index + 1) bytes)))) (sym closes_is ∙ open_still)
    ∙ (one_on (quoted_count (not escaped && get_or bytes index 0 == 92) (drop (index + 1) bytes))
    ∙ ap (λ (b : Bool). option_map (λ (n : ℕ). (index + 1) + n) (quoted_count b (drop (index + 1) bytes))) (sym next_is))))
  where
    one_on : (found : Option ℕ) → option_map (λ (n : ℕ). index + n) (option_map suc found) ≡ option_map (λ (n : ℕ). (index + 1) + n) found
    one_on None = refl
    one_on (Some n) = ap Some (let e : index + suc n ≡ (index + 1) + n = omega arith in e)

-- what is before a closing quote
record IsInside (escaped : Bool) (bytes : List ℕ) (count : ℕ) : Type 0 where
  inside : List ℕ
  long : count ≡ suc (length inside)
  taken : take count bytes ≡ inside ++ 34 ∷ []
  closes : quoted_count escaped (inside ++ 34 ∷ []) ≡ Some (suc (length inside))

inside_of : (escaped : Bool) (bytes : List ℕ) (count : ℕ) → quoted_count escaped bytes ≡ Some count → IsInside escaped bytes count
inside_of escaped [] count e = absurd (let clash : ◌≡◌ {A = Option ℕ} None (Some count) = e in cc)
inside_of escaped (byte ∷ rest) count e = go (not escaped && byte == 34) refl e (inside_of (not escaped && byte == 92) rest)
  where
    next : (found : Option ℕ) → quoted_count (not escaped && byte == 92) rest ≡ found → (not escaped && byte == 34) ≡ false → option_map suc found ≡ Some count
        → ((n : ℕ) → quoted_count (not escaped && byte == 92) rest ≡ Some n → IsInside (not escaped && byte == 92) rest n)
        → IsInside escaped (byte ∷ rest) count
    next None inner other outer further = absurd (let clash : ◌≡◌ {A = Option ℕ} None (Some count) = outer in cc)
    next (Some n) inner other outer further =
        let is : suc n ≡ count = cc in
        let rest_of = further n inner in
        subst (IsInside escaped (byte ∷ rest)) is (record {
          inside = byte ∷ rest_of.inside;
          long = ap suc rest_of.long;
          taken = ap (λ (l : List ℕ). byte ∷ l) rest_of.taken;
          closes = ap (λ (b : Bool). if b then Some 1 else option_map suc (quoted_count (not escaped && byte == 92) (rest_of.inside ++ 34 ∷ []))) other
              ∙ ap (option_map suc) rest_of.closes;
        })

    go : (b : Bool) → (not escaped && byte == 34) ≡ b → (if b then Some 1 else option_map suc (quoted_count (not escaped && byte == 92) rest)) ≡ Some count
        → ((n : ℕ) → quoted_count (not escaped && byte == 92) rest ≡ Some n → IsInside (not escaped && byte == 92) rest n)
        → IsInside escaped (byte ∷ rest) count
    go true here is further =
        let one : 1 ≡ count = cc in
        let parts = and_parts (not escaped) (byte == 34) here in
        let quote : byte ≡ 34 = eqb-true byte 34 parts.1 in
        subst (IsInside escaped (byte ∷ rest)) one (record {
          inside = [];
          long = refl;
          taken = ap (λ (b : ℕ). b ∷ []) quote;
          closes = ap (λ (b : Bool). if b && true then Some 1 else option_map suc (quoted_count (b && false) [])) parts.0;
        })
    go false other is further = next (quoted_count (not escaped && byte == 92) rest) refl other is further

-- a byte with which words go on is neither a quote nor a backslash
no_sign : (byte sign : ℕ) → goes_on sign ≡ false → goes_on byte ≡ true → (byte == sign) ≡ false
no_sign byte sign off on = go (cases_Bool (byte == sign))
  where
    go : ((byte == sign) ≡ true) ⊎ ((byte == sign) ≡ false) → (byte == sign) ≡ false
    go (inl same) = absurd (let clash : true ≡ false = sym on ∙ (ap goes_on (eqb-true byte sign same) ∙ off) in cc)
    go (inr apart) = apart

-- so words can stand between quotes
word_quotable : (word : List ℕ) → list_all goes_on word ≡ true → IsQuotable word
word_quotable [] all = refl
word_quotable (byte ∷ word) all =
    let parts = and_parts (goes_on byte) (list_all goes_on word) all in
    ap (λ (b : Bool). if b then Some 1 else option_map suc (quoted_count (byte == 92) (word ++ 34 ∷ []))) (no_sign byte 34 refl parts.0)
    ∙ (ap (λ (b : Bool). option_map suc (quoted_count b (word ++ 34 ∷ []))) (no_sign byte 92 refl parts.0)
    ∙ ap (option_map suc) (word_quotable word parts.1))

-- a word has only such bytes
word_goes_on : (bytes : List ℕ) → list_all goes_on (take (prefix_len goes_on bytes) bytes) ≡ true
word_goes_on [] = refl
word_goes_on (byte ∷ rest) = go (goes_on byte) refl (word_goes_on rest)
  where
    go : (b : Bool) → goes_on byte ≡ b → list_all goes_on (take (prefix_len goes_on rest) rest) ≡ true → list_all goes_on (take (if b then 1 + prefix_len goes_on rest else 0) (byte ∷ rest)) ≡ true
    go true on further =
        let e : 1 + prefix_len goes_on rest ≡ suc (prefix_len goes_on rest) = omega arith in
        ap (λ n. list_all goes_on (take n (byte ∷ rest))) e
        ∙ and_from (goes_on byte) (list_all goes_on (take (prefix_len goes_on rest) rest)) on further
    go false off further = refl

-- a kind is not that of a name in quotes, and not that of a name
abbrev not_quoted : FormulaKind → Bool
not_quoted QuotedName = false
not_quoted other = true

abbrev not_name : FormulaKind → Bool
not_name QuotedName = false
not_name Name = false
not_name other = true

abbrev not_name_if : Option FormulaKind → Bool
not_name_if None = true
not_name_if (Some kind) = not_name kind

word_chain : (a b c d e f g : Bool) → not_quoted (if a then Binary Until else if b then Binary Release else if c then Binary WeakUntil else if d then Binary StrongRelease else if e then Binary Xor else if f then Constant true else if g then Constant false else Name) ≡ true
word_chain true b c d e f g = refl
word_chain false true c d e f g = refl
word_chain false false true d e f g = refl
word_chain false false false true e f g = refl
word_chain false false false false true f g = refl
word_chain false false false false false true g = refl
word_chain false false false false false false true = refl
word_chain false false false false false false false = refl

word_not_quoted : (text : List ℕ) → not_quoted (word_kind text) ≡ true
word_not_quoted text = word_chain (bytes_eq text (codes "U")) (is_either text (codes "R") (codes "V")) (bytes_eq text (codes "W")) (bytes_eq text (codes "M"))
    (bytes_eq text (codes "xor")) (str_eq_ignore_ascii_case text (codes "true")) (str_eq_ignore_ascii_case text (codes "false"))

outer_chain : (a b c d e f g h : Bool) → not_name_if (if a then Some OpenParenthesis else if b then Some CloseParenthesis else if c then Some (Unary Not) else if d then Some (Unary Globally) else if e then Some (Unary Finally) else if f then Some (Unary Next) else if g then Some (Constant true) else if h then Some (Constant false) else None) ≡ true
outer_chain true b c d e f g h = refl
outer_chain false true c d e f g h = refl
outer_chain false false true d e f g h = refl
outer_chain false false false true e f g h = refl
outer_chain false false false false true f g h = refl
outer_chain false false false false false true g h = refl
outer_chain false false false false false false true h = refl
outer_chain false false false false false false false true = refl
outer_chain false false false false false false false false = refl

outer_no_name : (text : List ℕ) → not_name_if (outer_sign text) ≡ true
outer_no_name text = outer_chain (bytes_eq text (codes "(")) (bytes_eq text (codes ")")) (is_either text (codes "!") (codes "~")) (bytes_eq text (codes "[]"))
    (bytes_eq text (codes "<>")) (bytes_eq text (codes "()")) (bytes_eq text (codes "1")) (bytes_eq text (codes "0"))

inner_chain : (a b c d e : Bool) → not_name_if (if a then Some (Binary And) else if b then Some (Binary Or) else if c then Some (Binary Xor) else if d then Some (Binary Implies) else if e then Some (Binary Iff) else None) ≡ true
inner_chain true b c d e = refl
inner_chain false true c d e = refl
inner_chain false false true d e = refl
inner_chain false false false true e = refl
inner_chain false false false false true = refl
inner_chain false false false false false = refl

inner_no_name : (text : List ℕ) → not_name_if (inner_sign text) ≡ true
inner_no_name text = inner_chain (is_either text (codes "&") (codes "&&") || bytes_eq text (codes "/\\")) (is_either text (codes "|") (codes "||") || bytes_eq text (codes "\\/"))
    (bytes_eq text (codes "^")) (is_either text (codes "->") (codes "=>")) (is_either text (codes "<->") (codes "<=>"))

-- what the names at the front of bytes are
record IsNamed (bytes : List ℕ) (token : Front) : Type 0 where
  bare_word : token.kind ≡ Name → list_all goes_on (take token.count bytes) ≡ true
  in_quotes : token.kind ≡ QuotedName → IsQuotable (between_quotes (take token.count bytes))

abbrev NamedIf : List ℕ → Option Front → Type 0
NamedIf bytes None = Unit {0}
NamedIf bytes (Some token) = IsNamed bytes token

either_named : (bytes : List ℕ) (one other : Option Front) → NamedIf bytes one → NamedIf bytes other → NamedIf bytes (option_or one other)
either_named bytes None other first second = second
either_named bytes (Some token) other first second = first

-- signs are no names
no_names : (bytes : List ℕ) (count : ℕ) (kind : FormulaKind) → not_name kind ≡ true → IsNamed bytes (front kind count)
no_names bytes count kind is = record {
  bare_word = λ e. absurd (let clash : true ≡ false = sym is ∙ ap not_name e in cc);
  in_quotes = λ e. absurd (let clash : true ≡ false = sym is ∙ ap not_name e in cc);
}

sign_named : (bytes : List ℕ) (count : ℕ) (one other : Option FormulaKind) → not_name_if one ≡ true → not_name_if other ≡ true
    → NamedIf bytes (option_map (λ (k : FormulaKind). front k count) (option_or one other))
sign_named bytes count None None first second = tt
sign_named bytes count None (Some kind) first second = no_names bytes count kind second
sign_named bytes count (Some kind) other first second = no_names bytes count kind first

signs_named : (bytes : List ℕ) → NamedIf bytes (front_sign bytes)
signs_named bytes = either_named bytes (sign_in (take 3 bytes)) (option_or (sign_in (take 2 bytes)) (sign_in (take 1 bytes))) (own (take 3 bytes))
    (either_named bytes (sign_in (take 2 bytes)) (sign_in (take 1 bytes)) (own (take 2 bytes)) (own (take 1 bytes)))
  where
    own : (text : List ℕ) → NamedIf bytes (sign_in text)
    own text = sign_named bytes (length text) (outer_sign text) (inner_sign text) (outer_no_name text) (inner_no_name text)

-- words
word_named : (bytes : List ℕ) → IsNamed bytes (front_word bytes)
word_named bytes = record {
  bare_word = λ e. word_goes_on bytes;
  in_quotes = λ e. absurd (
      let clash : true ≡ false = sym (word_not_quoted (take (prefix_len goes_on bytes) bytes)) ∙ ap not_quoted e in
      cc);
}

operator_named : (bytes : List ℕ) → NamedIf bytes (front_operator bytes)
operator_named bytes = go (is_digit (slice_index bytes 1)) (letter_operator (slice_index bytes 0)) (str_eq_ignore_ascii_case (take 5 bytes) (codes "false"))
  where
    go : (digit : Bool) (found : Option UnaryOperator) (false_there : Bool)
        → NamedIf bytes (if digit then None else option_map (λ (operator : UnaryOperator). if false_there then front (Constant false) 5 else front (Unary operator) 1) found)
    go true found false_there = tt
    go false None false_there = tt
    go false (Some operator) true = no_names bytes 5 (Constant false) refl
    go false (Some operator) false = no_names bytes 1 (Unary operator) refl

-- names in quotes
quoted_named : (bytes : List ℕ) → NamedIf bytes (front_quoted bytes)
quoted_named [] = tt
quoted_named (byte ∷ rest) = go (quoted_count false rest) refl
  where
    go : (found : Option ℕ) → quoted_count false rest ≡ found → NamedIf (byte ∷ rest) (option_map (λ (count : ℕ). front QuotedName (suc count)) found)
    go None e = tt
    go (Some count) e =
        let is = inside_of false rest count e in
        let text : take (suc count) (byte ∷ rest) ≡ byte ∷ (is.inside ++ 34 ∷ []) = ap (λ (l : List ℕ). byte ∷ l) is.taken in
        let long = length-append is.inside (34 ∷ []) in
        let count_is : length (byte ∷ (is.inside ++ 34 ∷ [])) - 2 ≡ length is.inside = omega (arith, long) in
        let between_is : between_quotes (take (suc count) (byte ∷ rest)) ≡ is.inside =
        ap between_quotes text
        ∙ (ap (λ n. take n (is.inside ++ 34 ∷ [])) count_is ∙ take_at is.inside (34 ∷ []) (length is.inside) refl) in
        record {
          bare_word = λ k. absurd (let clash : QuotedName ≡ Name = k in cc);
          in_quotes = λ k. subst IsQuotable (sym between_is) is.closes;
        }

tokens_named : (bytes : List ℕ) → NamedIf bytes (front_token bytes)
tokens_named bytes = go (is_letter (slice_index bytes 0)) (slice_index bytes 0 == 34)
  where
    go : (letter quote : Bool) → NamedIf bytes (if letter then option_or (front_operator bytes) (Some (front_word bytes)) else (if quote then front_quoted bytes else front_sign bytes))
    go true quote = either_named bytes (front_operator bytes) (Some (front_word bytes)) (operator_named bytes) (word_named bytes)
    go false true = quoted_named bytes
    go false false = signs_named bytes

-- the name of a symbol, if it is one, can stand between quotes
abbrev Quotable : FormulaSymbol → Type 0
Quotable (constant value) = Unit {0}
Quotable (name bytes) = IsQuotable bytes
Quotable (before op) = Unit {0}
Quotable (between op) = Unit {0}
Quotable opening = Unit {0}
Quotable closing = Unit {0}

symbol_quotable : (bytes : List ℕ) (kind : FormulaKind) (text : List ℕ) → IsNamed bytes (front kind (length text)) → text ≡ take (length text) bytes → Quotable (symbol kind text)
symbol_quotable bytes (Constant value) text named is = tt
symbol_quotable bytes Name text named is = word_quotable text (ap (list_all goes_on) is ∙ named.bare_word refl)
symbol_quotable bytes QuotedName text named is = subst (λ (t : List ℕ). IsQuotable (between_quotes t)) (sym is) (named.in_quotes refl)
symbol_quotable bytes (Unary op) text named is = tt
symbol_quotable bytes (Binary op) text named is = tt
symbol_quotable bytes OpenParenthesis text named is = tt
symbol_quotable bytes CloseParenthesis text named is = tt

lexeme_quotable : (source : List ℕ) (from : ℕ) (lexeme : Lexeme FormulaKind) → Follows source from lexeme → Quotable (formula_symbol_of lexeme)
lexeme_quotable source from lexeme follows =
    let bytes = drop lexeme.span.start source in
    symbol_quotable bytes lexeme.kind lexeme.text (subst (NamedIf bytes) follows.token (tokens_named bytes)) follows.text

cut_quotable : (source : List ℕ) (from to : ℕ) (lexemes : List (Lexeme FormulaKind)) → Cuts formula_format source from lexemes to
    → AllByRecursion Quotable (map formula_symbol_of lexemes)
cut_quotable source from to [] cuts = tt
cut_quotable source from to (lexeme ∷ lexemes) cuts =
    (lexeme_quotable source from lexeme cuts.0, cut_quotable source lexeme.span.end to lexemes cuts.1)

-- so can the names of formulas that are spelled
all_front : (xs ys : List FormulaSymbol) → AllByRecursion Quotable (xs ++ ys) → AllByRecursion Quotable xs × AllByRecursion Quotable ys
all_front [] ys all = (tt, all)
all_front (x ∷ xs) ys all = let rest = all_front xs ys all.1 in ((all.0, rest.0), rest.1)

all_joined : (xs ys : List (List ℕ)) → AllByRecursion IsQuotable xs → AllByRecursion IsQuotable ys → AllByRecursion IsQuotable (xs ++ ys)
all_joined [] ys first second = second
all_joined (x ∷ xs) ys first second = (first.0, all_joined xs ys first.1 second)

raw_quotable : (raw : RawFormula) → AllByRecursion Quotable (raw_symbols raw) → HasQuotableNames (bare raw)
raw_quotable (raw_constant value) all = tt
raw_quotable (raw_name bytes) all = (all.0, tt)
raw_quotable (raw_unary op part) all = raw_quotable part all.1
raw_quotable (raw_binary op left right) all =
    let parts = all_front (raw_symbols left) (between op ∷ raw_symbols right) all in
    all_joined (names_in (bare left)) (names_in (bare right)) (raw_quotable left parts.0) (raw_quotable right parts.1.1)
raw_quotable (raw_group part) all = raw_quotable part (all_front (raw_symbols part) (closing ∷ []) all.1).0

pub names_are : NamesAreQuotable
names_are source tree says =
    let spells = says.writes.text in
    subst HasQuotableNames spells.bare_is
    (raw_quotable spells.raw (subst (AllByRecursion Quotable) spells.spelled
    (cut_quotable source 0 says.writes.cut.end says.writes.lexemes says.writes.cut.cuts)))
