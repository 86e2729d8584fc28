-- The tokens of formulas, and as what they are read: symbols with the numbers of names.
use Rattle.std.proofs.Common.{◌≡◌, ℕ, zero, suc, Bool, true, false, not, ◌&&◌, ◌||◌, List, [], ◌∷◌, ◌++◌, codes, map, Option, Some, None, if◌then◌else◌, refl, sym, ap, ap₂, ◌∙◌, subst, arith, append_assoc}
use Rattle.std.specs.Prelude.{slice_index_or}
use Rattle.std.specs.List.{AllByRecursion, AllZip, position_or_len, slice_get}
use Rattle.std.specs.Str.{bytes_eq}
use Rattle.std.proofs.lemmas.List.{map-append}
use Rattle.omega_hoa_expression.specs.Symbols.{ExpressionSymbol, Rank, conjunctive, disjunctive, expression_symbol_of, number, seen_as, sign, unary}
use Rattle.omega_hoa_label.specs.Raw.{RawLabelTree, conjunction, constant, disjunction, group, negation, proposition}
use Rattle.omega_hoa_label_text.specs.Reading.{IsOf, label_symbols}
use Rattle.omega_lang_lasso_word.specs.Names.{stands_bare}
use Rattle.omega_lang_lasso_word.specs.Admitted.{is_true_letter}
use Rattle.omega_text.specs.Lexeme.{Lexeme}
use Rattle.omega_text.specs.declared.hoa.kind.HoaKind.{HoaKind}
use Rattle.omega_text.specs.declared.hoa.kind.HoaKind.TheVariants as kind
use Rattle.omega_lang_word_text.specs.Reading.{IsReadAs, StandsFor, kind_as, name_in, name_of}
use Rattle.omega_lang_word_text.proofs.Formulas.{Formula, IsAt, choice, denial, inside, joint, plain, string, true_where, value}
use Rattle.omega_lang_word_text.proofs.Pieces.{Known, IsSpelled, Piece, StandsApart, and_spelled, bare_is_form, close_spelled, not_spelled, one_spelled, open_spelled, or_spelled, piece_of, space_spelled, string_spelled, word_spelled, zero_spelled}
use Rattle.omega_lang_word_text.proofs.Formulas as formula
use Rattle.omega_lang_word_text.proofs.Strings.{between}

abbrev pub piece : HoaKind → ℕ → List ℕ → Piece
piece sort worth bytes = record { sort = sort; number = worth; bytes = bytes }

-- the tokens of a formula
abbrev pub pieces_of : Formula → List Piece
pieces_of (value false) = piece kind.Int 0 (codes "0") ∷ []
pieces_of (value true) = piece kind.Int 1 (codes "1") ∷ []
pieces_of (plain name) = piece kind.Identifier 0 name ∷ []
pieces_of (string name) = piece kind.String 0 (34 ∷ (name ++ 34 ∷ [])) ∷ []
pieces_of (denial one) = piece kind.Not 0 (codes "!") ∷ pieces_of one
pieces_of (joint left right) = pieces_of left ++ piece kind.And 0 (codes "&") ∷ pieces_of right
pieces_of (choice left right) = pieces_of left ++ piece kind.Or 0 (codes "|") ∷ pieces_of right
pieces_of (inside one) = piece kind.OpenParenthesis 0 (codes "(") ∷ (pieces_of one ++ piece kind.CloseParenthesis 0 (codes ")") ∷ [])

apart_space : (following : List ℕ) → StandsApart (32 ∷ following)
apart_space following = record { ends = refl; is_no_digit = refl; closes = λ is. omega (arith, is) }

apart_close : (following : List ℕ) → StandsApart (41 ∷ following)
apart_close following = record { ends = refl; is_no_digit = refl; closes = λ is. omega (arith, is) }

-- the text of a formula is its tokens, before what stands apart
pub formula_spelled : Known → (rank : Rank) (f : Formula) → IsAt rank f → (following : List ℕ) (others : List Piece) → StandsApart following
    → IsSpelled following others → IsSpelled (formula.text_of f ++ following) (pieces_of f ++ others)
formula_spelled known rank (value false) is following others apart spelled = zero_spelled known following others apart spelled
formula_spelled known rank (value true) is following others apart spelled = one_spelled known following others apart spelled
formula_spelled known rank (plain name) is following others apart spelled = word_spelled known name following others (bare_is_form name is) apart spelled
formula_spelled known rank (string name) is following others apart spelled = string_spelled known name following others is spelled
formula_spelled known rank (denial one) is following others apart spelled =
    not_spelled known (formula.text_of one ++ following) (pieces_of one ++ others) (formula_spelled known unary one is following others apart spelled)
formula_spelled known rank (joint left right) is following others apart spelled =
    let after : List ℕ = formula.text_of right ++ following in
    let rest : IsSpelled after (pieces_of right ++ others) = formula_spelled known unary right is.1.1 following others apart spelled in
    let sign : IsSpelled (32 ∷ 38 ∷ 32 ∷ after) (piece kind.And 0 (codes "&") ∷ (pieces_of right ++ others)) =
    space_spelled (38 ∷ 32 ∷ after) _ (and_spelled known (32 ∷ after) (pieces_of right ++ others) (space_spelled after _ rest)) in
    let whole = formula_spelled known conjunctive left is.1.0 (32 ∷ 38 ∷ 32 ∷ after) (piece kind.And 0 (codes "&") ∷ (pieces_of right ++ others)) (apart_space (38 ∷ 32 ∷ after)) sign in
    subst (λ (bytes : List ℕ). IsSpelled bytes (pieces_of (joint left right) ++ others)) (sym (append_assoc (formula.text_of left) (codes " & " ++ formula.text_of right) following))
    (subst (IsSpelled (formula.text_of left ++ (32 ∷ 38 ∷ 32 ∷ after))) (sym (append_assoc (pieces_of left) (piece kind.And 0 (codes "&") ∷ pieces_of right) others)) whole)
formula_spelled known rank (choice left right) is following others apart spelled =
    let after : List ℕ = formula.text_of right ++ following in
    let rest : IsSpelled after (pieces_of right ++ others) = formula_spelled known conjunctive right is.1.1 following others apart spelled in
    let sign : IsSpelled (32 ∷ 124 ∷ 32 ∷ after) (piece kind.Or 0 (codes "|") ∷ (pieces_of right ++ others)) =
    space_spelled (124 ∷ 32 ∷ after) _ (or_spelled known (32 ∷ after) (pieces_of right ++ others) (space_spelled after _ rest)) in
    let whole = formula_spelled known disjunctive left is.1.0 (32 ∷ 124 ∷ 32 ∷ after) (piece kind.Or 0 (codes "|") ∷ (pieces_of right ++ others)) (apart_space (124 ∷ 32 ∷ after)) sign in
    subst (λ (bytes : List ℕ). IsSpelled bytes (pieces_of (choice left right) ++ others)) (sym (append_assoc (formula.text_of left) (codes " | " ++ formula.text_of right) following))
    (subst (IsSpelled (formula.text_of left ++ (32 ∷ 124 ∷ 32 ∷ after))) (sym (append_assoc (pieces_of left) (piece kind.Or 0 (codes "|") ∷ pieces_of right) others)) whole)
formula_spelled known rank (inside one) is following others apart spelled =
    let close : IsSpelled (41 ∷ following) (piece kind.CloseParenthesis 0 (codes ")") ∷ others) = close_spelled known following others spelled in
    let whole : IsSpelled (formula.text_of one ++ (41 ∷ following)) (pieces_of one ++ (piece kind.CloseParenthesis 0 (codes ")") ∷ others)) =
    formula_spelled known disjunctive one is (41 ∷ following) (piece kind.CloseParenthesis 0 (codes ")") ∷ others) (apart_close following) close in
    open_spelled known ((formula.text_of one ++ 41 ∷ []) ++ following) ((pieces_of one ++ piece kind.CloseParenthesis 0 (codes ")") ∷ []) ++ others)
    (subst (λ (bytes : List ℕ). IsSpelled bytes ((pieces_of one ++ piece kind.CloseParenthesis 0 (codes ")") ∷ []) ++ others)) (sym (append_assoc (formula.text_of one) (41 ∷ []) following))
    (subst (IsSpelled (formula.text_of one ++ (41 ∷ following))) (sym (append_assoc (pieces_of one) (piece kind.CloseParenthesis 0 (codes ")") ∷ []) others)) whole))

-- ---- as what tokens are read

module _ (names : List (List ℕ)) where
  abbrev pub number_of : List ℕ → ℕ
  number_of name = position_or_len (bytes_eq name) names

  -- the token that a token with this name is read as
  abbrev read_named : Lexeme HoaKind → Option (List ℕ) → Lexeme HoaKind
  read_named own None = record { kind = kind_as own.kind own.value own.text; text = own.text; value = own.value; span = own.span }
  read_named own (Some name) = record { kind = kind.Int; text = own.text; value = number_of name; span = own.span }

  abbrev pub read_as : Lexeme HoaKind → Lexeme HoaKind
  read_as own = read_named own (name_of own)

  -- a name has its number
  abbrev pub IsNumbered : Option (List ℕ) → Type 0
  IsNumbered None = Unit {0}
  IsNumbered (Some name) = slice_get names (number_of name) ≡ Some name

  one_as_read : (own : Lexeme HoaKind) (found : Option (List ℕ)) → IsNumbered found → StandsFor names found own (read_named own found)
  one_as_read own None numbered = refl
  one_as_read own (Some name) numbered = (refl, numbered)

  span_kept : (own : Lexeme HoaKind) (found : Option (List ℕ)) → (read_named own found).span ≡ own.span
  span_kept own None = refl
  span_kept own (Some name) = refl

  pub all_as_read : (own : List (Lexeme HoaKind)) → AllByRecursion (λ (l : Lexeme HoaKind). IsNumbered (name_of l)) own → AllZip (IsReadAs names) own (map read_as own)
  all_as_read [] all = tt
  all_as_read (x ∷ xs) all =
      (record { place = span_kept x (name_of x); stands = one_as_read x (name_of x) all.0 }, all_as_read xs all.1)

  -- the symbol of what a token is read as
  abbrev symbol_named : HoaKind → ℕ → List ℕ → Option (List ℕ) → ExpressionSymbol
  symbol_named sort worth bytes None = seen_as (kind_as sort worth bytes) worth bytes
  symbol_named sort worth bytes (Some name) = number (number_of name)

  abbrev pub symbol_of : Piece → ExpressionSymbol
  symbol_of p = symbol_named p.sort p.number p.bytes (name_in p.sort p.bytes)

  symbol_read : (own : Lexeme HoaKind) (found : Option (List ℕ)) → expression_symbol_of (read_named own found) ≡ symbol_named own.kind own.value own.text found
  symbol_read own None = refl
  symbol_read own (Some name) = refl

  pub symbols_read : (own : List (Lexeme HoaKind)) → map expression_symbol_of (map read_as own) ≡ map symbol_of (map piece_of own)
  symbols_read [] = refl
  symbols_read (x ∷ xs) = ap₂ (λ (s : ExpressionSymbol) (ss : List ExpressionSymbol). s ∷ ss) (symbol_read x (name_of x)) (symbols_read xs)

  -- the label that a formula is read as
  abbrev pub raw_of : Formula → RawLabelTree
  raw_of (value is) = constant is
  raw_of (plain name) = proposition (number_of name)
  raw_of (string name) = proposition (number_of name)
  raw_of (denial one) = negation (raw_of one)
  raw_of (joint left right) = conjunction (raw_of left) (raw_of right)
  raw_of (choice left right) = disjunction (raw_of left) (raw_of right)
  raw_of (inside one) = group (raw_of one)

  pub raw_is : (rank : Rank) (f : Formula) → IsAt rank f → IsOf rank (raw_of f)
  raw_is rank (value is) h = tt
  raw_is rank (plain name) h = tt
  raw_is rank (string name) h = tt
  raw_is rank (denial one) h = raw_is unary one h
  raw_is rank (joint left right) h = (h.0, (raw_is conjunctive left h.1.0, raw_is unary right h.1.1))
  raw_is rank (choice left right) h = (h.0, (raw_is disjunctive left h.1.0, raw_is conjunctive right h.1.1))
  raw_is rank (inside one) h = raw_is disjunctive one h

  -- a name that stands bare is read as its number
  plain_symbol : (name : List ℕ) (bare : Bool) → bare ≡ true → symbol_named kind.Identifier 0 name (if bare then Some name else None) ≡ number (number_of name)
  plain_symbol name true is = refl
  plain_symbol name false is = absurd (false_is is)
    where
      false_is : false ≡ true → ⊥
      false_is e = cc

  -- the symbols of a formula
  pub symbols_of : (rank : Rank) (f : Formula) → IsAt rank f → map symbol_of (pieces_of f) ≡ label_symbols (raw_of f)
  symbols_of rank (value false) is = refl
  symbols_of rank (value true) is = refl
  symbols_of rank (plain name) is = ap (λ (s : ExpressionSymbol). s ∷ []) (plain_symbol name (stands_bare name) is)
  symbols_of rank (string name) is = ap (λ (n : List ℕ). number (number_of n) ∷ []) (between name)
  symbols_of rank (denial one) is = ap (λ (ss : List ExpressionSymbol). sign kind.Not ∷ ss) (symbols_of unary one is)
  symbols_of rank (joint left right) is =
      map-append symbol_of (pieces_of left) (piece kind.And 0 (codes "&") ∷ pieces_of right)
      ∙ ap₂ (λ (ss ts : List ExpressionSymbol). ss ++ sign kind.And ∷ ts) (symbols_of conjunctive left is.1.0) (symbols_of unary right is.1.1)
  symbols_of rank (choice left right) is =
      map-append symbol_of (pieces_of left) (piece kind.Or 0 (codes "|") ∷ pieces_of right)
      ∙ ap₂ (λ (ss ts : List ExpressionSymbol). ss ++ sign kind.Or ∷ ts) (symbols_of disjunctive left is.1.0) (symbols_of conjunctive right is.1.1)
  symbols_of rank (inside one) is =
      ap (λ (ss : List ExpressionSymbol). sign kind.OpenParenthesis ∷ ss)
      (map-append symbol_of (pieces_of one) (piece kind.CloseParenthesis 0 (codes ")") ∷ [])
      ∙ ap (λ (ss : List ExpressionSymbol). ss ++ sign kind.CloseParenthesis ∷ []) (symbols_of disjunctive one is))

  -- the names of some tokens have their numbers
  abbrev pub AreNumbered : List Piece → Type 0
  AreNumbered pieces = AllByRecursion (λ (p : Piece). IsNumbered (name_in p.sort p.bytes)) pieces

  pub numbered_parts : (front back : List Piece) → AreNumbered (front ++ back) → AreNumbered front × AreNumbered back
  numbered_parts [] back all = (tt, all)
  numbered_parts (p ∷ front) back all = let rest = numbered_parts front back all.1 in ((all.0, rest.0), rest.1)

  there_of : (name : List ℕ) (k : ℕ) → slice_get names k ≡ Some name → slice_index_or names k [] ≡ name
  there_of name k is = at names k is
    where
      some_is : (x y : List ℕ) → Some x ≡ Some y → x ≡ y
      some_is x y e = cc

      none_is : ◌≡◌ {A = Option (List ℕ)} None (Some name) → ⊥
      none_is e = cc

      at : (xs : List (List ℕ)) (k : ℕ) → slice_get xs k ≡ Some name → slice_index_or xs k [] ≡ name
      at [] zero e = absurd (none_is e)
      at [] (suc k) e = absurd (none_is e)
      at (x ∷ xs) zero e = some_is x name e
      at (x ∷ xs) (suc k) e = at xs k e

  -- what a letter says is what its formula says
  module _ (held : List ℕ → Bool) where
    abbrev by_number : ℕ → Bool
    by_number k = held (slice_index_or names k [])

    plain_numbered : (name : List ℕ) (bare : Bool) → bare ≡ true → IsNumbered (if bare then Some name else None) → slice_get names (number_of name) ≡ Some name
    plain_numbered name true is numbered = numbered
    plain_numbered name false is numbered = absurd (false_is is)
      where
        false_is : false ≡ true → ⊥
        false_is e = cc

    pub said_same : (rank : Rank) (f : Formula) → IsAt rank f → AreNumbered (pieces_of f) → is_true_letter by_number (raw_of f) ≡ true_where held f
    said_same rank (value is) h all = refl
    said_same rank (plain name) h all = ap held (there_of name (number_of name) (plain_numbered name (stands_bare name) h all.0))
    said_same rank (string name) h all =
        ap held (there_of name (number_of name) (subst (λ (n : List ℕ). slice_get names (number_of n) ≡ Some n) (between name) all.0))
    said_same rank (denial one) h all = ap not (said_same unary one h all.1)
    said_same rank (joint left right) h all =
        let parts = numbered_parts (pieces_of left) (piece kind.And 0 (codes "&") ∷ pieces_of right) all in
        ap₂ (λ (a b : Bool). a && b) (said_same conjunctive left h.1.0 parts.0) (said_same unary right h.1.1 parts.1.1)
    said_same rank (choice left right) h all =
        let parts = numbered_parts (pieces_of left) (piece kind.Or 0 (codes "|") ∷ pieces_of right) all in
        ap₂ (λ (a b : Bool). a || b) (said_same disjunctive left h.1.0 parts.0) (said_same conjunctive right h.1.1 parts.1.1)
    said_same rank (inside one) h all =
        let parts = numbered_parts (pieces_of one) (piece kind.CloseParenthesis 0 (codes ")") ∷ []) all.1 in
        said_same disjunctive one h parts.0
