-- Each text that a word fits is read, and the word that it says admits the words that fit.
use Rattle.std.proofs.Common.{◌≡◌, ◌⊎◌, inl, inr, ℕ, zero, suc, ◌+◌, ◌<◌, ◌≤◌, Bool, true, false, ◌||◌, List, [], ◌∷◌, ◌++◌, codes, length, map, Contains, Option, Some, None, if◌then◌else◌, refl, sym, ap, ap₂, ◌∙◌, subst, arith, append_assoc, lit<}
use Rattle.std.specs.Prelude.{slice_index_or}
use Rattle.std.specs.List.{AllByRecursion, cons_option, filter_map, flat_map, list_any, position_or_len, slice_get}
use Rattle.std.specs.Str.{bytes_eq}
use Rattle.std.proofs.lemmas.Bool.{cases_lt, false≢true}
use Rattle.std.proofs.lemmas.List.{map-append}
use Rattle.std.proofs.lemmas.List.Elements.{Contains-append_left, Contains-append_right}
use Rattle.std.proofs.lemmas.List.Sums.{AllPass-from_list_all, fails_before_first, passes_at_first}
use Rattle.std.proofs.lemmas.Option.{slice_get-get_or}
use Rattle.std.proofs.lemmas.Slice.Eq.{bytes_eq-Decides}
use Rattle.indexmap.specs.IndexSet.{insert_all, insert_key}
use Rattle.omega_hoa_expression.specs.Symbols.{ExpressionSymbol, disjunctive, sign}
use Rattle.omega_hoa_label.specs.Raw.{RawLabelTree}
use Rattle.omega_hoa_label_text.specs.Reading.{IsOf}
use Rattle.omega_lang_lasso_word.specs.Fitting.{Fits, along, text_of_letters}
use Rattle.omega_lang_lasso_word.specs.Formulas.{HasTruth}
use Rattle.omega_lang_lasso_word.specs.Formulas as part
use Rattle.omega_lang_lasso_word.proofs.Truths.{texts_have_one_truth}
use Rattle.omega_lang_lasso_word.specs.Admitted.{Admits, is_true_letter}
use Rattle.omega_lang_lasso_word.specs.declared.symbolic_word.SymbolicWord.{SymbolicWord}
use Rattle.omega_text.specs.Bytes.{is_word_byte}
use Rattle.omega_text.specs.Lexeme.{Lexeme}
use Rattle.omega_text.specs.Limits.{most_text}
use Rattle.omega_text.specs.declared.hoa.kind.HoaKind.{HoaKind}
use Rattle.omega_text.specs.declared.hoa.kind.HoaKind.TheVariants as kind
use Rattle.omega_text.specs.hoa.Forms.{IsForm}
use Rattle.omega_lang_word_text.specs.Grammar.{ReadsWord, other_symbols, stem_symbols, word_symbols}
use Rattle.omega_lang_word_text.specs.Laws.{FittingTextsAreRead, WordsOfTextsAreOne}
use Rattle.omega_lang_word_text.specs.Reading.{name_of, names_of}
use Rattle.omega_lang_word_text.specs.Text.{IsWordText}
use Rattle.omega_lang_word_text.proofs.Formulas.{Formula, IsAt, said_of, true_where, truth_of}
use Rattle.omega_lang_word_text.proofs.Formulas as formula
use Rattle.omega_lang_word_text.proofs.Pieces.{IsSpelled, Known, Piece, Stands, StandsApart, brace_spelled, end_spelled, nothing_spelled, piece_of, semicolon_piece, semicolon_spelled, space_spelled, word_spelled}
use Rattle.omega_lang_word_text.proofs.Sayings.{AreNumbered, IsNumbered, all_as_read, formula_spelled, numbered_parts, piece, pieces_of, raw_is, raw_of, read_as, said_same, symbol_of, symbols_of, symbols_read}

-- ---- the names of tokens have their numbers

-- an element of a list, or of a longer one
first_listed : {X : Type 0} (x : X) (xs : List X) → Contains (x ∷ xs) x
first_listed x xs = (0, omega arith, refl)

later_listed : {X : Type 0} (x y : X) (xs : List X) → Contains xs y → Contains (x ∷ xs) y
later_listed x y xs has = (suc has.0, omega (arith, has.1), has.2)

named_listed : (names : List (List ℕ)) (name : List ℕ) → list_any (bytes_eq name) names ≡ true → Contains names name
named_listed [] name any = absurd (false≢true any)
named_listed (x ∷ xs) name any = go (bytes_eq name x) refl any (λ later. named_listed xs name later)
  where
    go : (b : Bool) → bytes_eq name x ≡ b → (b || list_any (bytes_eq name) xs) ≡ true → (list_any (bytes_eq name) xs ≡ true → Contains xs name) → Contains (x ∷ xs) name
    go true is any rest = subst (λ (y : List ℕ). Contains (y ∷ xs) name) ((bytes_eq-Decides name x).0 is) (first_listed name xs)
    go false is any rest = later_listed x name xs (rest any)

-- a name among others has a number there
position_there : (names : List (List ℕ)) (name : List ℕ) → Contains names name → slice_get names (position_or_len (bytes_eq name) names) ≡ Some name
position_there names name has = go (cases_lt at (length names))
  where
    at : ℕ
    at = position_or_len (bytes_eq name) names

    go : (at < length names) ⊎ (length names ≤ at) → slice_get names at ≡ Some name
    go (inl below) =
        slice_get-get_or names at name below
        ∙ ap Some (sym ((bytes_eq-Decides name (slice_index_or names at name)).0 (passes_at_first (bytes_eq name) names name below)))
    go (inr past) =
        let fails : bytes_eq name (slice_index_or names has.0 name) ≡ false = fails_before_first (bytes_eq name) names has.0 name (omega (arith, has.1)) in
        absurd (false≢true (sym fails ∙ (bytes_eq-Decides name (slice_index_or names has.0 name)).1 (sym has.2)))

-- it stays there when others are added
kept_inserted : (names : List (List ℕ)) (name other : List ℕ) → Contains names name → Contains (insert_key bytes_eq names other) name
kept_inserted names name other has = go (list_any (bytes_eq other) names)
  where
    go : (b : Bool) → Contains (if b then names else names ++ other ∷ []) name
    go true = has
    go false = Contains-append_left names (other ∷ []) name has

new_inserted : (names : List (List ℕ)) (name : List ℕ) → Contains (insert_key bytes_eq names name) name
new_inserted names name = go (list_any (bytes_eq name) names) refl
  where
    go : (b : Bool) → list_any (bytes_eq name) names ≡ b → Contains (if b then names else names ++ name ∷ []) name
    go true is = named_listed names name is
    go false is = Contains-append_right names (name ∷ []) name (first_listed name [])

kept_all : (start more : List (List ℕ)) (name : List ℕ) → Contains start name → Contains (insert_all bytes_eq start more) name
kept_all start [] name has = has
kept_all start (x ∷ xs) name has = kept_all (insert_key bytes_eq start x) xs name (kept_inserted start name x has)

-- each name of tokens is among their names
abbrev IsAmong : List (List ℕ) → Option (List ℕ) → Type 0
IsAmong names None = Unit {0}
IsAmong names (Some name) = Contains names name

among_numbered : (names : List (List ℕ)) (found : Option (List ℕ)) → IsAmong names found → IsNumbered names found
among_numbered names None is = tt
among_numbered names (Some name) is = position_there names name is

first_among : (start : List (List ℕ)) (found : Option (List ℕ)) (rest : List (List ℕ)) → IsAmong (insert_all bytes_eq start (cons_option found rest)) found
first_among start None rest = tt
first_among start (Some name) rest = kept_all (insert_key bytes_eq start name) rest name (new_inserted start name)

abbrev AllNumbered : List (List ℕ) → List (Lexeme HoaKind) → Type 0
AllNumbered names own = AllByRecursion (λ (l : Lexeme HoaKind). IsNumbered names (name_of l)) own

all_among : (start : List (List ℕ)) (own : List (Lexeme HoaKind)) → AllNumbered (insert_all bytes_eq start (filter_map name_of own)) own
all_among start [] = tt
all_among start (x ∷ xs) = (
  among_numbered (insert_all bytes_eq start (cons_option (name_of x) (filter_map name_of xs))) (name_of x) (first_among start (name_of x) (filter_map name_of xs)),
  go (name_of x) (all_among start xs) (λ name. all_among (insert_key bytes_eq start name) xs),
)
  where
    go : (found : Option (List ℕ)) → AllNumbered (insert_all bytes_eq start (filter_map name_of xs)) xs
        → ((name : List ℕ) → AllNumbered (insert_all bytes_eq (insert_key bytes_eq start name) (filter_map name_of xs)) xs)
        → AllNumbered (insert_all bytes_eq start (cons_option found (filter_map name_of xs))) xs
    go None plain named = plain
    go (Some name) plain named = named name

-- so of their pieces
pieces_numbered : (names : List (List ℕ)) (own : List (Lexeme HoaKind)) → AllByRecursion (λ (l : Lexeme HoaKind). IsNumbered names (name_of l)) own → AreNumbered names (map piece_of own)
pieces_numbered names [] all = tt
pieces_numbered names (x ∷ xs) all = (all.0, pieces_numbered names xs all.1)

-- ---- the text of a word

abbrev Letters : Type 0
Letters = List Formula

abbrev AllAre : Letters → Type 0
AllAre letters = AllByRecursion (IsAt disjunctive) letters

abbrev texts_of : Letters → List (List ℕ)
texts_of letters = map formula.text_of letters

abbrev stem_pieces : Letters → List Piece
stem_pieces letters = flat_map (λ (f : Formula). pieces_of f ++ semicolon_piece ∷ []) letters

abbrev other_pieces : Letters → List Piece
other_pieces letters = flat_map (λ (f : Formula). semicolon_piece ∷ pieces_of f) letters

abbrev end_pieces : List Piece
end_pieces = piece kind.CloseBrace 0 (codes "}") ∷ []

abbrev cycle_pieces : Formula → Letters → List Piece
cycle_pieces first others = piece kind.Identifier 0 (codes "cycle") ∷ piece kind.OpenBrace 0 (codes "{") ∷ ((pieces_of first ++ other_pieces others) ++ end_pieces)

abbrev word_pieces : Letters → Formula → Letters → List Piece
word_pieces stem first others = stem_pieces stem ++ cycle_pieces first others

apart_semicolon : (following : List ℕ) → StandsApart (59 ∷ following)
apart_semicolon following = record { ends = refl; is_no_digit = refl; closes = λ is. omega (arith, is) }

apart_brace : (following : List ℕ) → StandsApart (123 ∷ following)
apart_brace following = record { ends = refl; is_no_digit = refl; closes = λ is. omega (arith, is) }

apart_end : (following : List ℕ) → StandsApart (125 ∷ following)
apart_end following = record { ends = refl; is_no_digit = refl; closes = λ is. omega (arith, is) }

apart_others : (letters : Letters) (following : List ℕ) → StandsApart following → StandsApart (flat_map (λ (t : List ℕ). codes "; " ++ t) (texts_of letters) ++ following)
apart_others [] following apart = apart
apart_others (f ∷ letters) following apart = apart_semicolon _

cycle_form : IsForm kind.Identifier (codes "cycle")
cycle_form = (
  (lit< tt, refl, AllPass-from_list_all is_word_byte (codes "cycle") refl),
  λ e. longer (ap length e),
  λ e. longer (ap length e),
)
  where
    longer : ◌≡◌ {A = ℕ} 5 1 → ⊥
    longer e = omega (arith, e)

module _ (known : Known) where
  others_spelled : (letters : Letters) → AllAre letters → (following : List ℕ) (rest : List Piece) → StandsApart following → IsSpelled following rest
      → IsSpelled (flat_map (λ (t : List ℕ). codes "; " ++ t) (texts_of letters) ++ following) (other_pieces letters ++ rest)
  others_spelled [] all following rest apart spelled = spelled
  others_spelled (f ∷ letters) all following rest apart spelled =
      let after : List ℕ = flat_map (λ (t : List ℕ). codes "; " ++ t) (texts_of letters) ++ following in
      let more : IsSpelled after (other_pieces letters ++ rest) = others_spelled letters all.1 following rest apart spelled in
      let one : IsSpelled (formula.text_of f ++ after) (pieces_of f ++ (other_pieces letters ++ rest)) =
      formula_spelled known disjunctive f all.0 after (other_pieces letters ++ rest) (apart_others letters following apart) more in
      let whole : IsSpelled (59 ∷ 32 ∷ (formula.text_of f ++ after)) (semicolon_piece ∷ (pieces_of f ++ (other_pieces letters ++ rest))) =
      semicolon_spelled (32 ∷ (formula.text_of f ++ after)) (pieces_of f ++ (other_pieces letters ++ rest)) (space_spelled (formula.text_of f ++ after) (pieces_of f ++ (other_pieces letters ++ rest)) one) in
      subst (λ (bytes : List ℕ). IsSpelled (59 ∷ 32 ∷ bytes) (other_pieces (f ∷ letters) ++ rest))
      (sym (append_assoc (formula.text_of f) (flat_map (λ (t : List ℕ). codes "; " ++ t) (texts_of letters)) following))
      (subst (λ (ps : List Piece). IsSpelled (59 ∷ 32 ∷ (formula.text_of f ++ after)) (semicolon_piece ∷ ps)) (sym (append_assoc (pieces_of f) (other_pieces letters) rest)) whole)

  stem_spelled : (letters : Letters) → AllAre letters → (following : List ℕ) (rest : List Piece) → IsSpelled following rest
      → IsSpelled (flat_map (λ (t : List ℕ). t ++ codes "; ") (texts_of letters) ++ following) (stem_pieces letters ++ rest)
  stem_spelled [] all following rest spelled = spelled
  stem_spelled (f ∷ letters) all following rest spelled =
      let after : List ℕ = flat_map (λ (t : List ℕ). t ++ codes "; ") (texts_of letters) ++ following in
      let more : IsSpelled after (stem_pieces letters ++ rest) = stem_spelled letters all.1 following rest spelled in
      let one : IsSpelled (formula.text_of f ++ (59 ∷ 32 ∷ after)) (pieces_of f ++ (semicolon_piece ∷ (stem_pieces letters ++ rest))) =
      formula_spelled known disjunctive f all.0 (59 ∷ 32 ∷ after) (semicolon_piece ∷ (stem_pieces letters ++ rest)) (apart_semicolon (32 ∷ after))
      (semicolon_spelled (32 ∷ after) (stem_pieces letters ++ rest) (space_spelled after (stem_pieces letters ++ rest) more)) in
      let bytes_is : flat_map (λ (t : List ℕ). t ++ codes "; ") (texts_of (f ∷ letters)) ++ following ≡ formula.text_of f ++ (59 ∷ 32 ∷ after) = simp append_assoc in
      let pieces_are : stem_pieces (f ∷ letters) ++ rest ≡ pieces_of f ++ (semicolon_piece ∷ (stem_pieces letters ++ rest)) = simp append_assoc in
      subst (λ (bytes : List ℕ). IsSpelled bytes (stem_pieces (f ∷ letters) ++ rest)) (sym bytes_is)
      (subst (IsSpelled (formula.text_of f ++ (59 ∷ 32 ∷ after))) (sym pieces_are) one)

  cycle_spelled : (first : Formula) (others : Letters) → IsAt disjunctive first → AllAre others
      → IsSpelled (codes "cycle{" ++ ((formula.text_of first ++ flat_map (λ (t : List ℕ). codes "; " ++ t) (texts_of others)) ++ codes "}")) (cycle_pieces first others)
  cycle_spelled first others is all =
      let close : IsSpelled (125 ∷ []) end_pieces = end_spelled known [] [] nothing_spelled in
      let rest : IsSpelled (flat_map (λ (t : List ℕ). codes "; " ++ t) (texts_of others) ++ (125 ∷ [])) (other_pieces others ++ end_pieces) =
      others_spelled others all (125 ∷ []) end_pieces (apart_end []) close in
      let one : IsSpelled (formula.text_of first ++ (flat_map (λ (t : List ℕ). codes "; " ++ t) (texts_of others) ++ (125 ∷ []))) (pieces_of first ++ (other_pieces others ++ end_pieces)) =
      formula_spelled known disjunctive first is _ (other_pieces others ++ end_pieces) (apart_others others (125 ∷ []) (apart_end [])) rest in
      let inner : IsSpelled ((formula.text_of first ++ flat_map (λ (t : List ℕ). codes "; " ++ t) (texts_of others)) ++ (125 ∷ [])) ((pieces_of first ++ other_pieces others) ++ end_pieces) =
      subst (λ (bytes : List ℕ). IsSpelled bytes ((pieces_of first ++ other_pieces others) ++ end_pieces))
      (sym (append_assoc (formula.text_of first) (flat_map (λ (t : List ℕ). codes "; " ++ t) (texts_of others)) (125 ∷ [])))
      (subst (IsSpelled (formula.text_of first ++ (flat_map (λ (t : List ℕ). codes "; " ++ t) (texts_of others) ++ (125 ∷ [])))) (sym (append_assoc (pieces_of first) (other_pieces others) end_pieces)) one) in
      word_spelled known (codes "cycle") (123 ∷ ((formula.text_of first ++ flat_map (λ (t : List ℕ). codes "; " ++ t) (texts_of others)) ++ (125 ∷ [])))
      (piece kind.OpenBrace 0 (codes "{") ∷ ((pieces_of first ++ other_pieces others) ++ end_pieces)) cycle_form (apart_brace _)
      (brace_spelled known _ _ inner)

-- ---- the word that is read

module _ (names : List (List ℕ)) where
  abbrev raws : Letters → List RawLabelTree
  raws letters = map (raw_of names) letters

  abbrev symbols : List Piece → List ExpressionSymbol
  symbols pieces = map (symbol_of names) pieces

  stem_read : (letters : Letters) → AllAre letters → symbols (stem_pieces letters) ≡ stem_symbols (raws letters)
  stem_read [] all = refl
  stem_read (f ∷ letters) all =
      map-append (symbol_of names) (pieces_of f ++ semicolon_piece ∷ []) (stem_pieces letters)
      ∙ ap₂ (λ (ss ts : List ExpressionSymbol). ss ++ ts)
      (map-append (symbol_of names) (pieces_of f) (semicolon_piece ∷ []) ∙ ap (λ (ss : List ExpressionSymbol). ss ++ sign kind.End ∷ []) (symbols_of names disjunctive f all.0))
      (stem_read letters all.1)

  others_read : (letters : Letters) → AllAre letters → symbols (other_pieces letters) ≡ other_symbols (raws letters)
  others_read [] all = refl
  others_read (f ∷ letters) all =
      map-append (symbol_of names) (semicolon_piece ∷ pieces_of f) (other_pieces letters)
      ∙ ap₂ (λ (ss ts : List ExpressionSymbol). (sign kind.End ∷ ss) ++ ts) (symbols_of names disjunctive f all.0) (others_read letters all.1)

  word_read : (stem : Letters) (first : Formula) (others : Letters) → AllAre stem → IsAt disjunctive first → AllAre others
      → symbols (word_pieces stem first others) ≡ word_symbols (raws stem) (raw_of names first ∷ raws others)
  word_read stem first others stem_are is others_are =
      map-append (symbol_of names) (stem_pieces stem) (cycle_pieces first others)
      ∙ ap₂ (λ (ss ts : List ExpressionSymbol). ss ++ (sign kind.Body ∷ sign kind.OpenBrace ∷ ts)) (stem_read stem stem_are)
      (map-append (symbol_of names) (pieces_of first ++ other_pieces others) end_pieces
      ∙ ap (λ (ss : List ExpressionSymbol). ss ++ sign kind.CloseBrace ∷ [])
      (map-append (symbol_of names) (pieces_of first) (other_pieces others)
      ∙ ap₂ (λ (ss ts : List ExpressionSymbol). ss ++ ts) (symbols_of names disjunctive first is) (others_read others others_are)))

  raws_are : (letters : Letters) → AllAre letters → AllByRecursion (IsOf disjunctive) (raws letters)
  raws_are [] all = tt
  raws_are (f ∷ letters) all = (raw_is names disjunctive f all.0, raws_are letters all.1)

-- what stands along letters that were made of others
along_made : {A B : Type 0} (make : A → B) (first : A) (others : List A) (i : ℕ) (rest : List A) → along (make first) (map make others) (map make rest) i ≡ make (along first others rest i)
along_made make first others zero [] = refl
along_made make first others zero (x ∷ xs) = refl
along_made make first others (suc i) [] = along_made make first others i others
along_made make first others (suc i) (x ∷ xs) = along_made make first others i xs

-- what holds of each letter holds along them
along_all : {A : Type 0} (P : A → Type 0) (first : A) (others : List A) → P first → AllByRecursion P others → (i : ℕ) (rest : List A) → AllByRecursion P rest → P (along first others rest i)
along_all P first others is all zero [] rest_all = is
along_all P first others is all zero (x ∷ xs) rest_all = rest_all.0
along_all P first others is all (suc i) [] rest_all = along_all P first others is all i others all
along_all P first others is all (suc i) (x ∷ xs) rest_all = along_all P first others is all i xs rest_all.1

module _ (known : Known) (stem : Letters) (first : Formula) (others : Letters) (stem_are : AllAre stem) (first_is : IsAt disjunctive first) (others_are : AllAre others) where
  abbrev source : List ℕ
  source = text_of_letters (texts_of stem) (formula.text_of first) (texts_of others)

  pub stands : Stands source 0 (word_pieces stem first others)
  stands = (stem_spelled known stem stem_are _ (cycle_pieces first others) (cycle_spelled known first others first_is others_are)).there source 0 (omega arith) refl

  abbrev names : List (List ℕ)
  names = names_of stands.tokens

  abbrev pub word : SymbolicWord
  word = record { names = names; stem = raws names stem; first = raw_of names first; others = raws names others }

  numbered : AreNumbered names (word_pieces stem first others)
  numbered = subst (AreNumbered names) stands.are (pieces_numbered names stands.tokens (all_among [] stands.tokens))

  is_read : ReadsWord (map (read_as names) stands.tokens) word.stem (word.first ∷ word.others)
  is_read = record {
    spells = symbols_read names stands.tokens ∙ ap (λ (ps : List Piece). map (symbol_of names) ps) stands.are
        ∙ word_read names stem first others stem_are first_is others_are;
    stem_is = raws_are names stem stem_are;
    cycle_is = (raw_is names disjunctive first first_is, raws_are names others others_are);
    longer = omega arith;
  }

  pub word_is : length source ≤ most_text → IsWordText source word
  word_is short = record {
    short = short;
    tokens = map (read_as names) stands.tokens;
    read = record {
      own = stands.tokens;
      cut = record { end = stands.end; cuts = stands.cuts; rest = stands.rest };
      names_are = refl;
      as_read = all_as_read names stands.tokens (all_among [] stands.tokens);
    };
    reads = is_read;
  }

  -- each letter has its names among those of the word
  stem_numbered : (letters : Letters) (rest : List Piece) → AreNumbered names (stem_pieces letters ++ rest) → AllByRecursion (λ (f : Formula). AreNumbered names (pieces_of f)) letters × AreNumbered names rest
  stem_numbered [] rest all = (tt, all)
  stem_numbered (f ∷ letters) rest all =
      let parts = numbered_parts names (pieces_of f ++ semicolon_piece ∷ []) (stem_pieces letters ++ rest) (subst (AreNumbered names) (append_assoc (pieces_of f ++ semicolon_piece ∷ []) (stem_pieces letters) rest) all) in
      let more = stem_numbered letters rest parts.1 in
      (((numbered_parts names (pieces_of f) (semicolon_piece ∷ []) parts.0).0, more.0), more.1)

  others_numbered : (letters : Letters) → AreNumbered names (other_pieces letters) → AllByRecursion (λ (f : Formula). AreNumbered names (pieces_of f)) letters
  others_numbered [] all = tt
  others_numbered (f ∷ letters) all =
      let parts = numbered_parts names (semicolon_piece ∷ pieces_of f) (other_pieces letters) all in
      (parts.0.1, others_numbered letters parts.1)

  letter_numbered : (i : ℕ) → AreNumbered names (pieces_of (along first others stem i))
  letter_numbered i =
      let parts = stem_numbered stem (cycle_pieces first others) numbered in
      let around = numbered_parts names (pieces_of first ++ other_pieces others) end_pieces parts.1.1.1 in
      let both = numbered_parts names (pieces_of first) (other_pieces others) around.0 in
      along_all (λ (f : Formula). AreNumbered names (pieces_of f)) first others both.0 (others_numbered others both.1) i stem parts.0

  letter_is : (i : ℕ) → IsAt disjunctive (along first others stem i)
  letter_is i = along_all (IsAt disjunctive) first others first_is others_are i stem stem_are

  -- the word admits a word exactly if the formula at each index is true
  letter_said : (other : ℕ → List ℕ → Bool) (i : ℕ)
      → is_true_letter (λ (k : ℕ). other i (slice_index_or names k [])) (along word.first word.others word.stem i) ≡ true_where (other i) (along first others stem i)
  letter_said other i =
      ap (is_true_letter (λ (k : ℕ). other i (slice_index_or names k []))) (along_made (raw_of names) first others i stem)
      ∙ said_same names (other i) disjunctive (along first others stem i) (letter_is i) (letter_numbered i)

  pub admits_true : (other : ℕ → List ℕ → Bool) → Admits word other → (i : ℕ) → true_where (other i) (along first others stem i) ≡ true
  admits_true other admitted i = sym (letter_said other i) ∙ admitted i

  pub true_admits : (other : ℕ → List ℕ → Bool) → ((i : ℕ) → true_where (other i) (along first others stem i) ≡ true) → Admits word other
  true_admits other all i = letter_said other i ∙ all i

  pub admits_fits : (other : ℕ → List ℕ → Bool) → Admits word other → Fits source other
  admits_fits other admitted = record {
    stem = texts_of stem;
    first = formula.text_of first;
    others = texts_of others;
    written = refl;
    true_there = λ i.
        subst (λ (text : List ℕ). HasTruth (other i) part.formula text true) (sym (along_made formula.text_of first others i stem))
        (subst (HasTruth (other i) part.formula (formula.text_of (along first others stem i))) (admits_true other admitted i)
        (truth_of (other i) disjunctive (along first others stem i) (letter_is i)));
  }

-- ---- texts that a word fits

-- a letter is the text of a formula
record IsLetter (text : List ℕ) : Type 0 where
  pub said : Formula
  pub is : IsAt disjunctive said
  pub written : text ≡ formula.text_of said

letter_of : (held : List ℕ → Bool) (text : List ℕ) → HasTruth held part.formula text true → IsLetter text
letter_of held text h = let one = said_of held part.formula text true h in record { said = one.said; is = one.is; written = one.written }

-- each of some texts is
record AreLetters (texts : List (List ℕ)) : Type 0 where
  pub letters : Letters
  pub are : AllAre letters
  pub written : texts ≡ texts_of letters

letters_of : (texts : List (List ℕ)) → ((k : ℕ) → k < length texts → IsLetter (slice_index_or texts k [])) → AreLetters texts
letters_of [] each = record { letters = []; are = tt; written = refl }
letters_of (text ∷ texts) each =
    let one = each 0 (omega arith) in
    let rest = letters_of texts (λ k below. each (suc k) (omega (arith, below))) in
    record { letters = one.said ∷ rest.letters; are = (one.is, rest.are); written = ap₂ (λ (t : List ℕ) (ts : List (List ℕ)). t ∷ ts) one.written rest.written }

-- the texts along a stem and a cycle
stem_along : {A : Type 0} (d first : A) (others stem : List A) (k : ℕ) → k < length stem → along first others stem k ≡ slice_index_or stem k d
stem_along d first others [] k below = absurd (omega (arith, below))
stem_along d first others (x ∷ xs) zero below = refl
stem_along d first others (x ∷ xs) (suc k) below = stem_along d first others xs k (omega (arith, below))

after_along : {A : Type 0} (first : A) (others stem : List A) (k : ℕ) → along first others stem (length stem + k) ≡ along first others [] k
after_along first others [] k = let e : 0 + k ≡ k = omega arith in ap (along first others []) e
after_along first others (x ∷ xs) k =
    let e : suc (length xs) + k ≡ suc (length xs + k) = omega arith in
    ap (along first others (x ∷ xs)) e ∙ after_along first others xs k

-- so is each text of a word that fits
module _ (text : List ℕ) (named : ℕ → List ℕ → Bool) (fits : Fits text named) where
  letter_there : (i : ℕ) → IsLetter (along fits.first fits.others fits.stem i)
  letter_there i = letter_of (named i) (along fits.first fits.others fits.stem i) (fits.true_there i)

  stem_letters : AreLetters fits.stem
  stem_letters = letters_of fits.stem (λ k below. subst IsLetter (stem_along [] fits.first fits.others fits.stem k below) (letter_there k))

  first_letter : IsLetter fits.first
  first_letter = subst IsLetter (after_along fits.first fits.others fits.stem 0) (letter_there (length fits.stem + 0))

  other_letters : AreLetters fits.others
  other_letters = letters_of fits.others
      (λ k below. subst IsLetter (after_along fits.first fits.others fits.stem (suc k) ∙ stem_along [] fits.first fits.others fits.others k below) (letter_there (length fits.stem + suc k)))

  module _ (known : Known) where
    abbrev its : SymbolicWord
    its = word known stem_letters.letters first_letter.said other_letters.letters stem_letters.are first_letter.is other_letters.are

    written : text ≡ text_of_letters (texts_of stem_letters.letters) (formula.text_of first_letter.said) (texts_of other_letters.letters)
    written = fits.written ∙ (λ i. text_of_letters (stem_letters.written i) (first_letter.written i) (other_letters.written i))

    its_read : length text ≤ most_text → IsWordText text its
    its_read short =
        subst (λ (t : List ℕ). IsWordText t its) (sym written)
        (word_is known stem_letters.letters first_letter.said other_letters.letters stem_letters.are first_letter.is other_letters.are (subst (λ (t : List ℕ). length t ≤ most_text) written short))

    its_fits : (other : ℕ → List ℕ → Bool) → Admits its other → Fits text other
    its_fits other admitted =
        subst (λ (t : List ℕ). Fits t other) (sym written)
        (admits_fits known stem_letters.letters first_letter.said other_letters.letters stem_letters.are first_letter.is other_letters.are other admitted)

    -- the word that fits is admitted
    true_formula : (i : ℕ) → true_where (named i) (along first_letter.said other_letters.letters stem_letters.letters i) ≡ true
    true_formula i =
        let f : Formula = along first_letter.said other_letters.letters stem_letters.letters i in
        let is : IsAt disjunctive f = along_all (IsAt disjunctive) first_letter.said other_letters.letters first_letter.is other_letters.are i stem_letters.letters stem_letters.are in
        let here : along fits.first fits.others fits.stem i ≡ formula.text_of f =
        (λ j. along (first_letter.written j) (other_letters.written j) (stem_letters.written j) i) ∙ along_made formula.text_of first_letter.said other_letters.letters i stem_letters.letters in
        texts_have_one_truth (named i) (formula.text_of f) (true_where (named i) f) true (truth_of (named i) disjunctive f is)
        (subst (λ (t : List ℕ). HasTruth (named i) part.formula t true) here (fits.true_there i))

    its_admits : Admits its named
    its_admits = true_admits known stem_letters.letters first_letter.said other_letters.letters stem_letters.are first_letter.is other_letters.are named true_formula

pub fitting_read : Known → WordsOfTextsAreOne → FittingTextsAreRead
fitting_read known one text named fits short = (
  its text named fits known,
  its_read text named fits known short,
  λ other. (
    its_fits text named fits known other,
    λ fits'. subst (λ (w : SymbolicWord). Admits w other)
        (one text (its text other fits' known) (its text named fits known) (its_read text other fits' known short) (its_read text named fits known short))
        (its_admits text other fits' known),
  ),
)
