-- A strict solution text, which has no names and no hyphens, is its own bare text.
use Rattle.std.proofs.Common.{◌≡◌, ◌≢◌, ℕ, zero, suc, ◌+◌, ◌-◌, Bool, true, false, Option, Some, None, List, [], ◌∷◌, ◌++◌, length, map, get_or, take, drop, refl, ap, ap₂, sym, ◌∙◌, subst, arith, add-one, drop-cons}
use Rattle.std.specs.Prelude.{◌==◌, ◌&&◌, ◌||◌, if◌then◌else◌}
use Rattle.std.specs.List.{AllByRecursion, AllPass, flat_map}
use Rattle.std.proofs.lemmas.Bool.{and_parts, cond_both, eqb-true}
use Rattle.std.proofs.lemmas.List.{drop-drop, drop_all, take-append-drop}
use Rattle.std.proofs.lemmas.List.Elements.{All-head, All-tail}
use Rattle.omega_text.specs.Bytes.{is_digit, is_white}
use Rattle.omega_text.specs.Cut.{Cuts}
use Rattle.omega_text.specs.Lexeme.{Lexeme}
use Rattle.omega_text.specs.pg.Cut.{IsGap}
use Rattle.omega_text.specs.pg.Format.{pg_format}
use Rattle.omega_text.specs.pg.Forms.{Spells}
use Rattle.omega_text.specs.pg.Laws.{NumbersArePlain}
use Rattle.omega_text.specs.declared.pg.kind.PgKind.{PgKind}
use Rattle.omega_text.specs.declared.pg.kind.PgKind.TheVariants.{Comma, Name as NameKind, Number as NumberKind, Parity, ParitySol, Semicolon}
use Rattle.omega_pg.specs.Symbols.{PgSymbol, comma, name, number, parity, paritysol, pg_symbol_of, semicolon, symbol}
use Rattle.omega_pg.specs.solution.Grammar.{SolutionLine, choice_symbols, line_symbols}
use Rattle.omega_pg.specs.solution.Text.{IsSolutionText, raw_solution}
use Rattle.omega_pg_lenient.specs.SolutionLines.{after_byte, after_quote, bare_from, bare_text, counted, is_no_choice, is_passed, place_in_line, shown_in_line}
use Rattle.omega_pg_lenient.specs.SolutionText.{StrictSolutionsAreLenient}
use Rattle.omega_pg_lenient.specs.declared.line_place.LineContext.{LineContext}
use Rattle.omega_pg_lenient.specs.declared.line_place.LineContext.TheVariants.{Between, Choice, Name, Number, Passed}
use Rattle.omega_pg_lenient.specs.declared.line_place.LinePlace.{LinePlace}
use Rattle.omega_pg_lenient.proofs.texts.StrictPlain.{strict_plain}

-- neither a quote nor a hyphen
abbrev pub IsClean : ℕ → Type 0
IsClean byte = (byte ≢ 34) × (byte ≢ 45)

-- outside names, and not in `-1`
abbrev pub is_outside : LineContext → Bool
is_outside Between = true
is_outside Number = true
is_outside Name = false
is_outside Passed = false
is_outside Choice = false

not_passed : (context : LineContext) → is_outside context ≡ true → is_passed context ≡ false
not_passed Between outside = refl
not_passed Number outside = refl
not_passed Name outside = refl
not_passed Passed outside = cc
not_passed Choice outside = cc

-- after a clean byte a line is outside names
pub after_clean : (context : LineContext) (numbers byte : ℕ) (rest : List ℕ) → IsClean byte → is_outside (after_byte context numbers byte rest).context ≡ true
after_clean context numbers byte rest clean =
    cond_both (is_digit byte) (place_in_line Number (counted context numbers)) _ (λ (p : LinePlace). is_outside p.context ≡ true) (λ _. refl) (λ _.
    cond_both (byte == 59) (place_in_line Between 0) _ (λ (p : LinePlace). is_outside p.context ≡ true) (λ _. refl) (λ _.
    cond_both (byte == 34) (place_in_line (after_quote numbers rest) numbers) _ (λ (p : LinePlace). is_outside p.context ≡ true) (λ e. absurd (clean.0 (eqb-true byte 34 e))) (λ _.
    cond_both ((byte == 45 && numbers == 2) && is_no_choice rest) (place_in_line Choice numbers) (place_in_line Between numbers) (λ (p : LinePlace). is_outside p.context ≡ true)
    (λ e. absurd (clean.1 (eqb-true byte 45 (and_parts (byte == 45) (numbers == 2) (and_parts (byte == 45 && numbers == 2) (is_no_choice rest) e).0).0)))
    (λ _. refl))))

-- such a byte stays
pub shown_clean : (context next : LineContext) (byte : ℕ) → is_outside context ≡ true → is_outside next ≡ true → shown_in_line context next byte ≡ byte
shown_clean context next byte here there =
    ap₂ (λ s t. if s || t then 32 else byte) (not_passed context here) (not_passed next there)

-- so do many
clean_bare : (context : LineContext) (numbers : ℕ) (bytes : List ℕ) → is_outside context ≡ true → AllByRecursion IsClean bytes
    → bare_from (place_in_line context numbers) bytes ≡ bytes
clean_bare context numbers [] outside clean = refl
clean_bare Between numbers (byte ∷ rest) outside clean =
    let next = after_byte Between numbers byte rest in
    let there = after_clean Between numbers byte rest clean.0 in
    ap₂ ◌∷◌ (shown_clean Between next.context byte refl there) (clean_bare next.context next.numbers rest there clean.1)
clean_bare Number numbers (byte ∷ rest) outside clean =
    let next = after_byte Number numbers byte rest in
    let there = after_clean Number numbers byte rest clean.0 in
    ap₂ ◌∷◌ (shown_clean Number next.context byte refl there) (clean_bare next.context next.numbers rest there clean.1)
clean_bare Name numbers (byte ∷ rest) outside clean = (let clash : false ≡ true = outside in cc)
clean_bare Passed numbers (byte ∷ rest) outside clean = (let clash : false ≡ true = outside in cc)
clean_bare Choice numbers (byte ∷ rest) outside clean = (let clash : false ≡ true = outside in cc)

-- what is clean in parts is clean
clean_join : (xs ys : List ℕ) → AllByRecursion IsClean xs → AllByRecursion IsClean ys → AllByRecursion IsClean (xs ++ ys)
clean_join [] ys front back = back
clean_join (x ∷ xs) ys front back = (front.0, clean_join xs ys front.1 back)

-- a byte that passes a test which neither a quote nor a hyphen passes
pub clean_from : (test : ℕ → Bool) (byte : ℕ) → test 34 ≡ false → test 45 ≡ false → test byte ≡ true → IsClean byte
clean_from test byte quote hyphen passes = (
  (λ same. (let clash : true ≡ false = sym passes ∙ ap test same ∙ quote in cc)),
  (λ same. (let clash : true ≡ false = sym passes ∙ ap test same ∙ hyphen in cc)),
)

digits_clean : (text : List ℕ) → AllPass is_digit text → AllByRecursion IsClean text
digits_clean [] all = tt
digits_clean (byte ∷ text) all =
    (clean_from is_digit byte refl refl (All-head (λ b. is_digit b ≡ true) byte text all), digits_clean text (All-tail (λ b. is_digit b ≡ true) byte text all))

-- letters of `parity` and `paritysol`, and signs
abbrev is_letter_or_sign : ℕ → Bool
is_letter_or_sign byte = ((byte == 59 || byte == 44) || (byte == 112 || byte == 97)) || (((byte == 114 || byte == 105) || (byte == 116 || byte == 121)) || ((byte == 115 || byte == 111) || byte == 108))

word_byte : (byte : ℕ) → is_letter_or_sign byte ≡ true → IsClean byte
word_byte byte passes = clean_from is_letter_or_sign byte refl refl passes

-- no symbol is a name
abbrev IsNoName : PgSymbol → Type 0
IsNoName (number n) = Unit {0}
IsNoName parity = Unit {0}
IsNoName paritysol = Unit {0}
IsNoName semicolon = Unit {0}
IsNoName comma = Unit {0}
IsNoName (name bytes) = ⊥

-- a token that is no name is clean
token_clean : NumbersArePlain → (kind : PgKind) (value : ℕ) (text : List ℕ) → Spells kind value text → IsNoName (symbol kind value text)
    → AllByRecursion IsClean text
token_clean plain NumberKind value text spells unnamed = digits_clean text ((plain text value).0 spells).0.1
token_clean plain Parity value text spells unnamed =
    subst (AllByRecursion IsClean) (sym spells.1)
    (word_byte 112 refl, (word_byte 97 refl, (word_byte 114 refl, (word_byte 105 refl, (word_byte 116 refl, (word_byte 121 refl, tt))))))
token_clean plain ParitySol value text spells unnamed =
    subst (AllByRecursion IsClean) (sym spells.1)
    (word_byte 112 refl, (word_byte 97 refl, (word_byte 114 refl, (word_byte 105 refl, (word_byte 116 refl, (word_byte 121 refl, (word_byte 115 refl, (word_byte 111 refl, (word_byte 108 refl, tt)))))))))
token_clean plain Semicolon value text spells unnamed = subst (AllByRecursion IsClean) (sym spells.1) (word_byte 59 refl, tt)
token_clean plain Comma value text spells unnamed = subst (AllByRecursion IsClean) (sym spells.1) (word_byte 44 refl, tt)
token_clean plain NameKind value text spells unnamed = absurd unnamed

-- a gap is clean, if what follows it is
gap_clean : (count : ℕ) (source : List ℕ) (from to : ℕ) → from + count ≡ to → IsGap source from to
    → AllByRecursion IsClean (drop to source) → AllByRecursion IsClean (drop from source)
gap_clean zero source from to end gap after =
    let same : to ≡ from = omega (arith, end) in
    subst (λ n. AllByRecursion IsClean (drop n source)) same after
gap_clean (suc count) source from to end gap after =
    let front : drop from source ≡ get_or source from 0 ∷ drop (from + 1) source = rw add-one (drop-cons source from 0 (omega (arith, end, gap.within))) in
    subst (AllByRecursion IsClean) (sym front) (
      clean_from is_white (get_or source from 0) refl refl (gap.white from 0 (omega arith) (omega (arith, end))),
      gap_clean count source (from + 1) to (omega (arith, end))
          (record { forward = omega (arith, end); within = gap.within; white = λ k d low high. gap.white k d (omega (arith, low)) high }) after,
    )

gap_all : (source : List ℕ) (from to : ℕ) → IsGap source from to → AllByRecursion IsClean (drop to source) → AllByRecursion IsClean (drop from source)
gap_all source from to gap after = gap_clean (to - from) source from to (omega (arith, gap.forward)) gap after

-- a text that is cut into tokens none of which is a name is clean
cut_clean : NumbersArePlain → (source : List ℕ) (from to : ℕ) (lexemes : List (Lexeme PgKind)) → Cuts pg_format source from lexemes to → IsGap source to (length source)
    → AllByRecursion IsNoName (map pg_symbol_of lexemes) → AllByRecursion IsClean (drop from source)
cut_clean plain source from to [] cuts gap unnamed =
    gap_all source from (length source) (subst (λ n. IsGap source n (length source)) (sym cuts) gap)
    (subst (AllByRecursion IsClean) (sym (drop_all (length source) source (omega arith))) tt)
cut_clean plain source from to (lexeme ∷ lexemes) cuts gap unnamed =
    let start = lexeme.span.start in
    let count = lexeme.span.end - start in
    let follows = cuts.0 in
    let bytes = drop start source in
    let long = follows.token.nonempty in
    let end : start + count ≡ lexeme.span.end = omega (arith, long) in
    let rest : AllByRecursion IsClean (drop count bytes) =
    subst (AllByRecursion IsClean) (sym (drop-drop count start source ∙ ap (λ n. drop n source) end)) (cut_clean plain source lexeme.span.end to lexemes cuts.1 gap unnamed.1) in
    let text : AllByRecursion IsClean (take count bytes) =
    subst (AllByRecursion IsClean) follows.token.text (token_clean plain lexeme.kind lexeme.value lexeme.text follows.token.spells unnamed.0) in
    gap_all source from start follows.gap
    (subst (AllByRecursion IsClean) (take-append-drop count bytes) (clean_join (take count bytes) (drop count bytes) text rest))

-- no symbol of a solution is a name
unnamed_join : (xs ys : List PgSymbol) → AllByRecursion IsNoName xs → AllByRecursion IsNoName ys → AllByRecursion IsNoName (xs ++ ys)
unnamed_join [] ys front back = back
unnamed_join (x ∷ xs) ys front back = (front.0, unnamed_join xs ys front.1 back)

choice_unnamed : (choice : Option ℕ) → AllByRecursion IsNoName (choice_symbols choice ++ semicolon ∷ [])
choice_unnamed None = (tt, tt)
choice_unnamed (Some id) = (tt, (tt, tt))

lines_unnamed : (lines : List SolutionLine) → AllByRecursion IsNoName (flat_map line_symbols lines)
lines_unnamed [] = tt
lines_unnamed (line ∷ lines) =
    unnamed_join (line_symbols line) (flat_map line_symbols lines) (tt, (tt, choice_unnamed line.successor)) (lines_unnamed lines)

-- so a strict solution text is its own bare text, and describes the same solution
pub strict_solutions : NumbersArePlain → StrictSolutionsAreLenient
strict_solutions plain nodes source solution text =
    let writes = text.writes in
    let unnamed : AllByRecursion IsNoName (map pg_symbol_of writes.lexemes) =
    subst (AllByRecursion IsNoName) (sym writes.text) (tt, (tt, (tt, lines_unnamed (raw_solution nodes solution).lines))) in
    let clean : AllByRecursion IsClean source = cut_clean plain source 0 writes.cut.end writes.lexemes writes.cut.cuts writes.cut.rest unnamed in
    let same : bare_text source ≡ source =
    ap (bare_from (place_in_line Between 0)) (strict_plain source writes.lexemes writes.cut) ∙ clean_bare Between 0 source refl clean in
    subst (λ bytes. IsSolutionText nodes bytes solution) (sym same) text
