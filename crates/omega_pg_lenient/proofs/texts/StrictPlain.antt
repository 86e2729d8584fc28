-- A strict text, which has no comments and only bytes of names in its names, is its own plain text.
use Rattle.std.proofs.Common.{◌≡◌, ◌≢◌, ℕ, zero, suc, ◌+◌, ◌-◌, ◌<◌, inl, inr, Bool, true, false, List, [], ◌∷◌, ◌++◌, length, map, get_or, take, drop, refl, ap, ap₂, sym, ◌∙◌, subst, arith, add-one, append_assoc, drop-cons}
use Rattle.std.specs.Prelude.{not, ◌==◌, ◌&&◌, ◌||◌, if◌then◌else◌}
use Rattle.std.specs.Int.{is_in_range}
use Rattle.std.specs.List.{AllPass}
use Rattle.std.proofs.lemmas.Bool.{and_parts, cond_both, eqb-true}
use Rattle.std.proofs.lemmas.List.{drop-drop, get_or-take, take-append-drop}
use Rattle.std.proofs.lemmas.List.Elements.{All-head, All-tail, All-weaker}
use Rattle.omega_text.specs.Bytes.{is_digit, is_letter, is_white, is_word_byte}
use Rattle.omega_text.specs.Cut.{Cuts, IsCut}
use Rattle.omega_text.specs.Lexeme.{Lexeme}
use Rattle.omega_text.specs.pg.Cut.{IsGap}
use Rattle.omega_text.specs.pg.Format.{pg_format}
use Rattle.omega_text.specs.pg.Forms.{IsForm, is_name_byte}
use Rattle.omega_text.specs.declared.pg.kind.PgKind.{PgKind}
use Rattle.omega_pg_lenient.specs.Plain.{begins_with_mark, plain_from, plain_text, shown_in_name}
use Rattle.omega_pg_lenient.specs.declared.context.Context.TheVariants.{Outside}
use Rattle.omega_pg_lenient.proofs.texts.PlainParts.{names_shown, others_stay}

-- a test that no quote, number sign or slash passes
record KeepsOut (test : ℕ → Bool) : Type 0 where
  quote : test 34 ≡ false
  mark : test 35 ≡ false
  slash : test 47 ≡ false

-- so what passes it is none of them
apart_from : (test : ℕ → Bool) (byte other : ℕ) → test byte ≡ true → test other ≡ false → byte ≢ other
apart_from test byte other passes fails = λ same. (let clash : true ≡ false = sym passes ∙ ap test same ∙ fails in cc)

-- a byte that passes stays
byte_stays : (test : ℕ → Bool) → KeepsOut test → (byte : ℕ) (rest : List ℕ) → test byte ≡ true → plain_from Outside (byte ∷ rest) ≡ byte ∷ plain_from Outside rest
byte_stays test keeps byte rest passes =
    others_stay byte rest (apart_from test byte 34 passes keeps.quote) (apart_from test byte 35 passes keeps.mark) (apart_from test byte 47 passes keeps.slash)

-- so do bytes that all pass
bytes_stay : (test : ℕ → Bool) → KeepsOut test → (text rest : List ℕ) → AllPass test text
    → plain_from Outside (text ++ rest) ≡ text ++ plain_from Outside rest
bytes_stay test keeps [] rest all = refl
bytes_stay test keeps (byte ∷ text) rest all =
    byte_stays test keeps byte (text ++ rest) (All-head (λ b. test b ≡ true) byte text all)
    ∙ ap (λ list. byte ∷ list) (bytes_stay test keeps text rest (All-tail (λ b. test b ≡ true) byte text all))

-- a byte of a name is shown as it is
shown_same : (byte : ℕ) → is_name_byte byte ≡ true → shown_in_name byte ≡ byte
shown_same byte named = ap (λ t. if (t || byte == 34) || byte == 10 then byte else 63) named

shown_all : (name : List ℕ) → AllPass is_name_byte name → map shown_in_name name ≡ name
shown_all [] all = refl
shown_all (byte ∷ name) all =
    ap₂ ◌∷◌ (shown_same byte (All-head (λ b. is_name_byte b ≡ true) byte name all)) (shown_all name (All-tail (λ b. is_name_byte b ≡ true) byte name all))

no_quote : (byte : ℕ) → is_name_byte byte ≡ true → not (byte == 34) ≡ true
no_quote byte named = (and_parts (is_in_range 32 126 byte) (not (byte == 34)) named).1

-- a name between quotes stays
name_stays : (name rest : List ℕ) → AllPass is_name_byte name
    → plain_from Outside ((34 ∷ (name ++ 34 ∷ [])) ++ rest) ≡ (34 ∷ (name ++ 34 ∷ [])) ++ plain_from Outside rest
name_stays name rest all =
    ap (λ list. plain_from Outside (34 ∷ list)) (append_assoc name (34 ∷ []) rest)
    ∙ names_shown name rest (All-weaker (λ b. is_name_byte b ≡ true) (λ b. not (b == 34) ≡ true) no_quote name all)
    ∙ ap (λ list. 34 ∷ (list ++ 34 ∷ plain_from Outside rest)) (shown_all name all)
    ∙ ap (λ list. 34 ∷ list) (sym (append_assoc name (34 ∷ []) (plain_from Outside rest)))

-- what a token looks like stays
form_stays : (text rest : List ℕ) → IsForm text → plain_from Outside (text ++ rest) ≡ text ++ plain_from Outside rest
form_stays text rest (inl (inl digits)) = bytes_stay is_digit (record { quote = refl; mark = refl; slash = refl }) text rest digits.1
form_stays text rest (inl (inr word)) = bytes_stay is_word_byte (record { quote = refl; mark = refl; slash = refl }) text rest word.2
form_stays text rest (inr (inl (inl is))) = subst (λ bytes. plain_from Outside (bytes ++ rest) ≡ bytes ++ plain_from Outside rest) (sym is) refl
form_stays text rest (inr (inl (inr is))) = subst (λ bytes. plain_from Outside (bytes ++ rest) ≡ bytes ++ plain_from Outside rest) (sym is) refl
form_stays text rest (inr (inr quoted)) =
    subst (λ bytes. plain_from Outside (bytes ++ rest) ≡ bytes ++ plain_from Outside rest) (sym quoted.1) (name_stays quoted.0 rest quoted.2)

-- and it does not begin as a byte order mark does
form_first : (text : List ℕ) → IsForm text → get_or text 0 0 ≡ 239 → ⊥
form_first text (inl (inl digits)) first =
    (let clash : true ≡ false = sym (digits.1 0 0 digits.0) ∙ ap is_digit first in cc)
form_first text (inl (inr word)) first = (let clash : true ≡ false = sym word.1 ∙ ap is_letter first in cc)
form_first text (inr (inl (inl is))) first = (let clash : 59 ≡ 239 = sym (ap (λ t. get_or t 0 0) is) ∙ first in omega (arith, clash))
form_first text (inr (inl (inr is))) first = (let clash : 44 ≡ 239 = sym (ap (λ t. get_or t 0 0) is) ∙ first in omega (arith, clash))
form_first text (inr (inr quoted)) first = (let clash : 34 ≡ 239 = sym (ap (λ t. get_or t 0 0) quoted.1) ∙ first in omega (arith, clash))

-- a gap stays, if what follows it does
gap_stays : (count : ℕ) (source : List ℕ) (from to : ℕ) → from + count ≡ to → IsGap source from to
    → plain_from Outside (drop to source) ≡ drop to source → plain_from Outside (drop from source) ≡ drop from source
gap_stays zero source from to end gap after =
    let same : to ≡ from = omega (arith, end) in
    subst (λ n. plain_from Outside (drop n source) ≡ drop n source) same after
gap_stays (suc count) source from to end gap after =
    let front : drop from source ≡ get_or source from 0 ∷ drop (from + 1) source = rw add-one (drop-cons source from 0 (omega (arith, end, gap.within))) in
    let rest : plain_from Outside (drop (from + 1) source) ≡ drop (from + 1) source =
    gap_stays count source (from + 1) to (omega (arith, end))
    (record { forward = omega (arith, end); within = gap.within; white = λ k d low high. gap.white k d (omega (arith, low)) high }) after in
    ap (plain_from Outside) front
    ∙ byte_stays is_white (record { quote = refl; mark = refl; slash = refl }) (get_or source from 0) (drop (from + 1) source)
    (gap.white from 0 (omega arith) (omega (arith, end)))
    ∙ ap (λ list. get_or source from 0 ∷ list) rest
    ∙ sym front

gap_whole : (source : List ℕ) (from to : ℕ) → IsGap source from to
    → plain_from Outside (drop to source) ≡ drop to source → plain_from Outside (drop from source) ≡ drop from source
gap_whole source from to gap after = gap_stays (to - from) source from to (omega (arith, gap.forward)) gap after

-- what is cut into tokens stays
cut_stays : (source : List ℕ) (from to : ℕ) (lexemes : List (Lexeme PgKind)) → Cuts pg_format source from lexemes to → IsGap source to (length source)
    → plain_from Outside (drop from source) ≡ drop from source
cut_stays source from to [] cuts gap =
    gap_whole source from (length source) (subst (λ n. IsGap source n (length source)) (sym cuts) gap)
    (subst (λ list. plain_from Outside list ≡ list) (sym (nothing source)) refl)
  where
    nothing : (xs : List ℕ) → drop (length xs) xs ≡ []
    nothing [] = refl
    nothing (x ∷ xs) = nothing xs
cut_stays source from to (lexeme ∷ lexemes) cuts gap =
    let start = lexeme.span.start in
    let count = lexeme.span.end - start in
    let follows = cuts.0 in
    let bytes = drop start source in
    let back : drop count bytes ≡ drop lexeme.span.end source =
    drop-drop count start source ∙ ap (λ n. drop n source) (the_end start lexeme.span.end follows.token.nonempty) in
    let rest : plain_from Outside (drop count bytes) ≡ drop count bytes =
    subst (λ list. plain_from Outside list ≡ list) (sym back) (cut_stays source lexeme.span.end to lexemes cuts.1 gap) in
    gap_whole source from start follows.gap
    (ap (plain_from Outside) (sym (take-append-drop count bytes))
    ∙ form_stays (take count bytes) (drop count bytes) follows.token.longest.form
    ∙ ap (λ list. take count bytes ++ list) rest
    ∙ take-append-drop count bytes)
  where
    the_end : (start end : ℕ) → start < end → start + (end - start) ≡ end
    the_end start end longer = omega (arith, longer)

-- it has no byte order mark
first_of_mark : (source : List ℕ) → begins_with_mark source ≡ true → get_or source 0 0 ≡ 239
first_of_mark source mark =
    eqb-true (get_or source 0 0) 239
    (and_parts (get_or source 0 0 == 239) (get_or source 1 0 == 187)
    (and_parts (get_or source 0 0 == 239 && get_or source 1 0 == 187) (get_or source 2 0 == 191) mark).0).0

gap_unmarked : (source : List ℕ) (to : ℕ) → IsGap source 0 to → 0 < to → get_or source 0 0 ≡ 239 → ⊥
gap_unmarked source to gap longer first = (let clash : true ≡ false = sym (gap.white 0 0 (omega arith) longer) ∙ ap is_white first in cc)

-- the first byte of a token that is at the beginning
token_unmarked : (source : List ℕ) (lexeme : Lexeme PgKind) → pg_format.follows source 0 lexeme → get_or source 0 0 ≡ 239 → ⊥
token_unmarked source lexeme follows first =
    either lexeme.span.start refl
  where
    either : (start : ℕ) → lexeme.span.start ≡ start → ⊥
    either zero at_first =
        let count = lexeme.span.end - lexeme.span.start in
        let long = follows.token.nonempty in
        let head : get_or (take count (drop lexeme.span.start source)) 0 0 ≡ get_or source 0 0 =
        get_or-take count (drop lexeme.span.start source) 0 0 (omega (arith, long)) ∙ ap (λ n. get_or (drop n source) 0 0) at_first in
        form_first (take count (drop lexeme.span.start source)) follows.token.longest.form (head ∙ first)
    either (suc n) later = gap_unmarked source lexeme.span.start follows.gap (omega (arith, later)) first

unmarked : (source : List ℕ) (to : ℕ) (lexemes : List (Lexeme PgKind)) → Cuts pg_format source 0 lexemes to → IsGap source to (length source)
    → get_or source 0 0 ≡ 239 → ⊥
unmarked [] to [] cuts gap first = (let clash : 0 ≡ 239 = first in omega (arith, clash))
unmarked (byte ∷ source) to [] cuts gap first =
    gap_unmarked (byte ∷ source) (length (byte ∷ source)) (subst (λ n. IsGap (byte ∷ source) n (length (byte ∷ source))) (sym cuts) gap) (omega arith) first
unmarked source to (lexeme ∷ lexemes) cuts gap first = token_unmarked source lexeme cuts.0 first

-- so it is its own plain text
pub strict_plain : (source : List ℕ) (lexemes : List (Lexeme PgKind)) → IsCut pg_format source lexemes → plain_text source ≡ source
strict_plain source lexemes cut =
    cond_both (begins_with_mark source) (32 ∷ 32 ∷ 32 ∷ plain_from Outside (drop 3 source)) (plain_from Outside source) (λ text. text ≡ source)
    (λ mark. absurd (unmarked source cut.end lexemes cut.cuts cut.rest (first_of_mark source mark)))
    (λ _. cut_stays source 0 cut.end lexemes cut.cuts cut.rest)
