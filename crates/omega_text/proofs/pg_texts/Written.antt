-- How written tokens are cut.
use Rattle.std.proofs.Common.{◌≡◌, ℕ, ◌+◌, ◌-◌, ◌<◌, ◌≤◌, ◌↔◌, inl, inr, ⊎_elim, Bool, false, List, [], ◌∷◌, ◌++◌, length, get_or, take, drop, refl, sym, ap, ◌∙◌, subst, arith, codes, append_assoc, length-append, length-drop}
use Rattle.std.proofs.lemmas.Fmt.{decimal_digit, decimal_is_IsNumeral, first_decimal}
use Rattle.std.proofs.lemmas.List.{drop-drop, drop_at, get_or-append_right, get_or-drop, get_or_append_left, take_at}
use Rattle.std.proofs.lemmas.List.Sums.{prefix_len_is}
use Rattle.std.proofs.str.Laws.{order}
use Rattle.std.specs.Fmt.{decimal}
use Rattle.std.specs.List.{AllPass, prefix_len}
use Rattle.std.specs.Str.Parse.{digits_value}
use Rattle.omega_text.specs.Bytes.{is_digit, is_letter, is_white, is_word_byte}
use Rattle.omega_text.specs.pg.Cut.{BeginsWith, Follows, IsGap}
use Rattle.omega_text.specs.Limits.{most_number}
use Rattle.omega_text.specs.declared.pg.kind.PgKind.{PgKind}
use Rattle.omega_text.specs.declared.pg.kind.PgKind.TheVariants.{Number}
use Rattle.omega_text.specs.Forms.{IsDigits, IsWord}
use Rattle.omega_text.specs.pg.Forms.{IsLongest, IsQuoted, IsSign, Spells, quoted, is_name_byte}
use Rattle.omega_text.specs.Lexeme.{lexeme_at}
use Rattle.omega_text.proofs.pg_texts.Longest.{head, longest_digits, longest_sign, longest_word}
use Rattle.omega_text.proofs.pg_texts.Numbers.{decimal_digits, decimal_value}
use Rattle.omega_text.proofs.pg_texts.Quoted.{longest_quoted}
use Rattle.omega_text.proofs.pg_texts.Tokens.{begins_at}

-- a run of a class goes as far as the text of it, if what follows stops it
run_of : (class : ℕ → Bool) (text rest : List ℕ) → AllPass class text → class (head rest) ≡ false → prefix_len class (text ++ rest) ≡ length text
run_of class text rest all stop =
    let size = length-append text rest in
    let none : length text - length text ≡ 0 = omega arith in
    prefix_len_is class (text ++ rest) (length text) 0 (omega arith)
    (λ k below. ap class (get_or_append_left text rest 0 k below) ∙ all k 0 below)
    (λ more. ap class (get_or-append_right text rest (length text) (length text) 0 refl (omega arith) ∙ ap (λ n. get_or rest n 0) none) ∙ stop)

-- a numeral is the longest form before what is no digit
pub numeral_longest : (value : ℕ) (rest : List ℕ) → is_digit (head rest) ≡ false → IsLongest (decimal value ++ rest) (length (decimal value))
numeral_longest value rest stop =
    let digits = decimal_digits value in
    let size = length-append (decimal value) rest in
    let first = ap is_digit (get_or_append_left (decimal value) rest 0 0 digits.0) ∙ digits.1 0 0 digits.0 in
    subst (IsLongest (decimal value ++ rest)) (run_of is_digit (decimal value) rest digits.1 stop)
    (longest_digits (decimal value ++ rest) (omega (arith, digits.0)) first).0

-- a word is the longest form before what can't go on in a word
pub word_longest : (text rest : List ℕ) → IsWord text → is_word_byte (head rest) ≡ false → IsLongest (text ++ rest) (length text)
word_longest text rest word stop =
    let size = length-append text rest in
    let first = ap is_letter (get_or_append_left text rest 0 0 word.0) ∙ word.1 in
    subst (IsLongest (text ++ rest)) (run_of is_word_byte text rest word.2 stop)
    (longest_word (text ++ rest) (omega (arith, word.0)) first).0

-- a sign is the longest form
pub sign_longest : (text rest : List ℕ) → IsSign text → IsLongest (text ++ rest) (length text)
sign_longest text rest sign = ⊎_elim
    (λ semicolon. subst (λ t. IsLongest (t ++ rest) (length t)) (sym semicolon) (longest_sign (codes ";" ++ rest) (omega arith) (inl refl)))
    (λ comma. subst (λ t. IsLongest (t ++ rest) (length t)) (sym comma) (longest_sign (codes "," ++ rest) (omega arith) (inr refl)))
    sign

-- a name between quotes is the longest form
pub name_longest : (text rest : List ℕ) → IsQuoted text → IsLongest (text ++ rest) (length text)
name_longest text rest (name, is, all) =
    let following = (name ++ 34 ∷ []) ++ rest in
    let split : following ≡ name ++ (34 ∷ rest) = append_assoc name (34 ∷ []) rest in
    let count : prefix_len is_name_byte following ≡ length name = ap (prefix_len is_name_byte) split ∙ run_of is_name_byte name (34 ∷ rest) all refl in
    let size = length-append name (34 ∷ []) in
    let longer = length-append (name ++ 34 ∷ []) rest in
    let none : length name - length name ≡ 0 = omega arith in
    let quote : get_or following (prefix_len is_name_byte following) 0 ≡ 34 =
    (λ i. get_or (split i) (count i) 0) ∙ get_or-append_right name (34 ∷ rest) (length name) (length name) 0 refl (omega arith) ∙ ap (λ n. get_or (34 ∷ rest) n 0) none in
    let whole : 1 + prefix_len is_name_byte following + 1 ≡ length (quoted name) = omega arith in
    subst (λ t. IsLongest (t ++ rest) (length t)) (sym is)
    (subst (IsLongest (34 ∷ following)) whole (longest_quoted following (omega arith) quote).0)

-- after white space comes the longest form, which spells a token
module _ (source gap text rest : List ℕ) (from : ℕ) (kind : PgKind) (value : ℕ) (is : drop from source ≡ gap ++ (text ++ rest)) (inside : from ≤ length source) where
  -- how long the parts are
  sizes : length source ≡ from + length gap + length text + length rest
  sizes =
      let all = ap length is in
      omega (arith, length-drop from source, length-append gap (text ++ rest), length-append text rest)

  -- what follows the white space
  after_gap : drop (from + length gap) source ≡ text ++ rest
  after_gap = sym (drop-drop (length gap) from source) ∙ ap (drop (length gap)) is ∙ drop_at gap (text ++ rest) (length gap) refl

  -- the white space
  written_gap : AllPass is_white gap → IsGap source from (from + length gap)
  written_gap white = record {
    forward = omega arith;
    within = omega (arith, sizes);
    white = λ k d low high.
        let place : from + (k - from) ≡ k = omega arith in
        let below : k - from < length gap = omega arith in
        ap (λ n. is_white (get_or source n d)) (sym place)
        ∙ ap is_white (sym (get_or-drop from source (k - from) d) ∙ ap (λ bytes. get_or bytes (k - from) d) is ∙ get_or_append_left gap (text ++ rest) d (k - from) below)
        ∙ white (k - from) d below;
  }

  -- the token
  pub written_follows : AllPass is_white gap → 0 < length text → Spells kind value text → IsLongest (text ++ rest) (length text) → Follows source from (lexeme_at (from + length gap) kind value text)
  written_follows white _ spells longest =
      let front : take (length text) (text ++ rest) ≡ text = take_at text rest (length text) refl in
      let begins : BeginsWith (text ++ rest) (lexeme_at (from + length gap) kind value text) =
      subst (λ t. BeginsWith (text ++ rest) (lexeme_at (from + length gap) kind value t)) front
      (begins_at (text ++ rest) (from + length gap) (length text) kind value longest (subst (Spells kind value) (sym front) spells)) in
      record {
        gap = written_gap white;
        token = subst (λ bytes. BeginsWith bytes (lexeme_at (from + length gap) kind value text)) (sym after_gap) begins;
        within = omega (arith, sizes);
      }

-- white bytes to the end are a gap
pub written_ends : (source : List ℕ) (from : ℕ) → from ≤ length source → AllPass is_white (drop from source) → IsGap source from (length source)
written_ends source from inside white = record {
  forward = inside;
  within = omega arith;
  white = λ k d low high.
      let place : from + (k - from) ≡ k = omega arith in
      ap (λ n. is_white (get_or source n d)) (sym place) ∙ ap is_white (sym (get_or-drop from source (k - from) d)) ∙ white (k - from) d (omega (arith, length-drop from source));
}

-- a number as its digits
pub number_plain : (text : List ℕ) (value : ℕ) → Spells Number value text
    ↔ (IsDigits text × (head text ≡ 48 → length text ≡ 1) × (digits_value 10 text ≡ value) × (value ≤ most_number))
number_plain text value = (
  λ spells. (
    subst IsDigits (sym spells.1) (decimal_digits value),
    λ zero_first. ⊎_elim
        (λ positive. absurd (omega (arith, first_decimal value positive (omega (arith, spells.0)), ap head spells.1)))
        (λ none. let zero_value : value ≡ 0 = omega arith in ap length (spells.1 ∙ ap decimal zero_value ∙ decimal_digit 0 (omega arith)))
        (order 0 value),
    ap (digits_value 10) spells.1 ∙ (decimal_is_IsNumeral value (omega (arith, spells.0))).1,
    spells.0,
  ),
  λ plain. (plain.3, decimal_value text plain.0 plain.1 (omega (arith, plain.2, plain.3)) ∙ ap decimal plain.2),
)
