-- The longest form that bytes begin with, class by class of their first byte.
use Rattle.std.proofs.Common.{◌≡◌, ◌≢◌, ℕ, ◌<◌, ◌≤◌, ◌⊎◌, inl, inr, ⊎_elim, Bool, true, false, List, [], ◌∷◌, length, get_or, take, sym, ap, ◌∙◌, subst, arith, length-take, length-take-le}
use Rattle.std.proofs.lemmas.List.{get_or-take}
use Rattle.std.proofs.lemmas.List.Sums.{prefix_len-le-length, prefix_len_passes, prefix_len_stops}
use Rattle.std.proofs.str.Laws.{order}
use Rattle.std.specs.List.{prefix_len, AllPass}
use Rattle.omega_text.specs.Bytes.{is_digit, is_letter, is_word_byte}
use Rattle.omega_text.specs.pg.Fault.{BeginsNoForm}
use Rattle.omega_text.specs.Forms.{IsDigits, IsWord}
use Rattle.omega_text.specs.pg.Forms.{IsForm, IsLongest, IsQuoted}
use Rattle.omega_text.proofs.pg_texts.Classes.{both_ways, digit_range, letter_in_word, letter_range}

-- the first byte of a form
abbrev pub head : List ℕ → ℕ
head text = get_or text 0 0

-- a form is not empty, and its first byte is a digit, a letter, a sign or a quote
pub form_head : (text : List ℕ) → IsForm text → (0 < length text) × ((((is_digit (head text) ≡ true) ⊎ (is_letter (head text) ≡ true)) ⊎ ((head text ≡ 59) ⊎ (head text ≡ 44))) ⊎ (head text ≡ 34))
form_head text form = ⊎_elim
    (⊎_elim
    (λ digits. (digits.0, inl (inl (inl (digits.1 0 0 digits.0)))))
    (λ word. (word.0, inl (inl (inr word.1)))))
    (⊎_elim
    (⊎_elim
    (λ semicolon. (rw semicolon (omega arith), inl (inr (inl (ap head semicolon)))))
    (λ comma. (rw comma (omega arith), inl (inr (inr (ap head comma))))))
    (λ name. (rw name.1 (omega arith), inr (ap head name.1))))
    form

-- a form that begins with a digit is digits
pub digits_form : (text : List ℕ) → IsForm text → is_digit (head text) ≡ true → IsDigits text
digits_form text form digit =
    let range = digit_range (head text) digit in
    ⊎_elim
    (⊎_elim
    (λ digits. digits)
    (λ word. absurd (let other = letter_range (head text) word.1 in omega arith)))
    (⊎_elim
    (⊎_elim (λ semicolon. absurd (omega (arith, ap head semicolon))) (λ comma. absurd (omega (arith, ap head comma))))
    (λ name. absurd (omega (arith, ap head name.1))))
    form

-- a form that begins with a letter is a word
pub word_form : (text : List ℕ) → IsForm text → is_letter (head text) ≡ true → IsWord text
word_form text form letter =
    let range = letter_range (head text) letter in
    ⊎_elim
    (⊎_elim
    (λ digits. absurd (let other = digit_range (head text) (digits.1 0 0 digits.0) in omega arith))
    (λ word. word))
    (⊎_elim
    (⊎_elim (λ semicolon. absurd (omega (arith, ap head semicolon))) (λ comma. absurd (omega (arith, ap head comma))))
    (λ name. absurd (omega (arith, ap head name.1))))
    form

-- a form that begins with a sign is that byte alone
pub sign_form : (text : List ℕ) → IsForm text → (head text ≡ 59) ⊎ (head text ≡ 44) → length text ≡ 1
sign_form text form sign =
    let small : head text < 65 = grind arith in
    let apart : (head text < 48) ⊎ (57 < head text) = grind arith in
    let unquoted : head text ≢ 34 = grind arith in
    ⊎_elim
    (⊎_elim
    (λ digits. absurd (let other = digit_range (head text) (digits.1 0 0 digits.0) in omega arith))
    (λ word. absurd (let other = letter_range (head text) word.1 in omega arith)))
    (⊎_elim
    (⊎_elim (λ semicolon. ap length semicolon) (λ comma. ap length comma))
    (λ name. absurd (unquoted (ap head name.1))))
    form

-- a form that begins with a quote is a name
pub quoted_form : (text : List ℕ) → IsForm text → head text ≡ 34 → IsQuoted text
quoted_form text form quote =
    ⊎_elim
    (⊎_elim
    (λ digits. absurd (let other = digit_range (head text) (digits.1 0 0 digits.0) in omega arith))
    (λ word. absurd (let other = letter_range (head text) word.1 in omega arith)))
    (⊎_elim
    (⊎_elim (λ semicolon. absurd (omega (arith, ap head semicolon))) (λ comma. absurd (omega (arith, ap head comma))))
    (λ name. name))
    form

-- a front that is not empty begins as the whole does
pub head-take : (count : ℕ) (bytes : List ℕ) → 0 < count → head (take count bytes) ≡ head bytes
head-take count bytes some = get_or-take count bytes 0 0 some

-- where a class goes on from its first byte
module _ (class : ℕ → Bool) (bytes : List ℕ) (some : 0 < length bytes) (first : class (head bytes) ≡ true) where
  -- the run of the class is not empty
  pub run_nonempty : 0 < prefix_len class bytes
  run_nonempty = ⊎_elim (λ positive. positive)
      (λ none.
      let zero_long : prefix_len class bytes ≡ 0 = omega arith in
      absurd (both_ways _ first (subst (λ n. class (get_or bytes n 0) ≡ false) zero_long (prefix_len_stops class bytes 0 (omega arith)))))
      (order 0 (prefix_len class bytes))

  -- the run is of the class throughout
  pub run_all : AllPass class (take (prefix_len class bytes) bytes)
  run_all k d inside =
      let short = length-take-le (prefix_len class bytes) bytes (prefix_len-le-length class bytes) in
      let below : k < prefix_len class bytes = omega arith in
      rw get_or-take (prefix_len_passes class bytes k d below)

  -- a longer front is not
  pub run_ends : (more : ℕ) → prefix_len class bytes < more → more ≤ length bytes → AllPass class (take more bytes) → ⊥
  run_ends more longer within all =
      let same = get_or-take more bytes (prefix_len class bytes) 0 longer in
      both_ways _ (sym (ap class same) ∙ all (prefix_len class bytes) 0 (rw length-take-le longer)) (prefix_len_stops class bytes 0 (omega arith))

-- digits are the longest form as far as they go
pub longest_digits : (bytes : List ℕ) → 0 < length bytes → is_digit (head bytes) ≡ true → IsLongest bytes (prefix_len is_digit bytes) × IsDigits (take (prefix_len is_digit bytes) bytes)
longest_digits bytes some digit =
    let nonempty = run_nonempty is_digit bytes some digit in
    let within = prefix_len-le-length is_digit bytes in
    let digits : IsDigits (take (prefix_len is_digit bytes) bytes) = (rw length-take-le nonempty, run_all is_digit bytes some digit) in (
      record {
        within = within;
        form = inl (inl digits);
        longest = λ more longer fits form. run_ends is_digit bytes some digit more longer fits (digits_form (take more bytes) form (ap is_digit (head-take more bytes (omega arith)) ∙ digit)).1;
      },
      digits,
    )

-- a word is the longest form as far as its bytes go
pub longest_word : (bytes : List ℕ) → 0 < length bytes → is_letter (head bytes) ≡ true → IsLongest bytes (prefix_len is_word_byte bytes) × IsWord (take (prefix_len is_word_byte bytes) bytes)
longest_word bytes some letter =
    let goes_on = letter_in_word (head bytes) letter in
    let nonempty = run_nonempty is_word_byte bytes some goes_on in
    let within = prefix_len-le-length is_word_byte bytes in
    let word : IsWord (take (prefix_len is_word_byte bytes) bytes) =
    (rw length-take-le nonempty, ap is_letter (head-take (prefix_len is_word_byte bytes) bytes nonempty) ∙ letter, run_all is_word_byte bytes some goes_on) in (
      record {
        within = within;
        form = inl (inr word);
        longest = λ more longer fits form. run_ends is_word_byte bytes some goes_on more longer fits (word_form (take more bytes) form (ap is_letter (head-take more bytes (omega arith)) ∙ letter)).2;
      },
      word,
    )

-- a sign is the longest form at its place
pub longest_sign : (bytes : List ℕ) → 0 < length bytes → (head bytes ≡ 59) ⊎ (head bytes ≡ 44) → IsLongest bytes 1
longest_sign [] some sign = absurd (omega arith)
longest_sign (byte ∷ rest) some sign = record {
  within = omega arith;
  form = inr (inl (⊎_elim (λ semicolon. inl (ap (λ b. b ∷ []) semicolon)) (λ comma. inr (ap (λ b. b ∷ []) comma)) sign));
  longest = λ more longer fits form.
      let same = head-take more (byte ∷ rest) (omega arith) in
      let sign_there : (head (take more (byte ∷ rest)) ≡ 59) ⊎ (head (take more (byte ∷ rest)) ≡ 44) = ⊎_elim (λ semicolon. inl (same ∙ semicolon)) (λ comma. inr (same ∙ comma)) sign in
      omega (arith, sign_form (take more (byte ∷ rest)) form sign_there, length-take-le more (byte ∷ rest) fits);
}

-- bytes whose first is no digit, no letter, no sign and no quote begin no form
pub no_head : (bytes : List ℕ) → is_digit (head bytes) ≡ false → is_letter (head bytes) ≡ false → head bytes ≢ 34 → head bytes ≢ 59 → head bytes ≢ 44 → BeginsNoForm bytes
no_head bytes no_digit no_letter no_quote no_semicolon no_comma count form =
    let parts = form_head (take count bytes) form in
    let same = head-take count bytes (omega (arith, parts.0, length-take count bytes)) in
    ⊎_elim
    (⊎_elim
    (⊎_elim (λ digit. both_ways _ digit (ap is_digit same ∙ no_digit)) (λ letter. both_ways _ letter (ap is_letter same ∙ no_letter)))
    (⊎_elim (λ semicolon. no_semicolon (sym same ∙ semicolon)) (λ comma. no_comma (sym same ∙ comma))))
    (λ quote. no_quote (sym same ∙ quote))
    parts.1
