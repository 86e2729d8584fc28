-- Tokens at the front of bytes: they have some bytes, which are there, and the first is not white.
use Rattle.std.proofs.Common.{◌≡◌, ℕ, suc, ◌+◌, ◌<◌, ◌≤◌, ◌⊎◌, inl, inr, ◌==◌, ◌&&◌, ◌||◌, not, Bool, true}
use Rattle.std.proofs.Common.{false, Option, Some, None, List, [], ◌∷◌, length, take, refl, ap, sym, ◌∙◌}
use Rattle.std.proofs.Common.{subst, arith, codes, length-take, if◌then◌else◌}
use Rattle.std.specs.Prelude.{option_map, slice_index}
use Rattle.std.specs.List.{prefix_len}
use Rattle.std.specs.Option.{option_or}
use Rattle.std.specs.Str.{str_eq_ignore_ascii_case, str_to_ascii_lowercase}
use Rattle.std.proofs.lemmas.Bool.{cases_Bool, eqb-true}
use Rattle.std.proofs.lemmas.List.{length-map}
use Rattle.std.proofs.lemmas.List.Sums.{prefix_len-le-length}
use Rattle.std.proofs.lemmas.Slice.Eq.{bytes_eq-Decides}
use Rattle.omega_text.specs.Bytes.{is_digit, is_letter, is_white}
use Rattle.omega_ltl_formula.specs.declared.operators.UnaryOperator.{UnaryOperator}
use Rattle.omega_ltl_text.specs.Tokens.{Front, front, front_operator, front_quoted, front_sign, front_token}
use Rattle.omega_ltl_text.specs.Tokens.{front_word, goes_on, inner_sign, letter_operator, outer_sign}
use Rattle.omega_ltl_text.specs.Tokens.{quoted_count, sign_in}
use Rattle.omega_ltl_text.specs.declared.kind.FormulaKind.{FormulaKind}
use Rattle.omega_ltl_text.specs.declared.kind.FormulaKind.TheVariants.{Constant, QuotedName, Unary}

-- a token has some bytes, which are there
pub record Fits (bytes : List ℕ) (token : Front) : Type 0 where
  pub some : 0 < token.count
  pub within : token.count ≤ length bytes

-- a token that is found fits
abbrev FitsIf : List ℕ → Option Front → Type 0
FitsIf bytes None = Unit {0}
FitsIf bytes (Some token) = Fits bytes token

either_fits : (bytes : List ℕ) (one other : Option Front) → FitsIf bytes one → FitsIf bytes other → FitsIf bytes (option_or one other)
either_fits bytes None other first second = second
either_fits bytes (Some token) other first second = first

-- a sign is no empty text
sign_some : (text : List ℕ) (kind : Option FormulaKind) → option_or (outer_sign text) (inner_sign text) ≡ kind
    → FitsIf text (option_map (λ (k : FormulaKind). front k (length text)) kind)
sign_some text None e = tt
sign_some [] (Some kind) e = absurd (let clash : ◌≡◌ {A = Option FormulaKind} None (Some kind) = e in cc)
sign_some (byte ∷ text) (Some kind) e = record { some = omega arith; within = omega arith }

sign_fits : (count : ℕ) (bytes : List ℕ) → FitsIf bytes (sign_in (take count bytes))
sign_fits count bytes = go (sign_in (take count bytes)) (sign_some (take count bytes) (option_or (outer_sign (take count bytes)) (inner_sign (take count bytes))) refl)
  where
    short : length (take count bytes) ≤ length bytes
    short = let e = length-take count bytes in omega (arith, e)

    go : (found : Option Front) → FitsIf (take count bytes) found → FitsIf bytes found
    go None is = tt
    go (Some token) is = record { some = is.some; within = omega (arith, is.within, short) }

signs_fit : (bytes : List ℕ) → FitsIf bytes (front_sign bytes)
signs_fit bytes = either_fits bytes (sign_in (take 3 bytes)) (option_or (sign_in (take 2 bytes)) (sign_in (take 1 bytes))) (sign_fits 3 bytes)
    (either_fits bytes (sign_in (take 2 bytes)) (sign_in (take 1 bytes)) (sign_fits 2 bytes) (sign_fits 1 bytes))

-- a word that begins with a letter
letter_goes_on : (byte : ℕ) → is_letter byte ≡ true → goes_on byte ≡ true
letter_goes_on byte letter = ap (λ (b : Bool). b || is_digit byte) letter

word_fits : (bytes : List ℕ) → is_letter (slice_index bytes 0) ≡ true → Fits bytes (front_word bytes)
word_fits [] letter = absurd (let clash : false ≡ true = letter in cc)
word_fits (byte ∷ rest) letter = record {
  some = let e : prefix_len goes_on (byte ∷ rest) ≡ 1 + prefix_len goes_on rest = ap (λ (b : Bool). if b then 1 + prefix_len goes_on rest else 0) (letter_goes_on byte letter) in omega (arith, e);
  within = prefix_len-le-length goes_on (byte ∷ rest);
}

-- five letters are five bytes
five : (bytes : List ℕ) → str_eq_ignore_ascii_case (take 5 bytes) (codes "false") ≡ true → 5 ≤ length bytes
five bytes same =
    let equal : str_to_ascii_lowercase (take 5 bytes) ≡ str_to_ascii_lowercase (codes "false") =
    (bytes_eq-Decides (str_to_ascii_lowercase (take 5 bytes)) (str_to_ascii_lowercase (codes "false"))).0 same in
    let long : length (str_to_ascii_lowercase (take 5 bytes)) ≡ 5 = ap length equal in
    let mapped : length (str_to_ascii_lowercase (take 5 bytes)) ≡ length (take 5 bytes) = length-map (take 5 bytes) _ in
    let taken = length-take 5 bytes in
    omega (arith, long, mapped, taken)

operator_fits : (bytes : List ℕ) → is_letter (slice_index bytes 0) ≡ true → FitsIf bytes (front_operator bytes)
operator_fits [] letter = absurd (let clash : false ≡ true = letter in cc)
operator_fits (byte ∷ rest) letter = go (is_digit (slice_index (byte ∷ rest) 1)) (letter_operator byte) (str_eq_ignore_ascii_case (take 5 (byte ∷ rest)) (codes "false")) refl
  where
    go : (digit : Bool) (found : Option UnaryOperator) (false_there : Bool) → str_eq_ignore_ascii_case (take 5 (byte ∷ rest)) (codes "false") ≡ false_there
        → FitsIf (byte ∷ rest) (if digit then None else option_map (λ (operator : UnaryOperator).
        if false_there then front (Constant false) 5 else front (Unary operator) 1) found)
    go true found false_there e = tt
    go false None false_there e = tt
    go false (Some operator) true e = record { some = omega arith; within = five (byte ∷ rest) e }
    go false (Some operator) false e = record { some = omega arith; within = omega arith }

-- a quote that closes is there
quoted_within : (escaped : Bool) (bytes : List ℕ) (count : ℕ) → quoted_count escaped bytes ≡ Some count → count ≤ length bytes
quoted_within escaped [] count e = absurd (let clash : ◌≡◌ {A = Option ℕ} None (Some count) = e in cc)
quoted_within escaped (byte ∷ rest) count e = go (not escaped && byte == 34) e (quoted_within (not escaped && byte == 92) rest)
  where
    next : (found : Option ℕ) → quoted_count (not escaped && byte == 92) rest ≡ found → option_map suc found ≡ Some count
        → ((n : ℕ) → quoted_count (not escaped && byte == 92) rest ≡ Some n → n ≤ length rest) → count ≤ suc (length rest)
    next None inner outer further = absurd (let clash : ◌≡◌ {A = Option ℕ} None (Some count) = outer in cc)
    next (Some n) inner outer further =
        let is : suc n ≡ count = cc in
        let less = further n inner in
        omega (arith, is, less)

    go : (b : Bool) → (if b then Some 1 else option_map suc (quoted_count (not escaped && byte == 92) rest)) ≡ Some count
        → ((n : ℕ) → quoted_count (not escaped && byte == 92) rest ≡ Some n → n ≤ length rest) → count ≤ suc (length rest)
    go true is further = let one : 1 ≡ count = cc in omega (arith, one)
    go false is further = next (quoted_count (not escaped && byte == 92) rest) refl is further

quoted_fits : (bytes : List ℕ) → (slice_index bytes 0 == 34) ≡ true → FitsIf bytes (front_quoted bytes)
quoted_fits [] quote = absurd (let clash : false ≡ true = quote in cc)
quoted_fits (byte ∷ rest) quote = go (quoted_count false rest) refl
  where
    go : (found : Option ℕ) → quoted_count false rest ≡ found → FitsIf (byte ∷ rest) (option_map (λ (count : ℕ). front QuotedName (suc count)) found)
    go None e = tt
    go (Some count) e = record { some = omega arith; within = let less = quoted_within false rest count e in omega (arith, less) }

-- each token fits
tokens_fit : (bytes : List ℕ) → FitsIf bytes (front_token bytes)
tokens_fit bytes = go (is_letter (slice_index bytes 0)) refl (slice_index bytes 0 == 34) refl
  where
    go : (letter : Bool) → is_letter (slice_index bytes 0) ≡ letter → (quote : Bool) → (slice_index bytes 0 == 34) ≡ quote
        → FitsIf bytes (if letter then option_or (front_operator bytes) (Some (front_word bytes)) else (if quote then front_quoted bytes else front_sign bytes))
    go true is quote e = either_fits bytes (front_operator bytes) (Some (front_word bytes)) (operator_fits bytes is) (word_fits bytes is)
    go false is true e = quoted_fits bytes e
    go false is false e = signs_fit bytes

pub token_fits : (bytes : List ℕ) (token : Front) → front_token bytes ≡ Some token → Fits bytes token
token_fits bytes token e = subst (FitsIf bytes) e (tokens_fit bytes)

-- no token begins with white space
white_cases : (byte : ℕ) → is_white byte ≡ true → ((byte ≡ 32) ⊎ (byte ≡ 9)) ⊎ ((byte ≡ 10) ⊎ (byte ≡ 13))
white_cases byte white = go (byte == 32) (byte == 9) (byte == 10) (byte == 13) refl refl refl refl white
  where
    go : (a b c d : Bool) → (byte == 32) ≡ a → (byte == 9) ≡ b → (byte == 10) ≡ c → (byte == 13) ≡ d → (((a || b) || c) || d) ≡ true
        → ((byte ≡ 32) ⊎ (byte ≡ 9)) ⊎ ((byte ≡ 10) ⊎ (byte ≡ 13))
    go true b c d e f g h is = inl (inl (eqb-true byte 32 e))
    go false true c d e f g h is = inl (inr (eqb-true byte 9 f))
    go false false true d e f g h is = inr (inl (eqb-true byte 10 g))
    go false false false true e f g h is = inr (inr (eqb-true byte 13 h))
    go false false false false e f g h is = absurd (cc)

pub white_none : (bytes : List ℕ) → is_white (slice_index bytes 0) ≡ true → front_token bytes ≡ None
white_none [] white = absurd (let clash : false ≡ true = white in cc)
white_none (byte ∷ rest) white = go (white_cases byte white)
  where
    none : (space : ℕ) → byte ≡ space → front_token (space ∷ rest) ≡ None → front_token (byte ∷ rest) ≡ None
    none space e is = ap (λ (b : ℕ). front_token (b ∷ rest)) e ∙ is

    go : ((byte ≡ 32) ⊎ (byte ≡ 9)) ⊎ ((byte ≡ 10) ⊎ (byte ≡ 13)) → front_token (byte ∷ rest) ≡ None
    go (inl (inl e)) = none 32 e refl
    go (inl (inr e)) = none 9 e refl
    go (inr (inl e)) = none 10 e refl
    go (inr (inr e)) = none 13 e refl

-- the first byte of a token is black
pub token_black : (bytes : List ℕ) (token : Front) → front_token bytes ≡ Some token → is_white (slice_index bytes 0) ≡ false
token_black bytes token e = go (cases_Bool (is_white (slice_index bytes 0)))
  where
    go : (is_white (slice_index bytes 0) ≡ true) ⊎ (is_white (slice_index bytes 0) ≡ false) → is_white (slice_index bytes 0) ≡ false
    go (inl white) = absurd (let clash : None ≡ Some token = sym (white_none bytes white) ∙ e in cc)
    go (inr black) = black
