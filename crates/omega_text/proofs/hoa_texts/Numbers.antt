-- Which forms are tokens: digits that are a number, and all others.
use Rattle.std.proofs.Common.{◌≡◌, ℕ, ◌⊎◌, inl, inr, ⊎_elim, List, length, refl, sym, ◌∙◌, subst, arith}
use Rattle.std.proofs.lemmas.Bool.{cases_eq}
use Rattle.std.proofs.lemmas.Fmt.{decimal_injective}
use Rattle.std.proofs.str.Laws.{order}
use Rattle.std.specs.Str.Parse.{digits_value}
use Rattle.omega_text.specs.Limits.{most_number}
use Rattle.omega_text.specs.declared.hoa.kind.HoaKind.{HoaKind}
use Rattle.omega_text.specs.declared.hoa.kind.HoaKind.TheVariants.{Int}
use Rattle.omega_text.specs.declared.pg.kind.PgKind.TheVariants.{Number}
use Rattle.omega_text.specs.hoa.Forms.{IsForm, Spells}
use Rattle.omega_text.specs.Forms.{IsDigits}
use Rattle.omega_text.proofs.pg_texts.Longest.{head}
use Rattle.omega_text.proofs.pg_texts.Numbers.{decimal_digits, decimal_value, needless_zero, too_great}

-- a token has the form of its kind
pub spelled_form : (kind : HoaKind) (value : ℕ) (text : List ℕ) → Spells kind value text → IsForm kind text
spelled_form Int value text spells = subst IsDigits (sym spells.1) (decimal_digits value)
spelled_form kind value text spells = spells.1

-- a token has one value
pub one_value : (kind : HoaKind) (value another : ℕ) (text : List ℕ) → Spells kind value text → Spells kind another text → value ≡ another
one_value Int value another text first second = decimal_injective value another (omega (arith, first.0)) (omega (arith, second.0)) (sym first.1 ∙ second.1)
one_value kind value another text first second = first.0 ∙ sym second.0

-- digits are no number
abbrev pub IsNoNumber : List ℕ → Type 0
IsNoNumber text = (value : ℕ) → Spells Int value text → ⊥

-- digits are a number or none
pub number_or_none : (text : List ℕ) → IsDigits text → ((value : ℕ) × Spells Int value text) ⊎ IsNoNumber text
number_or_none text digits = ⊎_elim
    (λ long. ⊎_elim
    (λ zero_first. inr (needless_zero text digits zero_first long Number))
    (λ other. plain (λ zero_first. absurd (other zero_first)))
    (cases_eq (head text) 48))
    (λ short. plain (λ _. let some = digits.0 in omega arith))
    (order 1 (length text))
  where
    plain : (head text ≡ 48 → length text ≡ 1) → ((value : ℕ) × Spells Int value text) ⊎ IsNoNumber text
    plain single = ⊎_elim
        (λ great. inr (too_great text digits great Number))
        (λ small. inl (digits_value 10 text, (small, decimal_value text digits single (omega arith))))
        (order most_number (digits_value 10 text))

-- a form is a token of some value, or digits that are no number
pub spelled_or_wrong : (kind : HoaKind) (text : List ℕ) → IsForm kind text → ((value : ℕ) × Spells kind value text) ⊎ ((kind ≡ Int) × IsDigits text × IsNoNumber text)
spelled_or_wrong Int text form = ⊎_elim (λ is. inl is) (λ wrong. inr (refl, form, wrong)) (number_or_none text form)
spelled_or_wrong kind text form = inl (0, (refl, form))
