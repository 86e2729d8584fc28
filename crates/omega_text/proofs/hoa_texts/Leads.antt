-- What the first byte of a unit shows is so.
use Rattle.std.proofs.Common.{◌≡◌, ℕ, ◌==◌, true, false, Option, Some, None, inl, inr, refl, sym, subst, arith}
use Rattle.std.proofs.lemmas.Bool.Decides.{nat_tests}
use Rattle.omega_text.specs.Bytes.{is_digit, is_letter, is_white}
use Rattle.omega_text.specs.declared.hoa.kind.HoaKind.{HoaKind}
use Rattle.omega_text.specs.declared.hoa.kind.HoaKind.TheVariants.{Not, And, Or, OpenParenthesis, CloseParenthesis, OpenBracket, CloseBracket, OpenBrace, CloseBrace}
use Rattle.omega_text.specs.declared.hoa.lead.Lead.{Lead}
use Rattle.omega_text.specs.declared.hoa.lead.Lead.TheVariants.{White, Sign, Digit, Letter, Quote, At, Other}
use Rattle.omega_text.specs.declared.hoa.mode.Mode.TheVariants.{Whole}
use Rattle.omega_text.specs.private.hoa.scanning.Leads.{lead_of, sign_lead}
use Rattle.omega_text.specs.private.hoa.scanning.Modes.{first_mode, sign_kind}
use Rattle.omega_text.specs.hoa.Pieces.{is_mark}
use Rattle.omega_text.specs.private.hoa.scanning.Passing.{IsSingle}
use Rattle.omega_text.proofs.hoa_texts.Tests.{either}
use Rattle.omega_text.proofs.hoa_texts.Written.{first_sign, first_white}

-- a byte is what it shows
abbrev pub IsLed : ℕ → Lead → Type 0
IsLed byte White = is_white byte ≡ true
IsLed byte (Sign kind) = (first_mode byte ≡ Some (Whole kind)) × (is_digit byte ≡ false) × (is_mark kind ≡ false)
IsLed byte Digit = is_digit byte ≡ true
IsLed byte Letter = is_letter byte ≡ true
IsLed byte Quote = byte ≡ 34
IsLed byte At = byte ≡ 64
IsLed byte Other = Unit {0}

-- no sign is a mark
abbrev pub NoMark : Option HoaKind → Type 0
NoMark None = Unit {0}
NoMark (Some kind) = is_mark kind ≡ false

sign_no_mark : (byte : ℕ) → NoMark (sign_kind byte)
sign_no_mark byte = either NoMark (byte == 33) (Some Not) _ (λ _. refl)
    (λ _. either NoMark (byte == 38) (Some And) _ (λ _. refl)
    (λ _. either NoMark (byte == 124) (Some Or) _ (λ _. refl)
    (λ _. either NoMark (byte == 40) (Some OpenParenthesis) _ (λ _. refl)
    (λ _. either NoMark (byte == 41) (Some CloseParenthesis) _ (λ _. refl)
    (λ _. either NoMark (byte == 91) (Some OpenBracket) _ (λ _. refl)
    (λ _. either NoMark (byte == 93) (Some CloseBracket) _ (λ _. refl)
    (λ _. either NoMark (byte == 123) (Some OpenBrace) _ (λ _. refl)
    (λ _. either NoMark (byte == 125) (Some CloseBrace) None (λ _. refl) (λ _. tt)))))))))

same_byte : (byte value : ℕ) → (byte == value) ≡ true → byte ≡ value
same_byte byte value same = grind (arith, nat_tests)

led_sign : (byte : ℕ) → is_white byte ≡ false → is_letter byte ≡ false → is_digit byte ≡ false → (sign : Option HoaKind) → sign_kind byte ≡ sign → IsLed byte (sign_lead sign)
led_sign byte no_white no_letter no_digit None is = tt
led_sign byte no_white no_letter no_digit (Some kind) is = (first_sign byte kind no_white no_letter no_digit is, no_digit, subst NoMark is (sign_no_mark byte))

pub led : (byte : ℕ) → IsLed byte (lead_of byte)
led byte = either (IsLed byte) (is_white byte) White _ (λ white. white)
    (λ no_white. either (IsLed byte) (is_letter byte) Letter _ (λ letter. letter)
    (λ no_letter. either (IsLed byte) (is_digit byte) Digit _ (λ digit. digit)
    (λ no_digit. either (IsLed byte) (byte == 34) Quote _ (same_byte byte 34)
    (λ _. either (IsLed byte) (byte == 64) At _ (same_byte byte 64)
    (λ _. led_sign byte no_white no_letter no_digit (sign_kind byte) refl)))))

-- a byte that shows so
pub led_as : (byte : ℕ) (found lead : Lead) → found ≡ lead_of byte → found ≡ lead → IsLed byte lead
led_as byte found lead is same = subst (IsLed byte) same (subst (IsLed byte) (sym is) (led byte))

-- white bytes and signs are units of their own
pub white_single : (byte : ℕ) → IsLed byte White → IsSingle byte
white_single byte white = inl (first_white byte white)

pub sign_single : (byte : ℕ) (kind : HoaKind) → IsLed byte (Sign kind) → IsSingle byte
sign_single byte kind sign = inr (kind, sign.0, sign.2)
