-- Tokens made of the front of bytes.
use Rattle.std.proofs.Common.{◌≡◌, ℕ, ◌+◌, ◌-◌, ◌<◌, ◌≤◌, true, List, length, get_or, take, drop, sym, ap, ◌∙◌, subst, arith, length-drop, length-take-le}
use Rattle.std.proofs.lemmas.List.{get_or-take}
use Rattle.std.specs.List.{prefix_len}
use Rattle.std.specs.Str.Parse.{digits_value}
use Rattle.omega_text.specs.Bytes.{is_digit}
use Rattle.omega_text.specs.Forms.{IsDigits}
use Rattle.omega_text.specs.Limits.{most_number}
use Rattle.omega_text.specs.pg.Cut.{BeginsWith, Follows, IsGap}
use Rattle.omega_text.specs.private.pg.FirstForm.{IsFirstForm}
use Rattle.omega_text.specs.declared.pg.kind.PgKind.{PgKind}
use Rattle.omega_text.specs.declared.pg.kind.PgKind.TheVariants.{Number}
use Rattle.omega_text.specs.pg.Forms.{IsLongest, Spells}
use Rattle.omega_text.specs.Lexeme.{Lexeme, lexeme_at}
use Rattle.omega_text.proofs.pg_texts.Longest.{form_head, longest_digits}
use Rattle.omega_text.proofs.pg_texts.Numbers.{front_value}

-- the longest front, if it spells a token, is the token that the bytes begin with
pub begins_at : (bytes : List ℕ) (place count : ℕ) (kind : PgKind) (value : ℕ) → IsLongest bytes count → Spells kind value (take count bytes) → BeginsWith bytes (lexeme_at place kind value (take count bytes))
begins_at bytes place count kind value longest spells =
    let short = length-take-le count bytes longest.within in
    let some = (form_head (take count bytes) longest.form).0 in
    let size : place + length (take count bytes) - place ≡ count = omega arith in
    record {
      nonempty = omega arith;
      longest = subst (IsLongest bytes) (sym size) longest;
      text = ap (λ n. take n bytes) (sym size);
      spells = spells;
    }

-- the same of a token that is that lexeme
pub begins_as : (bytes : List ℕ) (place count : ℕ) (kind : PgKind) (value : ℕ) (lexeme : Lexeme PgKind) → lexeme ≡ lexeme_at place kind value (take count bytes) → IsLongest bytes count → Spells kind value (take count bytes) → BeginsWith bytes lexeme
begins_as bytes place count kind value lexeme is longest spells = subst (BeginsWith bytes) (sym is) (begins_at bytes place count kind value longest spells)

-- a first form by equal parts
pub front_as : (bytes : List ℕ) (kind sort : PgKind) (value count size : ℕ) → kind ≡ sort → value ≡ 0 → count ≡ size → IsLongest bytes size → Spells sort 0 (take size bytes) → IsFirstForm bytes kind value count
front_as bytes kind sort value count size kinds values counts longest spells =
    subst (λ s. IsFirstForm bytes s value count) (sym kinds) (subst (λ n. IsFirstForm bytes sort n count) (sym values) (subst (λ n. IsFirstForm bytes sort 0 n) (sym counts) (record { longest = longest; spells = spells })))

-- a form after a gap is the token that follows
pub form_follows : (source : List ℕ) (at start : ℕ) (kind : PgKind) (value count : ℕ) → IsGap source at start → IsFirstForm (drop start source) kind value count
    → Follows source at (lexeme_at start kind value (take count (drop start source)))
form_follows source at start kind value count gap form =
    let size = length-drop start source in
    let short = length-take-le count (drop start source) form.longest.within in
    let inside = form.longest.within in
    let within = gap.within in
    record { gap = gap; token = begins_at (drop start source) start count kind value form.longest form.spells; within = omega arith }

-- the form that bytes after a gap begin with is the token that follows
pub form_after : (source bytes : List ℕ) (at start : ℕ) (kind : PgKind) (value count : ℕ) (lexeme : Lexeme PgKind) → IsGap source at start → bytes ≡ drop start source
    → IsFirstForm bytes kind value count → lexeme ≡ lexeme_at start kind value (take count bytes) → Follows source at lexeme
form_after source bytes at start kind value count lexeme gap rest form is =
    subst (Follows source at) (sym is)
    (subst (λ bs. Follows source at (lexeme_at start kind value (take count bs))) (sym rest)
    (form_follows source at start kind value count gap (subst (λ bs. IsFirstForm bs kind value count) rest form)))

-- digits that another byte ends are the longest form, and a number if no zero leads and they are not too great
pub number_first : (bytes : List ℕ) (count value : ℕ) → 0 < length bytes → is_digit (get_or bytes 0 0) ≡ true → count ≡ prefix_len is_digit bytes
    → value ≡ digits_value 10 (take count bytes) → (get_or bytes 0 0 ≡ 48 → count ≤ 1) → value ≤ most_number → IsFirstForm bytes Number value count
number_first bytes count value some digit counted is plain small =
    let front : IsLongest bytes count × IsDigits (take count bytes) =
    subst (λ n. IsLongest bytes n × IsDigits (take n bytes)) (sym counted) (longest_digits bytes some digit) in
    let long : length (take count bytes) ≡ count = length-take-le count bytes front.0.within in
    let first : get_or (take count bytes) 0 0 ≡ get_or bytes 0 0 = get_or-take count bytes 0 0 (omega (arith, long, front.1.0)) in
    record {
      longest = front.0;
      spells = (small, front_value (take count bytes) value front.1 (λ zero_first. omega (arith, long, plain (sym first ∙ zero_first))) is small);
    }
