-- What stands at the front of a text where a number, a delta or a line is due, and what reading makes of it.
use Rattle.std.proofs.Common.{◌≡◌, ◌⊎◌, inl, inr, ⊎_elim, ℕ, ◌+◌, ◌<◌, ◌≤◌, ◌==◌, ◌&&◌, ◌^◌, not, Bool, true, false, List, [], ◌∷◌, ◌++◌, length, get_or, take, drop, Err, decimal, refl, sym, ap, ◌∙◌, subst, arith, length-append}
use Rattle.std.specs.Prelude.{nat_le, nat_lt}
use Rattle.std.specs.List.{AllPass, Contains, prefix_len}
use Rattle.std.specs.Str.Parse.{digits_value}
use Rattle.std.proofs.lemmas.Bool.{eq-eqb, eqb-true, le-leb, le-ltb, leb-true, lt-leb, lt-ltb, ltb-false, ne_eqb}
use Rattle.std.proofs.lemmas.Fmt.{decimal_digit, decimal_is_IsNumeral, first_decimal}
use Rattle.std.proofs.lemmas.List.{append-nil, append_assoc, drop_at, drop_more, get_or-take, get_or_default, length-take, take-append-drop, take_at}
use Rattle.std.proofs.lemmas.List.Folds.{prefix_len-append}
use Rattle.std.proofs.lemmas.List.Sums.{prefix_len-le-length, prefix_len_is, prefix_len_passes, prefix_len_stops}
use Rattle.std.proofs.str.Laws.{order}
use Rattle.omega_aiger.specs.Deltas.{IsDelta, IsNoDelta, delta_front, delta_value, is_high}
use Rattle.omega_aiger.specs.Layout.{IsNoNumber, Layout, delta, line, number}
use Rattle.omega_aiger.specs.private.Outcome.{is_in_line, is_number, outcome}
use Rattle.omega_aiger.proofs.Splits.{Free, front_count, front_passes, no, none_free, rest_free, tells, yes}
use Rattle.omega_text.specs.Bytes.{is_digit}
use Rattle.omega_text.specs.Limits.{most_number}
use Rattle.omega_text.specs.declared.refusal.text.TextFault.TheVariants.{Number, Syntax}
use Rattle.omega_text.proofs.pg_texts.Numbers.{decimal_digits, front_value}

-- both parts of a conjunction that holds
both_left : (a b : Bool) → (a && b) ≡ true → a ≡ true
both_left true b is = refl
both_left false b is = is

both_right : (a b : Bool) → (a && b) ≡ true → b ≡ true
both_right true b is = is
both_right false b is = absurd (cc)

both : (a b : Bool) → a ≡ true → b ≡ true → (a && b) ≡ true
both true b first second = second
both false b first second = first

not_both : (a b : Bool) → not (a && b) ≡ true → a ≡ true → b ≡ true → ⊥
not_both true true is first second = cc
not_both true false is first second = cc
not_both false b is first second = cc

neither_both : (a b : Bool) → (a ≡ true → b ≡ false) → not (a && b) ≡ true
neither_both true b apart = ap not (apart refl)
neither_both false b apart = refl

-- the numeral of a number is one
pub numeral_is_number : (n : ℕ) → n ≤ most_number → is_number (decimal n) ≡ true
numeral_is_number n small =
    both (not (get_or (decimal n) 0 0 == 48 && nat_lt 1 (length (decimal n)))) (nat_le (digits_value 10 (decimal n)) most_number)
    (neither_both (get_or (decimal n) 0 0 == 48) (nat_lt 1 (length (decimal n))) (λ zero_first. short (eqb-true (get_or (decimal n) 0 0) 48 zero_first)))
    (le-leb (digits_value 10 (decimal n)) most_number (let e = (decimal_is_IsNumeral n (omega arith)).1 in omega (arith, e, small)))
  where
    short : get_or (decimal n) 0 0 ≡ 48 → nat_lt 1 (length (decimal n)) ≡ false
    short zero_first = ⊎_elim
        (λ positive. let first = first_decimal n positive (omega arith) in absurd (omega (arith, first, zero_first)))
        (λ none. let zero_value : n ≡ 0 = omega arith in
        le-ltb 1 (length (decimal n)) (let e = ap length (ap decimal zero_value ∙ decimal_digit 0 (omega arith)) in omega (arith, e)))
        (order 0 n)

-- digits that are a number are its numeral
pub digits_are_numeral : (digits : List ℕ) → 0 < length digits → AllPass is_digit digits → is_number digits ≡ true → (digits_value 10 digits ≤ most_number) × (digits ≡ decimal (digits_value 10 digits))
digits_are_numeral digits some all is =
    let front = not (get_or digits 0 0 == 48 && nat_lt 1 (length digits)) in
    let plain : front ≡ true = both_left front (nat_le (digits_value 10 digits) most_number) is in
    let small : digits_value 10 digits ≤ most_number = leb-true (digits_value 10 digits) most_number (both_right front (nat_le (digits_value 10 digits) most_number) is) in (
      small,
      front_value digits (digits_value 10 digits) (some, all) (λ zero_first. ⊎_elim
          (λ long. absurd (not_both (get_or digits 0 0 == 48) (nat_lt 1 (length digits)) plain (eq-eqb (get_or digits 0 0) 48 zero_first) long))
          (λ short. ltb-false 1 (length digits) short)
          (tells (nat_lt 1 (length digits)))) refl small,
    )

module _ (next : ℕ → Layout) (at : ℕ) (text : List ℕ) where
  -- no digits
  pub number_missing : prefix_len is_digit text ≡ 0 → outcome (number next) at text ≡ Err (Syntax at)
  number_missing none = yes (prefix_len is_digit text == 0) (Err (Syntax at)) _ (eq-eqb (prefix_len is_digit text) 0 none)

  -- digits that are a number
  pub number_taken : 0 < prefix_len is_digit text → is_number (take (prefix_len is_digit text) text) ≡ true
      → outcome (number next) at text ≡ outcome (next (digits_value 10 (take (prefix_len is_digit text) text))) (at + prefix_len is_digit text) (drop (prefix_len is_digit text) text)
  number_taken some is =
      no (prefix_len is_digit text == 0) (Err (Syntax at)) _ (ne_eqb (prefix_len is_digit text) 0 (λ none. omega (arith, none, some)))
      ∙ yes (is_number (take (prefix_len is_digit text) text)) _ (Err (Number at)) is

  -- digits that are none
  pub number_refused : 0 < prefix_len is_digit text → is_number (take (prefix_len is_digit text) text) ≡ false → outcome (number next) at text ≡ Err (Number at)
  number_refused some is =
      no (prefix_len is_digit text == 0) (Err (Syntax at)) _ (ne_eqb (prefix_len is_digit text) 0 (λ none. omega (arith, none, some)))
      ∙ no (is_number (take (prefix_len is_digit text) text)) _ (Err (Number at)) is

  -- a delta with too many bytes
  pub delta_long : 5 ≤ prefix_len is_high text → outcome (delta next) at text ≡ Err (Number at)
  delta_long long = yes (nat_le 5 (prefix_len is_high text)) (Err (Number at)) _ (le-leb 5 (prefix_len is_high text) long)

  -- a delta that the end of the text cuts off
  pub delta_cut : prefix_len is_high text < 5 → length text ≤ prefix_len is_high text → outcome (delta next) at text ≡ Err (Syntax (at + length text))
  delta_cut short end =
      no (nat_le 5 (prefix_len is_high text)) (Err (Number at)) _ (lt-leb 5 (prefix_len is_high text) short)
      ∙ yes (nat_le (length text) (prefix_len is_high text)) (Err (Syntax (at + length text))) _ (le-leb (length text) (prefix_len is_high text) end)

  -- a delta
  pub delta_taken : prefix_len is_high text < 5 → prefix_len is_high text < length text → delta_value (delta_front text) < 2 ^ 32
      → outcome (delta next) at text ≡ outcome (next (delta_value (delta_front text))) (at + (prefix_len is_high text + 1)) (drop (prefix_len is_high text + 1) text)
  delta_taken short inside small =
      no (nat_le 5 (prefix_len is_high text)) (Err (Number at)) _ (lt-leb 5 (prefix_len is_high text) short)
      ∙ no (nat_le (length text) (prefix_len is_high text)) (Err (Syntax (at + length text))) _ (lt-leb (length text) (prefix_len is_high text) inside)
      ∙ yes (nat_lt (delta_value (delta_front text)) (2 ^ 32)) _ (Err (Number at)) (lt-ltb (delta_value (delta_front text)) (2 ^ 32) small)

  -- a delta with too great a value
  pub delta_great : prefix_len is_high text < 5 → prefix_len is_high text < length text → 2 ^ 32 ≤ delta_value (delta_front text) → outcome (delta next) at text ≡ Err (Number at)
  delta_great short inside great =
      no (nat_le 5 (prefix_len is_high text)) (Err (Number at)) _ (lt-leb 5 (prefix_len is_high text) short)
      ∙ no (nat_le (length text) (prefix_len is_high text)) (Err (Syntax (at + length text))) _ (lt-leb (length text) (prefix_len is_high text) inside)
      ∙ no (nat_lt (delta_value (delta_front text)) (2 ^ 32)) _ (Err (Number at)) (le-ltb (delta_value (delta_front text)) (2 ^ 32) great)

module _ (next : List ℕ → Layout) (at : ℕ) (text : List ℕ) where
  -- a line that the end of the text cuts off
  pub line_cut : length text ≤ prefix_len is_in_line text → outcome (line next) at text ≡ Err (Syntax (at + length text))
  line_cut end = yes (nat_le (length text) (prefix_len is_in_line text)) (Err (Syntax (at + length text))) _ (le-leb (length text) (prefix_len is_in_line text) end)

  -- a line
  pub line_taken : prefix_len is_in_line text < length text
      → outcome (line next) at text ≡ outcome (next (take (prefix_len is_in_line text) text)) (at + (prefix_len is_in_line text + 1)) (drop (prefix_len is_in_line text + 1) text)
  line_taken inside = no (nat_le (length text) (prefix_len is_in_line text)) (Err (Syntax (at + length text))) _ (lt-leb (length text) (prefix_len is_in_line text) inside)

-- where a number is due: a number, no digit, or digits that are none
pub data NumberFront (text : List ℕ) : Type 0 where
  a_number : (n : ℕ) (back : List ℕ) → n ≤ most_number → text ≡ decimal n ++ back → Free is_digit back → NumberFront text
  no_digit : Free is_digit text → NumberFront text
  bad_number : IsNoNumber text → NumberFront text

pub number_front : (text : List ℕ) → NumberFront text
number_front text = go (order 0 (prefix_len is_digit text))
  where
    of_digits : 0 < prefix_len is_digit text → (is_number (take (prefix_len is_digit text) text) ≡ true) ⊎ (is_number (take (prefix_len is_digit text) text) ≡ false) → NumberFront text
    of_digits some (inl is) =
        let long : 0 < length (take (prefix_len is_digit text) text) =
        let e = length-take (prefix_len is_digit text) text in let f = prefix_len-le-length is_digit text in omega (arith, e, f, some) in
        let numeral = digits_are_numeral (take (prefix_len is_digit text) text) long (front_passes is_digit text) is in
        a_number (digits_value 10 (take (prefix_len is_digit text) text)) (drop (prefix_len is_digit text) text) numeral.0
        (sym (take-append-drop (prefix_len is_digit text) text) ∙ ap (λ (front : List ℕ). front ++ drop (prefix_len is_digit text) text) numeral.1)
        (rest_free is_digit text)
    of_digits some (inr is) = bad_number (record {
      some = some;
      none = λ n small spelled. let there = numeral_is_number n small in let here = ap is_number spelled in cc;
    })

    go : (0 < prefix_len is_digit text) ⊎ (prefix_len is_digit text ≤ 0) → NumberFront text
    go (inl some) = of_digits some (tells (is_number (take (prefix_len is_digit text) text)))
    go (inr none) = no_digit (none_free is_digit text (omega (arith, none)))

-- the same front in what reading makes
pub number_found : (next : ℕ → Layout) (at : ℕ) (n : ℕ) (back : List ℕ) → n ≤ most_number → Free is_digit back
    → outcome (number next) at (decimal n ++ back) ≡ outcome (next n) (at + length (decimal n)) back
number_found next at n back small free =
    number_taken next at text (omega (arith, count, digits.0)) (ap is_number front ∙ numeral_is_number n small)
    ∙ ap (λ m. outcome (next m) (at + prefix_len is_digit text) (drop (prefix_len is_digit text) text)) (ap (digits_value 10) front ∙ (decimal_is_IsNumeral n (omega arith)).1)
    ∙ ap (λ m. outcome (next n) (at + m) (drop m text)) count
    ∙ ap (outcome (next n) (at + length (decimal n))) (drop_at (decimal n) back (length (decimal n)) refl)
  where
    text : List ℕ
    text = decimal n ++ back

    digits : (0 < length (decimal n)) × AllPass is_digit (decimal n)
    digits = decimal_digits n

    count : prefix_len is_digit (decimal n ++ back) ≡ length (decimal n)
    count = front_count is_digit (decimal n) back digits.1 free

    front : take (prefix_len is_digit (decimal n ++ back)) (decimal n ++ back) ≡ decimal n
    front = ap (λ m. take m (decimal n ++ back)) count ∙ take_at (decimal n) back (length (decimal n)) refl

pub number_absent : (next : ℕ → Layout) (at : ℕ) (text : List ℕ) → Free is_digit text → outcome (number next) at text ≡ Err (Syntax at)
number_absent next at [] free = refl
number_absent next at (b ∷ back) free = number_missing next at (b ∷ back) (no (is_digit b) (1 + prefix_len is_digit back) 0 free)

pub number_bad : (next : ℕ → Layout) (at : ℕ) (text : List ℕ) → IsNoNumber text → outcome (number next) at text ≡ Err (Number at)
number_bad next at text bad = go (tells (is_number (take (prefix_len is_digit text) text)))
  where
    go : (is_number (take (prefix_len is_digit text) text) ≡ true) ⊎ (is_number (take (prefix_len is_digit text) text) ≡ false) → outcome (number next) at text ≡ Err (Number at)
    go (inl is) =
        let long : 0 < length (take (prefix_len is_digit text) text) =
        let e = length-take (prefix_len is_digit text) text in let f = prefix_len-le-length is_digit text in omega (arith, e, f, bad.some) in
        let numeral = digits_are_numeral (take (prefix_len is_digit text) text) long (front_passes is_digit text) is in
        absurd (bad.none (digits_value 10 (take (prefix_len is_digit text) text)) numeral.0 numeral.1)
    go (inr is) = number_refused next at text bad.some is

-- where a delta is due: a delta, bytes that the end cuts off, or none
pub data DeltaFront (text : List ℕ) : Type 0 where
  a_delta : (bytes : List ℕ) (back : List ℕ) → IsDelta bytes → text ≡ bytes ++ back → DeltaFront text
  cut_delta : length text < 5 → prefix_len is_high text ≡ length text → DeltaFront text
  bad_delta : IsNoDelta text → DeltaFront text

pub delta_view : (text : List ℕ) → DeltaFront text
delta_view text = go (order (prefix_len is_high text) 5)
  where
    count : prefix_len is_high text < length text → prefix_len is_high (delta_front text) ≡ prefix_len is_high text
    count inside =
        let long : length (delta_front text) ≡ prefix_len is_high text + 1 = let e = length-take (prefix_len is_high text + 1) text in omega (arith, e, inside) in
        prefix_len_is is_high (delta_front text) (prefix_len is_high text) 0 (omega (arith, long))
        (λ k below. ap is_high (get_or-take (prefix_len is_high text + 1) text k 0 (omega (arith, below))) ∙ prefix_len_passes is_high text k 0 below)
        (λ _. ap is_high (get_or-take (prefix_len is_high text + 1) text (prefix_len is_high text) 0 (omega arith)) ∙ prefix_len_stops is_high text 0 inside)

    of_value : prefix_len is_high text < 5 → prefix_len is_high text < length text → (delta_value (delta_front text) < 2 ^ 32) ⊎ (2 ^ 32 ≤ delta_value (delta_front text)) → DeltaFront text
    of_value short inside (inl small) =
        let long : length (delta_front text) ≡ prefix_len is_high text + 1 = let e = length-take (prefix_len is_high text + 1) text in omega (arith, e, inside) in
        a_delta (delta_front text) (drop (prefix_len is_high text + 1) text)
        (record { high = let e = count inside in omega (arith, e, long); short = omega (arith, long, short); small = small })
        (sym (take-append-drop (prefix_len is_high text + 1) text))
    of_value short inside (inr great) = bad_delta (inr (inside, great))

    of_length : prefix_len is_high text < 5 → (prefix_len is_high text < length text) ⊎ (length text ≤ prefix_len is_high text) → DeltaFront text
    of_length short (inl inside) = of_value short inside (order (delta_value (delta_front text)) (2 ^ 32))
    of_length short (inr end) = let e = prefix_len-le-length is_high text in cut_delta (omega (arith, e, end, short)) (omega (arith, e, end))

    go : (prefix_len is_high text < 5) ⊎ (5 ≤ prefix_len is_high text) → DeltaFront text
    go (inl short) = of_length short (order (prefix_len is_high text) (length text))
    go (inr long) = bad_delta (inl long)

pub delta_found : (next : ℕ → Layout) (at : ℕ) (bytes back : List ℕ) → IsDelta bytes
    → outcome (delta next) at (bytes ++ back) ≡ outcome (next (delta_value bytes)) (at + length bytes) back
delta_found next at bytes back is =
    delta_taken next at (bytes ++ back) (omega (arith, count, is.high, is.short)) (omega (arith, count, is.high, length-append bytes back)) (subst (λ (front : List ℕ). delta_value front < 2 ^ 32) (sym front) is.small)
    ∙ ap (λ (bs : List ℕ). outcome (next (delta_value bs)) (at + (prefix_len is_high (bytes ++ back) + 1)) (drop (prefix_len is_high (bytes ++ back) + 1) (bytes ++ back))) front
    ∙ ap (λ m. outcome (next (delta_value bytes)) (at + m) (drop m (bytes ++ back))) long
    ∙ ap (outcome (next (delta_value bytes)) (at + length bytes)) (drop_at bytes back (length bytes) refl)
  where
    count : prefix_len is_high (bytes ++ back) ≡ prefix_len is_high bytes
    count = prefix_len-append is_high bytes back ∙ no (prefix_len is_high bytes == length bytes) (length bytes + prefix_len is_high back) (prefix_len is_high bytes)
        (ne_eqb (prefix_len is_high bytes) (length bytes) (λ same. let e = is.high in omega (arith, e, same)))

    long : prefix_len is_high (bytes ++ back) + 1 ≡ length bytes
    long = omega (arith, count, is.high)

    front : delta_front (bytes ++ back) ≡ bytes
    front = ap (λ m. take m (bytes ++ back)) long ∙ take_at bytes back (length bytes) refl

pub delta_ends : (next : ℕ → Layout) (at : ℕ) (text : List ℕ) → length text < 5 → prefix_len is_high text ≡ length text → outcome (delta next) at text ≡ Err (Syntax (at + length text))
delta_ends next at text short all = delta_cut next at text (omega (arith, short, all)) (omega (arith, all))

pub delta_bad : (next : ℕ → Layout) (at : ℕ) (text : List ℕ) → IsNoDelta text → outcome (delta next) at text ≡ Err (Number at)
delta_bad next at text (inl long) = delta_long next at text long
delta_bad next at text (inr great) = go (order (prefix_len is_high text) 5)
  where
    go : (prefix_len is_high text < 5) ⊎ (5 ≤ prefix_len is_high text) → outcome (delta next) at text ≡ Err (Number at)
    go (inl short) = delta_great next at text short great.0 great.1
    go (inr long) = delta_long next at text long

-- where a line is due: one, or bytes that the end cuts off
pub data LineFront (text : List ℕ) : Type 0 where
  a_line : (front : List ℕ) (back : List ℕ) → (Contains front 10 → ⊥) → text ≡ front ++ 10 ∷ back → LineFront text
  cut_line : (Contains text 10 → ⊥) → LineFront text

-- bytes of a line have no line feed, and the other way round
pub none_contained : (front : List ℕ) → AllPass is_in_line front → Contains front 10 → ⊥
none_contained front all there =
    let passes = all there.0 10 there.1 in
    let same : is_in_line (get_or front there.0 10) ≡ is_in_line 10 = ap is_in_line there.2 in
    cc

pub all_in_line : (front : List ℕ) → (Contains front 10 → ⊥) → AllPass is_in_line front
all_in_line front none k d within = ap not (ne_eqb (get_or front k d) 10 (λ is. none (k, within, get_or_default front k 10 d within ∙ is)))

pub line_front : (text : List ℕ) → LineFront text
line_front text = go (order (prefix_len is_in_line text) (length text))
  where
    feed : prefix_len is_in_line text < length text → get_or text (prefix_len is_in_line text) 0 ≡ 10
    feed inside = ten (get_or text (prefix_len is_in_line text) 0) (prefix_len_stops is_in_line text 0 inside)
      where
        ten : (b : ℕ) → is_in_line b ≡ false → b ≡ 10
        ten b is = ⊎_elim (λ same. eqb-true b 10 same) (λ apart. absurd (let e : not (b == 10) ≡ true = ap not apart in cc)) (tells (b == 10))

    go : (prefix_len is_in_line text < length text) ⊎ (length text ≤ prefix_len is_in_line text) → LineFront text
    go (inl inside) =
        a_line (take (prefix_len is_in_line text) text) (drop (prefix_len is_in_line text + 1) text) (none_contained (take (prefix_len is_in_line text) text) (front_passes is_in_line text))
        (sym (take-append-drop (prefix_len is_in_line text) text)
        ∙ ap (λ (rest : List ℕ). take (prefix_len is_in_line text) text ++ rest) (drop_more text (prefix_len is_in_line text) 0 inside ∙ ap (λ b. b ∷ drop (prefix_len is_in_line text + 1) text) (feed inside)))
    go (inr end) = cut_line (none_contained text (λ k d within. prefix_len_passes is_in_line text k d (omega (arith, within, end))))

pub line_found : (next : List ℕ → Layout) (at : ℕ) (front back : List ℕ) → (Contains front 10 → ⊥)
    → outcome (line next) at (front ++ 10 ∷ back) ≡ outcome (next front) (at + (length front + 1)) back
line_found next at front back none =
    line_taken next at text (omega (arith, count, length-append front (10 ∷ back)))
    ∙ ap (λ (bs : List ℕ). outcome (next bs) (at + (prefix_len is_in_line text + 1)) (drop (prefix_len is_in_line text + 1) text)) (ap (λ m. take m text) count ∙ take_at front (10 ∷ back) (length front) refl)
    ∙ ap (λ m. outcome (next front) (at + (m + 1)) (drop (m + 1) text)) count
    ∙ ap (outcome (next front) (at + (length front + 1))) dropped
  where
    text : List ℕ
    text = front ++ 10 ∷ back

    count : prefix_len is_in_line (front ++ 10 ∷ back) ≡ length front
    count = front_count is_in_line front (10 ∷ back) (all_in_line front none) refl

    dropped : drop (length front + 1) (front ++ 10 ∷ back) ≡ back
    dropped = ap (drop (length front + 1)) (sym (append_assoc front (10 ∷ []) back)) ∙ drop_at (front ++ 10 ∷ []) back (length front + 1) (length-append front (10 ∷ []))

pub line_ends : (next : List ℕ → Layout) (at : ℕ) (text : List ℕ) → (Contains text 10 → ⊥) → outcome (line next) at text ≡ Err (Syntax (at + length text))
line_ends next at text none =
    let count : prefix_len is_in_line (text ++ []) ≡ length text = front_count is_in_line text [] (all_in_line text none) tt in
    line_cut next at text (let e = ap (prefix_len is_in_line) (append-nil text) in omega (arith, e, count))
