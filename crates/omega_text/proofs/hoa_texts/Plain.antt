-- Units that a first byte and a run of bytes after it show.
use Rattle.std.proofs.Common.{◌≡◌, ℕ, suc, ◌+◌, ◌-◌, ◌<◌, ◌≤◌, Bool, true, false, Some, List, [], ◌∷◌, length, get_or, take, drop, refl, sym, ap, ◌∙◌, subst, arith, add-zero, length-drop, length-take-le}
use Rattle.std.proofs.lemmas.List.{get_or-drop, get_or-take, take_more}
use Rattle.std.proofs.lemmas.List.Sums.{prefix_len-le-length, prefix_len_is, prefix_len_passes, prefix_len_stops}
use Rattle.std.specs.List.{AllPass, prefix_len}
use Rattle.omega_text.specs.Bytes.{is_digit, is_word_byte}
use Rattle.omega_text.specs.declared.hoa.kind.HoaKind.TheVariants.{AliasName, Int, String, Body, End, Abort}
use Rattle.omega_text.specs.declared.hoa.kind.HoaKind.{HoaKind}
use Rattle.omega_text.specs.declared.hoa.mode.Mode.TheVariants.{Start, Alias, Digits, Quoted, Whole}
use Rattle.omega_text.specs.Limits.{most_number}
use Rattle.omega_text.specs.hoa.Forms.{Spells, spelling}
use Rattle.omega_text.specs.private.hoa.scanning.Modes.{BeginsAs, IsFirstUnit, IsScanned, first_mode, next_mode, run}
use Rattle.omega_text.specs.hoa.Pieces.{is_mark}
use Rattle.omega_text.specs.private.hoa.scanning.Passing.{IsSimple, IsSingle, is_quoted}
use Rattle.omega_text.specs.declared.hoa.passing.Simple.TheVariants.{Ended}
use Rattle.std.specs.Str.Parse.{digits_value}
use Rattle.omega_text.proofs.pg_texts.Longest.{head, head-take}
use Rattle.omega_text.proofs.pg_texts.Numbers.{front_value, worth_small}
use Rattle.omega_text.proofs.hoa_texts.Passing.{digits_simple, quoted_front}
use Rattle.omega_text.proofs.hoa_texts.Runs.{run_append}
use Rattle.omega_text.proofs.hoa_texts.Tests.{pass}
use Rattle.omega_text.proofs.hoa_texts.Units.{digits_scanned, first_digits, first_plain, first_read, stuck_at, whole_stuck}
use Rattle.omega_text.proofs.hoa_texts.Values.{one_digit}
use Rattle.omega_text.proofs.hoa_texts.Written.{at_run}

-- each byte of a run passes
pub run_passes : (test : ℕ → Bool) (bytes : List ℕ) → AllPass test (take (prefix_len test bytes) bytes)
run_passes test bytes k d inside =
    let size = length-take-le (prefix_len test bytes) bytes (prefix_len-le-length test bytes) in
    ap test (get_or-take (prefix_len test bytes) bytes k d (omega arith)) ∙ prefix_len_passes test bytes k d (omega arith)

-- a quote, and bytes of a string
quote_front : (bytes : List ℕ) → head bytes ≡ 34 → run (Some Start) (take (1 + prefix_len is_quoted (drop 1 bytes)) bytes) ≡ Some Quoted
quote_front [] quote = absurd (omega (arith, quote))
quote_front (byte ∷ rest) quote =
    let one : 1 + prefix_len is_quoted rest ≡ suc (prefix_len is_quoted rest) = omega arith in
    ap (λ count. run (Some Start) (take count (byte ∷ rest))) one
    ∙ ap (λ mode. run mode (take (prefix_len is_quoted rest) rest)) (ap first_mode quote) ∙ quoted_front rest

-- a string without backslashes
pub first_string : (bytes rest : List ℕ) (count : ℕ) → head bytes ≡ 34 → rest ≡ drop 1 bytes → count ≡ prefix_len is_quoted rest → 1 + count < length bytes → get_or bytes (1 + count) 0 ≡ 34
    → IsFirstUnit bytes (Some String) 0 (1 + count + 1)
first_string bytes rest count quote is prefix inside close =
    let inner : count ≡ prefix_len is_quoted (drop 1 bytes) = prefix ∙ ap (prefix_len is_quoted) is in
    let scanned : IsScanned bytes (1 + count + 1) (Whole String) = record {
      within = omega (arith, inside);
      reached = ap (run (Some Start)) (take_more bytes (1 + count) 0 inside) ∙ run_append (Some Start) (take (1 + count) bytes) (get_or bytes (1 + count) 0 ∷ [])
          ∙ ap (λ state. run state (get_or bytes (1 + count) 0 ∷ [])) (ap (λ n. run (Some Start) (take (1 + n) bytes)) inner ∙ quote_front bytes quote)
          ∙ ap (next_mode Quoted) close;
      stuck = whole_stuck String (drop (1 + count + 1) bytes);
    } in
    first_plain bytes (1 + count + 1) (Whole String) scanned (Some String) refl (ap is_digit quote)

-- `@` and bytes of a word
at_front : (bytes : List ℕ) → head bytes ≡ 64 → 0 < prefix_len is_word_byte (drop 1 bytes) → run (Some Start) (take (1 + prefix_len is_word_byte (drop 1 bytes)) bytes) ≡ Some Alias
at_front [] at some = absurd (omega (arith, at))
at_front (byte ∷ rest) at some =
    let count = prefix_len is_word_byte rest in
    let one : 1 + count ≡ suc count = omega arith in
    let size = length-take-le count rest (prefix_len-le-length is_word_byte rest) in
    ap (λ n. run (Some Start) (take n (byte ∷ rest))) one ∙ ap (λ b. run (Some Start) (b ∷ take count rest)) at
    ∙ at_run (take count rest) (omega (arith, size, some)) (run_passes is_word_byte rest)

-- an alias name
pub first_alias : (bytes rest : List ℕ) (count : ℕ) → 0 < length bytes → head bytes ≡ 64 → rest ≡ drop 1 bytes → count ≡ prefix_len is_word_byte rest → 0 < count → IsFirstUnit bytes (Some AliasName) 0 (1 + count)
first_alias bytes rest count inside at is prefix some =
    let inner : count ≡ prefix_len is_word_byte (drop 1 bytes) = prefix ∙ ap (prefix_len is_word_byte) is in
    let short = prefix_len-le-length is_word_byte (drop 1 bytes) in
    let size = length-drop 1 bytes in
    let scanned : IsScanned bytes (1 + count) Alias = record {
      within = omega (arith, inner, short, size, inside);
      reached = ap (λ n. run (Some Start) (take (1 + n) bytes)) inner ∙ at_front bytes at (omega (arith, inner, some));
      stuck = stuck_at Alias bytes (1 + count) (λ more.
          pass (is_word_byte (get_or bytes (1 + count) 0)) _ _
          (ap (λ n. is_word_byte (get_or bytes (1 + n) 0)) inner ∙ sym (ap is_word_byte (get_or-drop 1 bytes (prefix_len is_word_byte (drop 1 bytes)) 0))
          ∙ prefix_len_stops is_word_byte (drop 1 bytes) 0 (omega (arith, inner, size, more))));
    } in
    first_plain bytes (1 + count) Alias scanned (Some AliasName) refl (ap is_digit at)

-- a number of one digit
pub first_digit_unit : (bytes : List ℕ) (value : ℕ) → 1 < length bytes → is_digit (head bytes) ≡ true → is_digit (get_or bytes 1 0) ≡ false → value ≡ head bytes - 48 → IsFirstUnit bytes (Some Int) value 1
first_digit_unit bytes value long digit other is =
    let some : 0 < length bytes = omega (arith, long) in
    let count : prefix_len is_digit bytes ≡ 1 =
    prefix_len_is is_digit bytes 1 0 (omega (arith, long)) (λ k below. let zeroth : 0 ≡ k = omega arith in subst (λ n. is_digit (get_or bytes n 0) ≡ true) zeroth digit) (λ _. other) in
    let front : take 1 bytes ≡ head bytes ∷ [] = take_more bytes 0 0 some in
    let small : head bytes - 48 ≤ most_number = omega (arith, worth_small (head bytes) digit) in
    first_read bytes 1 Digits (digits_scanned bytes some digit 1 (sym count)) (Some Int) value refl
    (subst (λ n. Spells Int n (take 1 bytes)) (sym is) (subst (Spells Int (head bytes - 48)) (sym front) ((one_digit (head bytes) digit).number small)))

-- a number of few digits
pub few_spells : (bytes : List ℕ) (count value : ℕ) → 0 < length bytes → is_digit (head bytes) ≡ true → count ≡ prefix_len is_digit bytes → value ≡ digits_value 10 (take count bytes) → value ≤ most_number
    → (head bytes ≡ 48 → count ≤ 1) → Spells Int value (take count bytes)
few_spells bytes count value some digit is worth small plain =
    let digits = first_digits bytes some digit count is in
    let scanned = digits_scanned bytes some digit count is in
    let long = length-take-le count bytes scanned.within in
    (small, front_value (take count bytes) value digits (λ zero_first. omega (arith, long, plain (sym (head-take count bytes (omega (arith, digits.0, long))) ∙ zero_first))) worth small)

pub few_digits_unit : (bytes : List ℕ) (count value : ℕ) → 0 < length bytes → is_digit (head bytes) ≡ true → count ≡ prefix_len is_digit bytes → value ≡ digits_value 10 (take count bytes) → value ≤ most_number
    → (head bytes ≡ 48 → count ≤ 1) → IsFirstUnit bytes (Some Int) value count
few_digits_unit bytes count value some digit is worth small plain =
    first_read bytes count Digits (digits_scanned bytes some digit count is) (Some Int) value refl (few_spells bytes count value some digit is worth small plain)

-- the same at a place, if a byte after it ends it
pub few_digits_simple : (start : ℕ) (bytes rest : List ℕ) (place count value : ℕ) → place < length bytes → rest ≡ drop place bytes → is_digit (get_or bytes place 0) ≡ true → count ≡ prefix_len is_digit rest
    → value ≡ digits_value 10 (take count rest) → value ≤ most_number → (get_or rest 0 0 ≡ 48 → count ≤ 1) → count < length rest → IsSingle (get_or bytes (place + count) 0) → IsSimple start bytes place (Ended (place + count + 1))
few_digits_simple start bytes rest place count value inside is digit prefix worth small plain ended single =
    let size = length-drop place bytes in
    let same : length rest ≡ length (drop place bytes) = ap length is in
    let first : is_digit (get_or rest 0 0) ≡ true = ap is_digit (ap (λ bs. get_or bs 0 0) is ∙ get_or-drop place bytes 0 0 ∙ ap (λ k. get_or bytes k 0) (add-zero place)) ∙ digit in
    let spells = few_spells rest count value (omega (arith, size, same, inside)) first prefix worth small plain in
    digits_simple start bytes rest place count value inside is digit prefix (record { number = λ _. spells; none = λ great number other. absurd (omega (arith, great, small)) }) small (omega (arith, size, same, ended, inside)) single

-- a mark
mark_run : (kind : HoaKind) → is_mark kind ≡ true → run (Some Start) (spelling kind) ≡ Some (Whole kind)
mark_run Body mark = refl
mark_run End mark = refl
mark_run Abort mark = refl
mark_run kind mark = absurd (cc)

mark_head : (kind : HoaKind) → is_mark kind ≡ true → (0 < length (spelling kind)) × (is_digit (head (spelling kind)) ≡ false)
mark_head Body mark = (omega arith, refl)
mark_head End mark = (omega arith, refl)
mark_head Abort mark = (omega arith, refl)
mark_head kind mark = absurd (cc)

pub first_mark : (bytes : List ℕ) (kind : HoaKind) → is_mark kind ≡ true → BeginsAs bytes (spelling kind) → IsFirstUnit bytes (Some kind) 0 (length (spelling kind))
first_mark bytes kind mark begins =
    let count = length (spelling kind) in
    let first = mark_head kind mark in
    let scanned : IsScanned bytes count (Whole kind) = record {
      within = begins.within;
      reached = ap (run (Some Start)) begins.same ∙ mark_run kind mark;
      stuck = whole_stuck kind (drop count bytes);
    } in
    first_plain bytes count (Whole kind) scanned (Some kind) refl
    (ap is_digit (sym (head-take count bytes first.0) ∙ ap head begins.same) ∙ first.1)
