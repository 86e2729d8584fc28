-- The longest unit that bytes begin with, from a run over them.
use Rattle.std.proofs.Common.{◌≡◌, ◌≢◌, ◌==◌, ℕ, zero, suc, ◌+◌, ◌<◌, ◌≤◌, true, false, Option, Some, None, List, [], ◌∷◌, ◌++◌, length, get_or, take, drop, refl, sym, ap, ◌∙◌, subst, arith, length-drop, length-take-le}
use Rattle.std.proofs.lemmas.List.{get_or-drop, take-append-drop, take_more}
use Rattle.std.proofs.lemmas.List.Elements.{All-tail}
use Rattle.std.proofs.lemmas.List.Sums.{prefix_len-le-length, prefix_len_stops}
use Rattle.std.specs.List.{prefix_len}
use Rattle.omega_text.specs.declared.hoa.kind.HoaKind.{HoaKind}
use Rattle.omega_text.specs.declared.hoa.kind.HoaKind.TheVariants.{Identifier, HeaderName, Int}
use Rattle.omega_text.specs.declared.hoa.mode.Mode.{Mode}
use Rattle.omega_text.specs.declared.hoa.mode.Mode.TheVariants.{Start, Word, Digits, Whole, Blank}
use Rattle.omega_text.specs.hoa.Fault.{BeginsNoUnit, BeginsWrongDigits}
use Rattle.omega_text.specs.hoa.Forms.{IsForm, IsUnit, Spells}
use Rattle.omega_text.specs.private.hoa.scanning.Modes.{IsFirstUnit, IsScanned, IsStuck, SpellsUnit, first_mode, letter_kind, next_mode, run, unit_of}
use Rattle.omega_text.specs.Bytes.{is_digit, is_letter, is_white, is_word_byte}
use Rattle.omega_text.specs.Forms.{IsDigits, IsWord}
use Rattle.omega_text.proofs.pg_texts.Classes.{both_ways}
use Rattle.omega_text.proofs.pg_texts.Longest.{head, head-take, longest_digits, longest_word}
use Rattle.omega_text.proofs.hoa_texts.Longest.{stuck_longest, stuck_no_unit}
use Rattle.omega_text.proofs.hoa_texts.Numbers.{IsNoNumber}
use Rattle.omega_text.proofs.hoa_texts.Read.{unit_read}
use Rattle.omega_text.proofs.hoa_texts.Runs.{answer, run_append}
use Rattle.omega_text.proofs.hoa_texts.Tests.{pass}
use Rattle.omega_text.proofs.hoa_texts.Written.{digit_no_letter, digits_run, first_white, header_run, no_test, white_no_digit, word_run}

-- a unit that is no digits has the value 0
pub plain_unit : (sort : Option HoaKind) (text : List ℕ) → IsUnit sort text → (IsDigits text → ⊥) → SpellsUnit sort 0 text
plain_unit None text unit plain = unit
plain_unit (Some kind) text unit plain = plain_form kind text unit plain
  where
    plain_form : (kind : HoaKind) (text : List ℕ) → IsForm kind text → (IsDigits text → ⊥) → Spells kind 0 text
    plain_form Int text form plain = absurd (plain form)
    plain_form kind text form plain = (refl, form)

-- a mode goes no further, by the first of the bytes that follow
pub stuck_before : (mode : Mode) (rest : List ℕ) → (0 < length rest → next_mode mode (head rest) ≡ None) → IsStuck mode rest
stuck_before mode [] ends = tt
stuck_before mode (byte ∷ rest) ends = ends (omega arith)

-- the same after a number of bytes
pub stuck_at : (mode : Mode) (bytes : List ℕ) (count : ℕ) → (count < length bytes → next_mode mode (get_or bytes count 0) ≡ None) → IsStuck mode (drop count bytes)
stuck_at mode bytes count ends = stuck_before mode (drop count bytes) (λ more.
    let size = length-drop count bytes in
    let place : count + 0 ≡ count = omega arith in
    ap (next_mode mode) (get_or-drop count bytes 0 0 ∙ ap (λ n. get_or bytes n 0) place) ∙ ends (omega arith))

-- nothing goes on after a whole token
pub whole_stuck : (kind : HoaKind) (rest : List ℕ) → IsStuck (Whole kind) rest
whole_stuck kind [] = tt
whole_stuck kind (byte ∷ rest) = refl

-- nothing is read of no bytes
read_some : (mode : Mode) (count : ℕ) (bytes : List ℕ) (sort : Option HoaKind) → run (Some Start) (take count bytes) ≡ Some mode → unit_of mode ≡ Some sort → 0 < count
read_some mode zero bytes sort is unit = let same : None ≡ Some sort = ap answer is ∙ unit in absurd (cc)
read_some mode (suc count) bytes sort is unit = omega arith

module _ (bytes : List ℕ) (count : ℕ) (mode : Mode) (scanned : IsScanned bytes count mode) where
  -- what was read is the first unit
  pub first_read : (sort : Option HoaKind) (value : ℕ) → unit_of mode ≡ Some sort → SpellsUnit sort value (take count bytes) → IsFirstUnit bytes sort value count
  first_read sort value is spells = record {
    some = read_some mode count bytes sort scanned.reached is;
    within = scanned.within;
    spells = spells;
    longest = stuck_longest (take count bytes) (drop count bytes) mode scanned.reached scanned.stuck;
  }

  -- the same of a unit that is no digits
  pub first_plain : (sort : Option HoaKind) → unit_of mode ≡ Some sort → is_digit (head bytes) ≡ false → IsFirstUnit bytes sort 0 count
  first_plain sort is no_digit =
      let some = read_some mode count bytes sort scanned.reached is in
      first_read sort 0 is (plain_unit sort (take count bytes) (unit_read (take count bytes) sort (ap answer scanned.reached ∙ is))
      (λ digits. both_ways _ (digits.1 0 0 digits.0) (ap is_digit (head-take count bytes some) ∙ no_digit)))

  -- no unit begins there
  pub first_none : 0 < length bytes → unit_of mode ≡ None → BeginsNoUnit bytes
  first_none some is =
      let whole = take-append-drop count bytes in
      subst BeginsNoUnit whole (stuck_no_unit (take count bytes) (drop count bytes) mode scanned.reached scanned.stuck (omega (arith, ap length whole)) is)

  -- digits that are no number are a fault
  pub first_fault : IsDigits (take count bytes) → IsNoNumber (take count bytes) → BeginsWrongDigits bytes
  first_fault digits wrong = record {
    text = take count bytes;
    rest = drop count bytes;
    split = sym (take-append-drop count bytes);
    longest = stuck_longest (take count bytes) (drop count bytes) mode scanned.reached scanned.stuck;
    digits = digits;
    wrong = wrong;
  }

-- a whole unit of one byte
pub one_byte : (bytes : List ℕ) (mode : Mode) → 0 < length bytes → next_mode Start (head bytes) ≡ Some mode → ((byte : ℕ) → next_mode mode byte ≡ None) → IsScanned bytes 1 mode
one_byte [] mode some begins ends = absurd (omega arith)
one_byte (byte ∷ rest) mode some begins ends = record { within = omega arith; reached = begins; stuck = stuck_before mode rest (λ _. ends (head rest)) }

-- a white byte, and a sign
pub white_unit : (bytes : List ℕ) → 0 < length bytes → is_white (head bytes) ≡ true → IsFirstUnit bytes None 0 1
white_unit bytes some white = let scanned = one_byte bytes Blank some (first_white (head bytes) white) (λ byte. refl) in
    first_plain bytes 1 Blank scanned None refl (white_no_digit (head bytes) white)

pub one_sign : (bytes : List ℕ) (kind : HoaKind) → 0 < length bytes → first_mode (head bytes) ≡ Some (Whole kind) → is_digit (head bytes) ≡ false → IsFirstUnit bytes (Some kind) 0 1
one_sign bytes kind some sign no_digit =
    let scanned = one_byte bytes (Whole kind) some sign (λ byte. refl) in
    first_plain bytes 1 (Whole kind) scanned (Some kind) refl no_digit

-- the kind of a word
word_reached : (text : List ℕ) (kind : HoaKind) → IsWord text → (length text ≡ 1 → kind ≡ letter_kind (head text)) → (1 < length text → kind ≡ Identifier) → run (Some Start) text ≡ Some (Word kind)
word_reached [] kind word one more = absurd (omega (arith, word.0))
word_reached (byte ∷ []) kind word one more = word_run byte [] word.1 (All-tail (λ b. is_word_byte b ≡ true) byte [] word.2) ∙ ap (λ k. Some (Word k)) (sym (one (omega arith)))
word_reached (byte ∷ next ∷ rest) kind word one more = word_run byte (next ∷ rest) word.1 (All-tail (λ b. is_word_byte b ≡ true) byte (next ∷ rest) word.2) ∙ ap (λ k. Some (Word k)) (sym (more (omega arith)))

-- bytes that begin with a letter
module _ (bytes : List ℕ) (some : 0 < length bytes) (letter : is_letter (head bytes) ≡ true) (count : ℕ) (is : count ≡ prefix_len is_word_byte bytes) where
  word : IsWord (take count bytes)
  word = subst (λ n. IsWord (take n bytes)) (sym is) (longest_word bytes some letter).1

  within : count ≤ length bytes
  within = omega (arith, is, prefix_len-le-length is_word_byte bytes)

  no_digits : IsDigits (take count bytes) → ⊥
  no_digits digits = both_ways _ word.1 (digit_no_letter (head (take count bytes)) (digits.1 0 0 digits.0))

  -- a word and the colon that follows it
  pub first_header : count < length bytes → get_or bytes count 0 ≡ 58 → IsFirstUnit bytes (Some HeaderName) 0 (count + 1)
  first_header more colon =
      let text : take (count + 1) bytes ≡ take count bytes ++ 58 ∷ [] = take_more bytes count 0 more ∙ ap (λ b. take count bytes ++ b ∷ []) colon in
      let scanned : IsScanned bytes (count + 1) (Whole HeaderName) = record {
        within = omega arith;
        reached = ap (run (Some Start)) text ∙ header_run (take count bytes) word;
        stuck = whole_stuck HeaderName (drop (count + 1) bytes);
      } in
      first_read bytes (count + 1) (Whole HeaderName) scanned (Some HeaderName) 0 refl (refl, (take count bytes, text, word))

  -- how far a word is read
  pub first_reached : (kind : HoaKind) → (count ≡ 1 → kind ≡ letter_kind (head bytes)) → (count ≢ 1 → kind ≡ Identifier) → run (Some Start) (take count bytes) ≡ Some (Word kind)
  first_reached kind one more =
      let size = length-take-le count bytes within in
      word_reached (take count bytes) kind word
      (λ single. one (omega arith) ∙ ap letter_kind (sym (head-take count bytes (omega (arith, word.0)))))
      (λ long. more (omega arith))

  -- a word that no colon follows
  pub first_word : (kind : HoaKind) → (count < length bytes → get_or bytes count 0 ≢ 58) → (count ≡ 1 → kind ≡ letter_kind (head bytes)) → (count ≢ 1 → kind ≡ Identifier) → IsFirstUnit bytes (Some kind) 0 count
  first_word kind no_colon one more =
      let reached = first_reached kind one more in
      let stuck : count < length bytes → next_mode (Word kind) (get_or bytes count 0) ≡ None = λ inside.
      pass (is_word_byte (get_or bytes count 0)) _ _ (ap (λ n. is_word_byte (get_or bytes n 0)) is ∙ prefix_len_stops is_word_byte bytes 0 (omega arith))
      ∙ pass (get_or bytes count 0 == 58) _ _ (no_test (get_or bytes count 0) 58 (no_colon inside)) in
      let scanned : IsScanned bytes count (Word kind) = record { within = within; reached = reached; stuck = stuck_at (Word kind) bytes count stuck } in
      first_read bytes count (Word kind) scanned (Some kind) 0 refl
      (plain_unit (Some kind) (take count bytes) (unit_read (take count bytes) (Some kind) (ap answer reached)) no_digits)

-- bytes that begin with a digit
module _ (bytes : List ℕ) (some : 0 < length bytes) (digit : is_digit (head bytes) ≡ true) (count : ℕ) (is : count ≡ prefix_len is_digit bytes) where
  pub first_digits : IsDigits (take count bytes)
  first_digits = subst (λ n. IsDigits (take n bytes)) (sym is) (longest_digits bytes some digit).1

  pub digits_scanned : IsScanned bytes count Digits
  digits_scanned = record {
    within = omega (arith, is, prefix_len-le-length is_digit bytes);
    reached = digits_run (take count bytes) first_digits;
    stuck = stuck_at Digits bytes count (λ inside. pass (is_digit (get_or bytes count 0)) _ _ (ap (λ n. is_digit (get_or bytes n 0)) is ∙ prefix_len_stops is_digit bytes 0 (omega arith)));
  }

-- one byte more of a run
pub run_more : (bytes : List ℕ) (count : ℕ) (mode next : Mode) → count < length bytes → run (Some Start) (take count bytes) ≡ Some mode
    → next_mode mode (get_or bytes count 0) ≡ Some next → run (Some Start) (take (count + 1) bytes) ≡ Some next
run_more bytes count mode next inside reached is =
    ap (run (Some Start)) (take_more bytes count 0 inside) ∙ run_append (Some Start) (take count bytes) (get_or bytes count 0 ∷ [])
    ∙ ap (λ state. run state (get_or bytes count 0 ∷ [])) reached ∙ is

-- a first unit by equal parts
pub unit_as : (bytes : List ℕ) (kind sort : Option HoaKind) (value count worth size : ℕ) → kind ≡ sort → value ≡ worth → count ≡ size → IsFirstUnit bytes sort worth size → IsFirstUnit bytes kind value count
unit_as bytes kind sort value count worth size kinds values counts unit =
    subst (λ n. IsFirstUnit bytes kind value n) (sym counts) (subst (λ n. IsFirstUnit bytes kind n size) (sym values) (subst (λ s. IsFirstUnit bytes s worth size) (sym kinds) unit))
