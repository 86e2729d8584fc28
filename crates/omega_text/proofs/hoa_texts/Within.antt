-- What is counted while units are read stays within bounds.
use Rattle.std.proofs.Common.{◌≡◌, ℕ, zero, suc, ◌+◌, ◌<◌, ◌≤◌, false, Option, Some, None, length, get_or, subst, arith, ◌==◌, List, [], ◌∷◌, add-zero, zero-add, sym}
use Rattle.std.proofs.lemmas.Bool.Decides.{nat_tests}
use Rattle.omega_text.specs.declared.hoa.kind.HoaKind.{HoaKind}
use Rattle.omega_text.specs.declared.hoa.mode.Mode.{Mode}
use Rattle.omega_text.specs.declared.hoa.mode.Mode.TheVariants.{Start, Word, At, Alias, Digits, Quoted, Escaped, Slash, Comment, Star, Slashed, Dash, Dashes, Mark, Whole, Blank}
use Rattle.omega_text.specs.hoa.Forms.{spelling}
use Rattle.omega_text.specs.private.hoa.scanning.Modes.{IsWithin, closed_mode, first_mode, next_mode, run, sign_kind, whole}
use Rattle.omega_text.specs.Bytes.{is_digit, is_letter, is_white, is_word_byte}
use Rattle.omega_text.proofs.hoa_texts.Runs.{run_none}
use Rattle.omega_text.proofs.hoa_texts.Tests.{either}

-- within bounds, if a unit may have been left
abbrev Stays : ℕ → Option Mode → Type 0
Stays bytes None = Unit {0}
Stays bytes (Some mode) = IsWithin bytes mode

-- for numbers that are not equal, the first at most the other
apart : (one most : ℕ) → (one == most) ≡ false → one ≤ most → one < most
apart one most fails within = grind (arith, nat_tests)

whole_within : (bytes : ℕ) (kind : Option HoaKind) → Stays bytes (whole kind)
whole_within bytes None = tt
whole_within bytes (Some kind) = tt

closed_within : (bytes around : ℕ) → around < bytes → IsWithin (bytes + 1) (closed_mode around)
closed_within bytes zero inside = tt
closed_within bytes (suc around) inside = omega arith

first_within : (bytes byte : ℕ) → Stays bytes (first_mode byte)
first_within bytes byte =
    either (Stays bytes) (is_white byte) _ _ (λ _. tt) (λ _.
    either (Stays bytes) (is_letter byte) _ _ (λ _. tt) (λ _.
    either (Stays bytes) (is_digit byte) _ _ (λ _. tt) (λ _.
    either (Stays bytes) (byte == 34) _ _ (λ _. tt) (λ _.
    either (Stays bytes) (byte == 64) _ _ (λ _. tt) (λ _.
    either (Stays bytes) (byte == 45) _ _ (λ _. tt) (λ _.
    either (Stays bytes) (byte == 47) _ _ (λ _. tt) (λ _. whole_within bytes (sign_kind byte))))))))

-- with one byte more
next_within : (bytes : ℕ) (mode : Mode) (byte : ℕ) → IsWithin bytes mode → Stays (bytes + 1) (next_mode mode byte)
next_within bytes Start byte within = first_within (bytes + 1) byte
next_within bytes (Word kind) byte within = either (Stays (bytes + 1)) (is_word_byte byte) _ _ (λ _. tt) (λ _. either (Stays (bytes + 1)) (byte == 58) _ _ (λ _. tt) (λ _. tt))
next_within bytes At byte within = either (Stays (bytes + 1)) (is_word_byte byte) _ _ (λ _. tt) (λ _. tt)
next_within bytes Alias byte within = either (Stays (bytes + 1)) (is_word_byte byte) _ _ (λ _. tt) (λ _. tt)
next_within bytes Digits byte within = either (Stays (bytes + 1)) (is_digit byte) _ _ (λ _. tt) (λ _. tt)
next_within bytes Quoted byte within = either (IsWithin (bytes + 1)) (byte == 34) _ _ (λ _. tt) (λ _. either (IsWithin (bytes + 1)) (byte == 92) _ _ (λ _. tt) (λ _. tt))
next_within bytes Escaped byte within = tt
next_within bytes Slash byte within = either (Stays (bytes + 1)) (byte == 42) _ _ (λ _. omega arith) (λ _. tt)
next_within bytes (Comment around) byte within = either (IsWithin (bytes + 1)) (byte == 42) _ _ (λ _. omega arith) (λ _. either (IsWithin (bytes + 1)) (byte == 47) _ _ (λ _. omega arith) (λ _. omega arith))
next_within bytes (Star around) byte within = either (IsWithin (bytes + 1)) (byte == 47) _ _ (λ _. closed_within bytes around within) (λ _. either (IsWithin (bytes + 1)) (byte == 42) _ _ (λ _. omega arith) (λ _. omega arith))
next_within bytes (Slashed around) byte within = either (IsWithin (bytes + 1)) (byte == 42) _ _ (λ _. omega arith) (λ _. either (IsWithin (bytes + 1)) (byte == 47) _ _ (λ _. omega arith) (λ _. omega arith))
next_within bytes Dash byte within = either (Stays (bytes + 1)) (byte == 45) _ _ (λ _. tt) (λ _. tt)
next_within bytes Dashes byte within = either (Stays (bytes + 1)) (byte == 66) _ _ (λ _. omega arith) (λ _. either (Stays (bytes + 1)) (byte == 69) _ _ (λ _. omega arith) (λ _. either (Stays (bytes + 1)) (byte == 65) _ _ (λ _. omega arith) (λ _. tt)))
next_within bytes (Mark kind count) byte within = either (Stays (bytes + 1)) (byte == get_or (spelling kind) count 0) _ _
    (λ _. either (IsWithin (bytes + 1)) ((count + 1) == length (spelling kind)) _ _ (λ _. tt) (λ part. apart (count + 1) (length (spelling kind)) part (omega arith)))
    (λ _. tt)
next_within bytes (Whole kind) byte within = tt
next_within bytes Blank byte within = tt

-- the same if a unit goes on
pub next_stays : (bytes : ℕ) (mode : Mode) (byte : ℕ) (next : Mode) → IsWithin bytes mode → next_mode mode byte ≡ Some next → IsWithin (bytes + 1) next
next_stays bytes mode byte next within is = subst (Stays (bytes + 1)) is (next_within bytes mode byte within)

-- within wider bounds
pub wider : (bytes more : ℕ) (mode : Mode) → bytes ≤ more → IsWithin bytes mode → IsWithin more mode
wider bytes more (Comment around) longer within = omega arith
wider bytes more (Star around) longer within = omega arith
wider bytes more (Slashed around) longer within = omega arith
wider bytes more (Mark kind count) longer within = within
wider bytes more mode longer within = tt

-- all bytes of a list
run_stays : (bytes : ℕ) (state : Option Mode) (text : List ℕ) → Stays bytes state → Stays (bytes + length text) (run state text)
run_stays bytes state [] within = subst (λ n. Stays n state) (sym (add-zero bytes)) within
run_stays bytes None (byte ∷ text) within = subst (Stays (bytes + length (byte ∷ text))) (sym (run_none text)) tt
run_stays bytes (Some mode) (byte ∷ text) within =
    let more : bytes + 1 + length text ≡ bytes + length (byte ∷ text) = omega arith in
    subst (λ n. Stays n (run (next_mode mode byte) text)) more (run_stays (bytes + 1) (next_mode mode byte) text (next_within bytes mode byte within))

pub run_within : (text : List ℕ) (mode : Mode) → run (Some Start) text ≡ Some mode → IsWithin (length text) mode
run_within text mode is = subst (λ n. IsWithin n mode) (zero-add (length text)) (subst (Stays (0 + length text)) is (run_stays 0 (Some Start) text tt))

-- a unit that was begun
abbrev Begun : Option Mode → Type 0
Begun None = Unit {0}
Begun (Some Start) = ⊥
Begun (Some mode) = Unit {0}

whole_begun : (kind : Option HoaKind) → Begun (whole kind)
whole_begun None = tt
whole_begun (Some kind) = tt

closed_begun : (around : ℕ) → Begun (Some (closed_mode around))
closed_begun zero = tt
closed_begun (suc around) = tt

first_begun : (byte : ℕ) → Begun (first_mode byte)
first_begun byte =
    either Begun (is_white byte) _ _ (λ _. tt) (λ _.
    either Begun (is_letter byte) _ _ (λ _. tt) (λ _.
    either Begun (is_digit byte) _ _ (λ _. tt) (λ _.
    either Begun (byte == 34) _ _ (λ _. tt) (λ _.
    either Begun (byte == 64) _ _ (λ _. tt) (λ _.
    either Begun (byte == 45) _ _ (λ _. tt) (λ _.
    either Begun (byte == 47) _ _ (λ _. tt) (λ _. whole_begun (sign_kind byte))))))))

next_begun : (mode : Mode) (byte : ℕ) → Begun (next_mode mode byte)
next_begun Start byte = first_begun byte
next_begun (Word kind) byte = either Begun (is_word_byte byte) _ _ (λ _. tt) (λ _. either Begun (byte == 58) _ _ (λ _. tt) (λ _. tt))
next_begun At byte = either Begun (is_word_byte byte) _ _ (λ _. tt) (λ _. tt)
next_begun Alias byte = either Begun (is_word_byte byte) _ _ (λ _. tt) (λ _. tt)
next_begun Digits byte = either Begun (is_digit byte) _ _ (λ _. tt) (λ _. tt)
next_begun Quoted byte = either (λ mode. Begun (Some mode)) (byte == 34) _ _ (λ _. tt) (λ _. either (λ mode. Begun (Some mode)) (byte == 92) _ _ (λ _. tt) (λ _. tt))
next_begun Escaped byte = tt
next_begun Slash byte = either Begun (byte == 42) _ _ (λ _. tt) (λ _. tt)
next_begun (Comment around) byte = either (λ mode. Begun (Some mode)) (byte == 42) _ _ (λ _. tt) (λ _. either (λ mode. Begun (Some mode)) (byte == 47) _ _ (λ _. tt) (λ _. tt))
next_begun (Star around) byte = either (λ mode. Begun (Some mode)) (byte == 47) _ _ (λ _. closed_begun around) (λ _. either (λ mode. Begun (Some mode)) (byte == 42) _ _ (λ _. tt) (λ _. tt))
next_begun (Slashed around) byte = either (λ mode. Begun (Some mode)) (byte == 42) _ _ (λ _. tt) (λ _. either (λ mode. Begun (Some mode)) (byte == 47) _ _ (λ _. tt) (λ _. tt))
next_begun Dash byte = either Begun (byte == 45) _ _ (λ _. tt) (λ _. tt)
next_begun Dashes byte = either Begun (byte == 66) _ _ (λ _. tt) (λ _. either Begun (byte == 69) _ _ (λ _. tt) (λ _. either Begun (byte == 65) _ _ (λ _. tt) (λ _. tt)))
next_begun (Mark kind count) byte = either Begun (byte == get_or (spelling kind) count 0) _ _ (λ _. either (λ mode. Begun (Some mode)) ((count + 1) == length (spelling kind)) _ _ (λ _. tt) (λ _. tt)) (λ _. tt)
next_begun (Whole kind) byte = tt
next_begun Blank byte = tt

-- no byte leads back to the start
pub no_start : (mode : Mode) (byte : ℕ) → next_mode mode byte ≡ Some Start → ⊥
no_start mode byte is = subst Begun is (next_begun mode byte)
