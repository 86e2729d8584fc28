-- Names escaped chunk by chunk.
use Rattle.std.proofs.Common.{◌≡◌, ℕ, ◌<◌, List, ◌++◌, length, drop, sym, ap, ◌∙◌, append_assoc}
use Rattle.std.specs.Str.Lossy.{replacement_bytes, utf8_invalid_len, utf8_lossy, utf8_valid_len}
use Rattle.std.proofs.lemmas.Grind.{flat_map-append}
use Rattle.std.proofs.lemmas.List.{append-nil}
use Rattle.std.proofs.lemmas.Str.{utf8_lossy_chunk, utf8_lossy_empty, utf8_lossy_last_chunk}
use Rattle.omega_text.specs.Labels.{escaped, escaped_byte, escaped_bytes}

-- a text is written, and then what it is written for is the front of what was left
pub text_written : (left text rest out after whole : List ℕ) → escaped left ≡ text ++ escaped rest → after ≡ out ++ text
    → out ++ escaped left ≡ whole → after ++ escaped rest ≡ whole
text_written left text rest out after whole front step so_far =
    ap (λ list. list ++ escaped rest) step ∙ append_assoc out text (escaped rest) ∙ ap (λ list. out ++ list) (sym front) ∙ so_far

-- a chunk of text, and U+FFFD for the bytes of no character after it
pub chunk_written : (left valid invalid rest out between after whole : List ℕ) → left ≡ valid ++ (invalid ++ rest) → length valid ≡ utf8_valid_len left
    → length invalid ≡ utf8_invalid_len (drop (utf8_valid_len left) left) → 0 < length invalid
    → between ≡ out ++ escaped_bytes valid → after ≡ between ++ replacement_bytes → out ++ escaped left ≡ whole → after ++ escaped rest ≡ whole
chunk_written left valid invalid rest out between after whole parts text sequence some first second so_far =
    let front : escaped left ≡ (escaped_bytes valid ++ replacement_bytes) ++ escaped rest =
    ap escaped_bytes (utf8_lossy_chunk left valid invalid rest parts text sequence some)
    ∙ flat_map-append escaped_byte valid (replacement_bytes ++ utf8_lossy rest)
    ∙ ap (λ list. escaped_bytes valid ++ list) (flat_map-append escaped_byte replacement_bytes (utf8_lossy rest))
    ∙ sym (append_assoc (escaped_bytes valid) replacement_bytes (escaped rest)) in
    text_written left (escaped_bytes valid ++ replacement_bytes) rest out after whole front
    (second ∙ ap (λ list. list ++ replacement_bytes) first ∙ append_assoc out (escaped_bytes valid) replacement_bytes) so_far

-- the last chunk, which is text alone
pub last_chunk_written : (left valid invalid rest out after whole : List ℕ) → left ≡ valid ++ (invalid ++ rest) → length valid ≡ utf8_valid_len left
    → length invalid ≡ 0 → length rest ≡ 0 → after ≡ out ++ escaped_bytes valid → out ++ escaped left ≡ whole → after ++ escaped rest ≡ whole
last_chunk_written left valid invalid rest out after whole parts text none empty step so_far =
    text_written left (escaped_bytes valid) rest out after whole
    (ap escaped_bytes (utf8_lossy_last_chunk left valid invalid rest parts text none empty) ∙ flat_map-append escaped_byte valid (utf8_lossy rest)) step so_far

-- nothing is left
pub nothing_left : (left out whole : List ℕ) → length left ≡ 0 → out ++ escaped left ≡ whole → out ≡ whole
nothing_left left out whole none so_far =
    sym (append-nil out) ∙ ap (λ list. out ++ list) (sym (ap escaped_bytes (utf8_lossy_empty left none))) ∙ so_far
