-- The table is held against the definition at each of the 256 bytes, by computing.
use Rattle.std.proofs.Common.{◌≡◌, ℕ, ◌<◌, ◌==◌, Bool, not, map, get_or, refl, sym, ap, ◌∙◌, arith}
use Rattle.std.proofs.lemmas.List.{get_or-map}
use Rattle.std.proofs.lemmas.List.FromFn.{get_or-map-range_with_len}
use Rattle.std.specs.List.{range_with_len}
use Rattle.omega_text.specs.declared.bytes.TheConstants.{WORD_BYTES}
use Rattle.omega_text.specs.Bytes.{is_word_byte}
use Rattle.omega_text.proofs.bytes.is_word_byte.Goals as goal

abbrev shown : ℕ → Bool
shown mark = not (mark == 44)

table_is : map shown WORD_BYTES ≡ map is_word_byte (range_with_len 0 256)
table_is = refl

at : (byte : ℕ) → byte < 256 → shown (get_or WORD_BYTES byte 0) ≡ is_word_byte byte
at byte small =
    sym (get_or-map shown WORD_BYTES byte 0 (shown 0) small) ∙ ap (λ marks. get_or marks byte (shown 0)) table_is
    ∙ get_or-map-range_with_len is_word_byte 0 256 byte byte (shown 0) small (omega arith)

pub returns : goal.returns
returns c = at c.args.byte (omega arith)
