-- Alias names and marks that are passed at once.
use Rattle.std.proofs.Common.{◌≡◌, ℕ, ◌+◌, ◌-◌, ◌<◌, ◌≤◌, true, Some, List, length, get_or, take, drop, refl, sym, ap, ◌∙◌, subst, arith, length-take-le}
use Rattle.std.proofs.lemmas.List.{take-take}
use Rattle.std.proofs.lemmas.List.Sums.{prefix_len-le-length}
use Rattle.std.specs.List.{prefix_len}
use Rattle.omega_text.specs.Bytes.{is_word_byte}
use Rattle.omega_text.specs.declared.hoa.kind.HoaKind.{HoaKind}
use Rattle.omega_text.specs.declared.hoa.kind.HoaKind.TheVariants.{AliasName, Body, End, Abort}
use Rattle.omega_text.specs.declared.hoa.mode.Mode.TheVariants.{Start, At, Alias, Mark}
use Rattle.omega_text.specs.declared.hoa.passing.Simple.TheVariants.{Begun, Ended}
use Rattle.omega_text.specs.declared.hoa.pending.Pending.{Pending}
use Rattle.omega_text.specs.hoa.Forms.{spelling}
use Rattle.omega_text.specs.private.hoa.scanning.Modes.{BeginsAs, first_mode, next_mode, run}
use Rattle.omega_text.specs.hoa.Pieces.{is_mark}
use Rattle.omega_text.specs.private.hoa.scanning.Passing.{IsEndedBy, IsSimple, IsSingle}
use Rattle.omega_text.specs.private.hoa.scanning.Unfinished.{IsTokenIn, fresh}
use Rattle.omega_text.proofs.hoa_texts.Passing.{ended_simple, ended_single, goes_on, no_word_byte, passes_byte, passes_part, passes_then, placed, placed_there, read_on, single_no_digit, single_no_hyphen, single_no_letter}
use Rattle.omega_text.proofs.hoa_texts.Plain.{run_passes}
use Rattle.omega_text.proofs.hoa_texts.Tests.{pass}
use Rattle.omega_text.proofs.hoa_texts.Written.{at_run}

-- a unit by itself ends an alias name
alias_ended : (before : Pending) (byte : ℕ) → before.mode ≡ Alias → IsSingle byte → IsEndedBy byte before
alias_ended before byte is single =
    ended_single before byte
    (ap (λ mode. next_mode mode byte) is
    ∙ pass (is_word_byte byte) _ _ (no_word_byte byte (single_no_letter byte single) (single_no_digit byte single) (single_no_hyphen byte single)))
    (λ stop. (
      placed AliasName 0 before.start stop,
      subst (λ mode. IsTokenIn mode before.value before.start stop (placed AliasName 0 before.start stop)) (sym is) (placed_there AliasName 0 before.start stop),
    ))
    single

-- an alias name and the byte after it
pub alias_simple : (start : ℕ) (bytes rest : List ℕ) (place count : ℕ) → place < length bytes → rest ≡ drop (place + 1) bytes → get_or bytes place 0 ≡ 64 → count ≡ prefix_len is_word_byte rest → 0 < count
    → place + 1 + count < length bytes → IsSingle (get_or bytes (place + 1 + count) 0) → IsSimple start bytes place (Ended (place + 1 + count + 1))
alias_simple start bytes rest place count inside is at prefix some more single =
    let sign : Pending = record { mode = At; start = start; value = 0 } in
    let name : Pending = record { mode = Alias; start = start; value = 0 } in
    let short = prefix_len-le-length is_word_byte rest in
    let size = length-take-le (prefix_len is_word_byte rest) rest short in
    let reads : run (Some At) (take count rest) ≡ Some Alias =
    ap (λ n. run (Some At) (take n rest)) prefix ∙ at_run (take (prefix_len is_word_byte rest) rest) (omega (arith, size, prefix, some)) (run_passes is_word_byte rest) in
    let front = passes_then start bytes place (place + 1) (place + 1 + count) (fresh start) sign name
    (passes_byte start bytes place (fresh start) sign inside (goes_on start (get_or bytes place 0) (fresh start) sign At (ap first_mode at) refl refl (λ value begun. tt)))
    (passes_part (start + (place + 1 - place)) bytes rest (place + 1) count sign name (omega (arith, inside)) is (omega (arith, prefix, short))
    (read_on (start + (place + 1 - place)) (take count rest) sign name Alias reads refl refl (λ begun none. tt))) in
    ended_simple start bytes place (place + 1 + count) name front more (alias_ended name (get_or bytes (place + 1 + count) 0) refl single)

-- a mark without its last byte
mark_begun : (kind : HoaKind) → is_mark kind ≡ true → run (Some Start) (take (length (spelling kind) - 1) (spelling kind)) ≡ Some (Mark kind (length (spelling kind) - 1))
mark_begun Body mark = refl
mark_begun End mark = refl
mark_begun Abort mark = refl
mark_begun kind mark = absurd (cc)

pub mark_some : (kind : HoaKind) → is_mark kind ≡ true → 0 < length (spelling kind)
mark_some Body mark = omega arith
mark_some End mark = omega arith
mark_some Abort mark = omega arith
mark_some kind mark = absurd (cc)

pub mark_simple : (start : ℕ) (bytes rest : List ℕ) (place count : ℕ) (kind : HoaKind) (after : Pending) → place < length bytes → rest ≡ drop place bytes → is_mark kind ≡ true → BeginsAs rest (spelling kind)
    → count ≡ length (spelling kind) - 1 → after.mode ≡ Mark kind count → after.start ≡ start → IsSimple start bytes place (Begun after (place + count))
mark_simple start bytes rest place count kind after inside is mark begins size mode begun =
    let all = length (spelling kind) in
    let less : count ≤ all = omega (arith, size) in
    let front : take count rest ≡ take (all - 1) (spelling kind) = sym (take-take count all rest less) ∙ ap (take count) begins.same ∙ ap (λ n. take n (spelling kind)) size in
    passes_part start bytes rest place count (fresh start) after (omega (arith, inside)) is (omega (arith, less, begins.within))
    (read_on start (take count rest) (fresh start) after (Mark kind count) (ap (run (Some Start)) front ∙ mark_begun kind mark ∙ ap (λ n. Some (Mark kind n)) (sym size)) mode begun (λ text none. tt))
