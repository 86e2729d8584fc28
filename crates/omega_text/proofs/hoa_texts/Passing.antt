-- Bytes that are read at once.
use Rattle.std.proofs.Common.{◌≡◌, ◌≢◌, ◌↔◌, ◌==◌, ◌⊎◌, inl, inr, ⊎_elim, ℕ, suc, ◌+◌, ◌-◌, ◌<◌, ◌≤◌, Bool, true, false, Option, Some, None, List, [], ◌∷◌, ◌++◌, length, get_or, take, drop, refl, sym, ap, ◌∙◌, subst, arith, append_assoc, append-nil, length-append, length-drop, length-take-le, take-add, drop-drop}
use Rattle.std.proofs.lemmas.Bool.Decides.{eqb_tells, nat_tests}
use Rattle.std.proofs.lemmas.List.{get_or-drop, take_more}
use Rattle.std.specs.List.{prefix_len}
use Rattle.std.proofs.lemmas.List.Sums.{prefix_len-le-length, prefix_len_is}
use Rattle.omega_text.specs.Cut.{Cuts}
use Rattle.omega_text.specs.Lexeme.{Lexeme}
use Rattle.omega_text.specs.Limits.{most_number}
use Rattle.omega_text.specs.Bytes.{is_digit, is_letter, is_word_byte}
use Rattle.omega_text.specs.declared.hoa.kind.HoaKind.{HoaKind}
use Rattle.omega_text.specs.declared.hoa.kind.HoaKind.TheVariants.{Identifier, HeaderName, Int, String, Body, End, Abort}
use Rattle.omega_text.specs.declared.hoa.mode.Mode.{Mode}
use Rattle.omega_text.specs.declared.hoa.mode.Mode.TheVariants.{Start, Word, Digits, Quoted, Dash, Whole, Blank}
use Rattle.omega_text.specs.declared.hoa.passing.Course.TheVariants.{Ends}
use Rattle.omega_text.specs.declared.hoa.passing.Simple.TheVariants.{Ended}
use Rattle.omega_text.specs.declared.hoa.pending.Pending.{Pending}
use Rattle.omega_text.specs.declared.hoa.placed.PlacedToken.{PlacedToken}
use Rattle.omega_text.specs.declared.hoa.placed.Settled.{Settled}
use Rattle.omega_text.specs.declared.hoa.tokenizer.HoaTokenizer.{HoaTokenizer}
use Rattle.omega_text.specs.declared.refusal.text.TextFault.{TextFault}
use Rattle.omega_text.specs.hoa.Format.{hoa_format}
use Rattle.omega_text.specs.hoa.Laws.{is_closed}
use Rattle.omega_text.specs.hoa.Pieces.{HasPassed, HasRoom, IsNoneMark, IsPlain, NoneMarks, SettlesFault, StopsBefore, is_mark, lexeme_in, lexemes_in, settled_lexemes}
use Rattle.omega_text.specs.private.hoa.scanning.Modes.{first_mode, letter_kind, next_mode, quoted_mode, run, word_mode}
use Rattle.omega_text.specs.private.hoa.scanning.Passing.{EndsWord, IsCourse, IsEndedBy, IsOnWayFor, IsSimple, IsSingle, Passed, Passes, PassesAs, is_quoted}
use Rattle.omega_text.specs.private.hoa.scanning.Reading.{Any, HasRead, IsAt, IsKept, IsOnWay, IsUnfinishedUnit, With, IsValueOf}
use Rattle.omega_text.specs.private.hoa.scanning.Unfinished.{IsPlaced, IsTokenIn, fresh}
use Rattle.omega_text.proofs.hoa_texts.Last.{last_unclosed}
use Rattle.omega_text.proofs.hoa_texts.Pieces.{at_with, fault_stays, grown, judged, kept_settled, parts, split_more}
use Rattle.omega_text.proofs.hoa_texts.Runs.{run_append}
use Rattle.omega_text.proofs.hoa_texts.Tests.{either, pass}
use Rattle.omega_text.proofs.hoa_texts.Units.{first_digits, first_reached}
use Rattle.omega_text.proofs.hoa_texts.Values.{one_digit}
use Rattle.omega_text.proofs.pg_texts.Numbers.{worth_small}
use Rattle.omega_text.proofs.hoa_texts.Written.{digits_run, first_digit, first_letter, no_test}

-- marks are none of two lists
none_marks_both : (one other : List (Lexeme HoaKind)) → NoneMarks one → NoneMarks other → NoneMarks (one ++ other)
none_marks_both [] other first second = second
none_marks_both (lexeme ∷ one) other first second = (first.0, none_marks_both one other first.1 second)

none_mark_in : (source : List ℕ) (token : Option PlacedToken) → IsNoneMark token → NoneMarks (lexemes_in source token)
none_mark_in source None plain = tt
none_mark_in source (Some token) plain = (plain, tt)

-- kinds whose tokens do not show where they end are no marks
unclosed_no_mark : (kind : HoaKind) → is_closed kind ≡ false → is_mark kind ≡ false
unclosed_no_mark Body unclosed = absurd (cc)
unclosed_no_mark End unclosed = absurd (cc)
unclosed_no_mark Abort unclosed = absurd (cc)
unclosed_no_mark kind unclosed = refl

-- if no unit has been begun, its place is the end of what was read
pub fresh_place : (seen : List ℕ) (lexemes : List (Lexeme HoaKind)) (pending : Pending) → pending.mode ≡ Start → IsAt Any seen lexemes pending → pending.start ≡ length seen
fresh_place seen lexemes pending is at =
    let none = subst (λ mode. IsUnfinishedUnit mode pending.value at.begun) is at.unfinished in
    omega (arith, ap length none, parts seen at.gap at.begun at.end pending.start at.split at.within at.start)

pub fresh_same : (seen : List ℕ) (lexemes : List (Lexeme HoaKind)) (pending : Pending) → pending.mode ≡ Start → IsAt Any seen lexemes pending → IsAt Any seen lexemes (fresh (length seen))
fresh_same seen lexemes pending is at =
    let none = subst (λ mode. IsUnfinishedUnit mode pending.value at.begun) is at.unfinished in
    record {
      end = at.end;
      gap = at.gap;
      begun = at.begun;
      cuts = at.cuts;
      split = at.split;
      within = at.within;
      passed = at.passed;
      start = sym (fresh_place seen lexemes pending is at) ∙ at.start;
      reached = at.reached ∙ ap Some is;
      unfinished = none;
    }

-- no bytes more
pub passed_none : (start : ℕ) (before : Pending) → PassesAs start [] before before
passed_none start before seen lexemes place at = record {
  added = [];
  at = subst (λ ls. IsAt Any (seen ++ []) ls before) (sym (append-nil lexemes)) (subst (λ bytes. IsAt Any bytes lexemes before) (sym (append-nil seen)) at);
  plain = tt;
}

pub passes_none : (start : ℕ) (bytes : List ℕ) (from : ℕ) (before : Pending) → from ≤ length bytes → Passes start bytes from from before before
passes_none start bytes from before within =
    let none : from - from ≡ 0 = omega arith in
    record { forward = omega arith; within = within; reads = subst (λ n. PassesAs start (take n (drop from bytes)) before before) (sym none) (passed_none start before) }

-- bytes, and then others
passed_then : (start : ℕ) (one other : List ℕ) (before between after : Pending) → PassesAs start one before between → PassesAs (start + length one) other between after
    → PassesAs start (one ++ other) before after
passed_then start one other before between after first second seen lexemes place at =
    let front = first seen lexemes place at in
    let more = second (seen ++ one) (lexemes ++ front.added) (omega (arith, place, length-append seen one)) front.at in
    record {
      added = front.added ++ more.added;
      at = subst (λ bytes. IsAt Any bytes (lexemes ++ (front.added ++ more.added)) after) (append_assoc seen one other)
          (subst (λ ls. IsAt Any ((seen ++ one) ++ other) ls after) (append_assoc lexemes front.added more.added) more.at);
      plain = none_marks_both front.added more.added front.plain more.plain;
    }

-- parts of bytes
two_parts : (bytes : List ℕ) (a b c : ℕ) → a ≤ b → b ≤ c → take (b - a) (drop a bytes) ++ take (c - b) (drop b bytes) ≡ take (c - a) (drop a bytes)
two_parts bytes a b c one other =
    let middle : a + (b - a) ≡ b = omega arith in
    let all : (b - a) + (c - b) ≡ c - a = omega arith in
    sym (ap (λ n. take n (drop a bytes)) (sym all) ∙ take-add (b - a) (c - b) (drop a bytes)
    ∙ ap (λ rest. take (b - a) (drop a bytes) ++ take (c - b) rest) (drop-drop (b - a) a bytes ∙ ap (λ n. drop n bytes) middle))

one_part : (bytes : List ℕ) (place : ℕ) → place < length bytes → take (place + 1 - place) (drop place bytes) ≡ get_or bytes place 0 ∷ []
one_part bytes place inside =
    let one : place + 1 - place ≡ 0 + 1 = omega arith in
    let same : place + 0 ≡ place = omega arith in
    let size = length-drop place bytes in
    ap (λ n. take n (drop place bytes)) one ∙ take_more (drop place bytes) 0 0 (omega arith)
    ∙ ap (λ byte. byte ∷ []) (get_or-drop place bytes 0 0 ∙ ap (λ n. get_or bytes n 0) same)

part_size : (bytes : List ℕ) (a b : ℕ) → a ≤ b → b ≤ length bytes → length (take (b - a) (drop a bytes)) ≡ b - a
part_size bytes a b forward within = length-take-le (b - a) (drop a bytes) (let long = length-drop a bytes in omega (arith, forward, within))

pub passes_then : (start : ℕ) (bytes : List ℕ) (a b c : ℕ) (before between after : Pending) → Passes start bytes a b before between → Passes (start + (b - a)) bytes b c between after
    → Passes start bytes a c before after
passes_then start bytes a b c before between after one other = record {
  forward = omega (arith, one.forward, other.forward);
  within = other.within;
  reads = subst (λ part. PassesAs start part before after) (two_parts bytes a b c one.forward other.forward)
      (passed_then start (take (b - a) (drop a bytes)) (take (c - b) (drop b bytes)) before between after one.reads
      (subst (λ n. PassesAs (start + n) (take (c - b) (drop b bytes)) between after) (sym (part_size bytes a b one.forward one.within)) other.reads));
}

pub passes_byte : (start : ℕ) (bytes : List ℕ) (place : ℕ) (before after : Pending) → place < length bytes → PassesAs start (get_or bytes place 0 ∷ []) before after
    → Passes start bytes place (place + 1) before after
passes_byte start bytes place before after inside reads = record {
  forward = omega arith;
  within = omega (arith, inside);
  reads = subst (λ part. PassesAs start part before after) (sym (one_part bytes place inside)) reads;
}

-- a unit is read further
pub read_on : (start : ℕ) (text : List ℕ) (before after : Pending) (next : Mode) → run (Some before.mode) text ≡ Some next → after.mode ≡ next → after.start ≡ before.start
    → ((begun : List ℕ) → IsUnfinishedUnit before.mode before.value begun → IsUnfinishedUnit next after.value (begun ++ text)) → PassesAs start text before after
read_on start text before after next is mode begins unfinished seen lexemes place at = record {
  added = [];
  at = subst (λ ls. IsAt Any (seen ++ text) ls after) (sym (append-nil lexemes)) (record {
    end = at.end;
    gap = at.gap;
    begun = at.begun ++ text;
    cuts = λ rest _. subst (λ source. Cuts hoa_format source 0 lexemes at.end) (sym (append_assoc seen text rest)) (at.cuts (text ++ rest) tt);
    split = split_more seen at.gap at.begun at.end before.start at.split at.within at.start text;
    within = let within = at.within in omega (arith, length-append seen text);
    passed = at.passed;
    start = begins ∙ at.start;
    reached = run_append (Some Start) at.begun text ∙ ap (λ state. run state text) at.reached ∙ is ∙ ap Some (sym mode);
    unfinished = subst (λ m. IsUnfinishedUnit m after.value (at.begun ++ text)) (sym mode) (unfinished at.begun at.unfinished);
  });
  plain = tt;
}

-- bytes from a place on
pub passes_part : (start : ℕ) (bytes rest : List ℕ) (place count : ℕ) (before after : Pending) → place ≤ length bytes → rest ≡ drop place bytes → count ≤ length rest
    → PassesAs start (take count rest) before after → Passes start bytes place (place + count) before after
passes_part start bytes rest place count before after within is short reads =
    let size = length-drop place bytes in
    let all : place + count - place ≡ count = omega arith in
    record {
      forward = omega arith;
      within = omega (arith, ap length is);
      reads = subst (λ n. PassesAs start (take n (drop place bytes)) before after) (sym all) (subst (λ bs. PassesAs start (take count bs) before after) is reads);
    }

-- the first unit of bytes from a place on
module _ (bytes rest : List ℕ) (place start count : ℕ) (inside : place < length bytes) (is : rest ≡ drop place bytes) where
  head_is : get_or rest 0 0 ≡ get_or bytes place 0
  head_is = let same : place + 0 ≡ place = omega arith in ap (λ bs. get_or bs 0 0) is ∙ get_or-drop place bytes 0 0 ∙ ap (λ n. get_or bytes n 0) same

  some : 0 < length rest
  some = let size = length-drop place bytes in omega (arith, ap length is)

  -- a word
  pub word_passes : (kind : HoaKind) (after : Pending) → is_letter (get_or bytes place 0) ≡ true → count ≡ prefix_len is_word_byte rest
      → (count ≡ 1 → kind ≡ letter_kind (get_or rest 0 0)) → (count ≢ 1 → kind ≡ Identifier) → after.mode ≡ Word kind → after.start ≡ start → Passes start bytes place (place + count) (fresh start) after
  word_passes kind after letter prefix one more mode begins =
      passes_part start bytes rest place count (fresh start) after (omega (arith, inside)) is (omega (arith, prefix, prefix_len-le-length is_word_byte rest))
      (read_on start (take count rest) (fresh start) after (Word kind) (first_reached rest some (ap is_letter head_is ∙ letter) count prefix kind one more) mode begins (λ begun none. tt))

  -- a word, of some kind
  pub word_read : is_letter (get_or bytes place 0) ≡ true → count ≡ prefix_len is_word_byte rest
      → (kind : HoaKind) × Passes start bytes place (place + count) (fresh start) (record { mode = Word kind; start = start; value = 0 })
  word_read letter prefix = ⊎_elim
      (λ (is, one). (
        letter_kind (get_or rest 0 0),
        word_passes (letter_kind (get_or rest 0 0)) (record { mode = Word (letter_kind (get_or rest 0 0)); start = start; value = 0 }) letter prefix (λ _. refl) (λ other. absurd (other one)) refl refl,
      ))
      (λ (is, more). (
        Identifier,
        word_passes Identifier (record { mode = Word Identifier; start = start; value = 0 }) letter prefix (λ one. absurd (more one)) (λ _. refl) refl refl,
      ))
      (eqb_tells count 1)

  -- digits
  pub digits_pass : (after : Pending) → is_digit (get_or bytes place 0) ≡ true → count ≡ prefix_len is_digit rest → after.mode ≡ Digits → after.start ≡ start
      → IsValueOf after.value (take count rest) → Passes start bytes place (place + count) (fresh start) after
  digits_pass after digit prefix mode begins value =
      passes_part start bytes rest place count (fresh start) after (omega (arith, inside)) is (omega (arith, prefix, prefix_len-le-length is_digit rest))
      (read_on start (take count rest) (fresh start) after Digits (digits_run (take count rest) (first_digits rest some (ap is_digit head_is ∙ digit) count prefix)) mode begins
      (λ begun none. subst (λ bs. IsValueOf after.value (bs ++ take count rest)) (sym none) value))

-- bytes of a string, up to the first quote or backslash
stays_quoted : (byte : ℕ) → is_quoted byte ≡ true → quoted_mode byte ≡ Quoted
stays_quoted byte quoted =
    let no_quote : (byte == 34) ≡ false = grind (arith, nat_tests) in
    let no_backslash : (byte == 92) ≡ false = grind (arith, nat_tests) in
    pass (byte == 34) _ _ no_quote ∙ pass (byte == 92) _ _ no_backslash

pub quoted_front : (bytes : List ℕ) → run (Some Quoted) (take (prefix_len is_quoted bytes) bytes) ≡ Some Quoted
quoted_front [] = refl
quoted_front (byte ∷ rest) =
    either (λ count. run (Some Quoted) (take count (byte ∷ rest)) ≡ Some Quoted) (is_quoted byte) (1 + prefix_len is_quoted rest) 0
    (λ quoted.
    let one : 1 + prefix_len is_quoted rest ≡ suc (prefix_len is_quoted rest) = omega arith in
    ap (λ count. run (Some Quoted) (take count (byte ∷ rest))) one
    ∙ ap (λ mode. run (Some mode) (take (prefix_len is_quoted rest) rest)) (stays_quoted byte quoted) ∙ quoted_front rest)
    (λ other. refl)

-- a unit goes on with a byte
pub goes_on : (place byte : ℕ) (before after : Pending) (next : Mode) → next_mode before.mode byte ≡ Some next → after.mode ≡ next → after.start ≡ before.start
    → ((value : ℕ) (begun : List ℕ) → IsUnfinishedUnit next value begun) → PassesAs place (byte ∷ []) before after
goes_on place byte before after next is mode begins unfinished =
    read_on place (byte ∷ []) before after next is mode begins (λ begun _. unfinished after.value (begun ++ byte ∷ []))

-- it ends with a byte
pub ends_with : (place byte : ℕ) (before : Pending) (next : Mode) → next_mode before.mode byte ≡ Some next → IsCourse next Ends → PassesAs place (byte ∷ []) before (fresh (place + 1))
ends_with place byte before next is (inl blank) seen lexemes there at =
    subst (λ n. Passed seen lexemes (byte ∷ []) (fresh (n + 1))) (sym there) (record {
      added = [];
      at = grown seen lexemes before byte (at_with seen lexemes before byte at) Blank (fresh (length seen + 1)) None (is ∙ ap Some blank) (refl, refl);
      plain = tt;
    })
ends_with place byte before next is (inr (kind, whole, plain)) seen lexemes there at =
    let token : PlacedToken = record { kind = kind; value = 0; span = record { start = before.start; end = length seen + 1 } } in
    subst (λ n. Passed seen lexemes (byte ∷ []) (fresh (n + 1))) (sym there) (record {
      added = lexeme_in (seen ++ byte ∷ []) token ∷ [];
      at = grown seen lexemes before byte (at_with seen lexemes before byte at) (Whole kind) (fresh (length seen + 1)) (Some token) (is ∙ ap Some whole)
          (refl, (token, refl, record { kind_is = refl; value_is = refl; start_is = refl; end_is = refl }));
      plain = (plain, tt);
    })

-- a byte that is a unit by itself
single_read : (seen : List ℕ) (lexemes : List (Lexeme HoaKind)) (byte : ℕ) → IsAt (With byte) seen lexemes (fresh (length seen)) → IsSingle byte → Passed seen lexemes (byte ∷ []) (fresh (length seen + 1))
single_read seen lexemes byte at (inl blank) = record {
  added = [];
  at = grown seen lexemes (fresh (length seen)) byte at Blank (fresh (length seen + 1)) None blank (refl, refl);
  plain = tt;
}
single_read seen lexemes byte at (inr (kind, whole, plain)) =
    let token : PlacedToken = record { kind = kind; value = 0; span = record { start = length seen; end = length seen + 1 } } in
    record {
      added = lexeme_in (seen ++ byte ∷ []) token ∷ [];
      at = grown seen lexemes (fresh (length seen)) byte at (Whole kind) (fresh (length seen + 1)) (Some token) whole
          (refl, (token, refl, record { kind_is = refl; value_is = refl; start_is = refl; end_is = refl }));
      plain = (plain, tt);
    }

pub single_ends : (start byte : ℕ) → IsSingle byte → PassesAs start (byte ∷ []) (fresh start) (fresh (start + 1))
single_ends start byte single seen lexemes place at =
    let here = subst (λ n. IsAt Any seen lexemes (fresh n)) place at in
    subst (λ n. Passed seen lexemes (byte ∷ []) (fresh (n + 1))) (sym place) (single_read seen lexemes byte (at_with seen lexemes (fresh (length seen)) byte here) single)

-- either answer of a test
reported : (test : Bool) → (test ≡ true) ⊎ (test ≡ false)
reported true = inl refl
reported false = inr refl

-- a byte that begins a longer unit, or none, is no unit by itself
not_single : (byte : ℕ) (mode : Option Mode) → first_mode byte ≡ mode → (mode ≡ Some Blank → ⊥) → ((kind : HoaKind) → mode ≡ Some (Whole kind) → ⊥) → IsSingle byte → ⊥
not_single byte mode is no_blank no_whole (inl blank) = no_blank (sym is ∙ blank)
not_single byte mode is no_blank no_whole (inr (kind, whole, plain)) = no_whole kind (sym is ∙ whole)

pub single_no_letter : (byte : ℕ) → IsSingle byte → is_letter byte ≡ false
single_no_letter byte single = ⊎_elim
    (λ letter. absurd (not_single byte (Some (Word (letter_kind byte))) (first_letter byte letter) (λ same. cc) (λ kind same. cc) single))
    (λ none. none)
    (reported (is_letter byte))

pub single_no_digit : (byte : ℕ) → IsSingle byte → is_digit byte ≡ false
single_no_digit byte single = ⊎_elim
    (λ digit. absurd (not_single byte (Some Digits) (first_digit byte digit) (λ same. cc) (λ kind same. cc) single))
    (λ none. none)
    (reported (is_digit byte))

pub single_no_hyphen : (byte : ℕ) → IsSingle byte → byte ≢ 45
single_no_hyphen byte single same = not_single 45 (Some Dash) refl (λ same. cc) (λ kind same. cc) (subst IsSingle same single)

single_no_colon : (byte : ℕ) → IsSingle byte → byte ≢ 58
single_no_colon byte single same = not_single 58 None refl (λ same. cc) (λ kind same. cc) (subst IsSingle same single)

pub no_word_byte : (byte : ℕ) → is_letter byte ≡ false → is_digit byte ≡ false → byte ≢ 45 → is_word_byte byte ≡ false
no_word_byte byte no_letter no_digit no_hyphen = grind (arith, nat_tests)

single_ends_word : (kind : HoaKind) (byte : ℕ) → IsSingle byte → next_mode (Word kind) byte ≡ None
single_ends_word kind byte single =
    pass (is_word_byte byte) _ _ (no_word_byte byte (single_no_letter byte single) (single_no_digit byte single) (single_no_hyphen byte single))
    ∙ pass (byte == 58) _ _ (no_test byte 58 (single_no_colon byte single))

single_ends_digits : (byte : ℕ) → IsSingle byte → next_mode Digits byte ≡ None
single_ends_digits byte single = pass (is_digit byte) _ _ (single_no_digit byte single)

-- a unit and such a byte after it
pub ended_single : (before : Pending) (byte : ℕ) → next_mode before.mode byte ≡ None
    → ((stop : ℕ) → (token : PlacedToken) × IsTokenIn before.mode before.value before.start stop token) → IsSingle byte → IsEndedBy byte before
ended_single before byte ends token single seen lexemes at =
    let settled = token (length seen) in
    let lexeme = lexeme_in (seen ++ byte ∷ []) settled.0 in
    let more = single_read seen (lexemes ++ lexeme ∷ []) byte (judged seen lexemes before byte settled.0 at ends settled.1) single in
    record {
      added = lexeme ∷ more.added;
      at = subst (λ ls. IsAt Any (seen ++ byte ∷ []) ls (fresh (length seen + 1))) (append_assoc lexemes (lexeme ∷ []) more.added) more.at;
      plain = (
        unclosed_no_mark settled.0.kind (last_unclosed before.mode before.value before.start (length seen) settled.0 at.begun at.reached settled.1),
        more.plain,
      );
    }

-- a token of a kind, value and place
abbrev pub placed : HoaKind → ℕ → ℕ → ℕ → PlacedToken
placed kind value start end = record { kind = kind; value = value; span = record { start = start; end = end } }

pub placed_there : (kind : HoaKind) (value start end : ℕ) → IsPlaced (placed kind value start end) kind value start end
placed_there kind value start end = record { kind_is = refl; value_is = refl; start_is = refl; end_is = refl }

pub word_ended : (byte : ℕ) → IsSingle byte → EndsWord byte
word_ended byte single before kind is =
    ended_single before byte (ap (λ mode. next_mode mode byte) is ∙ single_ends_word kind byte single)
    (λ stop. (
      placed kind 0 before.start stop,
      subst (λ mode. IsTokenIn mode before.value before.start stop (placed kind 0 before.start stop)) (sym is) (placed_there kind 0 before.start stop),
    ))
    single

pub digits_ended : (before : Pending) (byte : ℕ) → before.mode ≡ Digits → before.value ≤ most_number → IsSingle byte → IsEndedBy byte before
digits_ended before byte is small single =
    ended_single before byte (ap (λ mode. next_mode mode byte) is ∙ single_ends_digits byte single)
    (λ stop. (
      placed Int before.value before.start stop,
      subst (λ mode. IsTokenIn mode before.value before.start stop (placed Int before.value before.start stop)) (sym is) (small, placed_there Int before.value before.start stop),
    ))
    single

-- a word and the colon after it
pub header_ended : (byte : ℕ) → byte ≡ 58 → EndsWord byte
header_ended byte colon before kind is seen lexemes at =
    let token = placed HeaderName 0 before.start (length seen + 1) in
    record {
      added = lexeme_in (seen ++ byte ∷ []) token ∷ [];
      at = grown seen lexemes before byte (at_with seen lexemes before byte at) (Whole HeaderName) (fresh (length seen + 1)) (Some token)
          (ap (λ mode. next_mode mode byte) is ∙ ap word_mode colon)
          (refl, (token, refl, placed_there HeaderName 0 before.start (length seen + 1)));
      plain = (refl, tt);
    }

-- a quote ends a string
pub string_ended : (byte : ℕ) (before : Pending) → before.mode ≡ Quoted → byte ≡ 34 → IsEndedBy byte before
string_ended byte before is quote seen lexemes at =
    ends_with (length seen) byte before (Whole String) (ap (λ mode. next_mode mode byte) is ∙ ap (λ b. Some (quoted_mode b)) quote) (inr (String, refl, refl)) seen lexemes refl at

-- such a unit and the byte that ends it
pub ended_passes : (start : ℕ) (bytes : List ℕ) (from to : ℕ) (before between : Pending) → Passes start bytes from to before between → to < length bytes → IsEndedBy (get_or bytes to 0) between
    → Passes start bytes from (to + 1) before (fresh (start + (to + 1 - from)))
ended_passes start bytes from to before between front inside ends =
    passes_then start bytes from to (to + 1) before between (fresh (start + (to + 1 - from))) front
    (passes_byte (start + (to - from)) bytes to between (fresh (start + (to + 1 - from))) inside
    (λ seen lexemes place at.
    let last : length seen + 1 ≡ start + (to + 1 - from) = omega (arith, place, front.forward) in
    subst (λ n. Passed seen lexemes (get_or bytes to 0 ∷ []) (fresh n)) last (ends seen lexemes at)))

-- a unit is whole, with the byte after it
pub single_simple : (start : ℕ) (bytes : List ℕ) (place : ℕ) → place < length bytes → IsSingle (get_or bytes place 0) → IsSimple start bytes place (Ended (place + 1))
single_simple start bytes place inside single =
    let one : start + 1 ≡ start + (place + 1 - place) = omega arith in
    (omega arith, passes_byte start bytes place (fresh start) (fresh (start + (place + 1 - place))) inside (subst (λ n. PassesAs start (get_or bytes place 0 ∷ []) (fresh start) (fresh n)) one (single_ends start (get_or bytes place 0) single)))

pub ended_simple : (start : ℕ) (bytes : List ℕ) (place end : ℕ) (between : Pending) → Passes start bytes place end (fresh start) between → end < length bytes → IsEndedBy (get_or bytes end 0) between
    → IsSimple start bytes place (Ended (end + 1))
ended_simple start bytes place end between front inside ends = (omega (arith, front.forward), ended_passes start bytes place end (fresh start) between front inside ends)

pub word_simple : (start : ℕ) (bytes rest : List ℕ) (place count : ℕ) → place < length bytes → rest ≡ drop place bytes → is_letter (get_or bytes place 0) ≡ true → count ≡ prefix_len is_word_byte rest
    → place + count < length bytes → EndsWord (get_or bytes (place + count) 0) → IsSimple start bytes place (Ended (place + count + 1))
word_simple start bytes rest place count inside is letter prefix more ends =
    let word = word_read bytes rest place start count inside is letter prefix in
    ended_simple start bytes place (place + count) (record { mode = Word word.0; start = start; value = 0 }) word.1 more (ends (record { mode = Word word.0; start = start; value = 0 }) word.0 refl)

pub digits_simple : (start : ℕ) (bytes rest : List ℕ) (place count value : ℕ) → place < length bytes → rest ≡ drop place bytes → is_digit (get_or bytes place 0) ≡ true → count ≡ prefix_len is_digit rest
    → IsValueOf value (take count rest) → value ≤ most_number → place + count < length bytes → IsSingle (get_or bytes (place + count) 0) → IsSimple start bytes place (Ended (place + count + 1))
digits_simple start bytes rest place count value inside is digit prefix worth small more single =
    let between : Pending = record { mode = Digits; start = start; value = value } in
    ended_simple start bytes place (place + count) between (digits_pass bytes rest place start count inside is between digit prefix refl refl worth) more
    (digits_ended between (get_or bytes (place + count) 0) refl small single)

-- one digit
pub digit_simple : (start : ℕ) (bytes : List ℕ) (place : ℕ) → is_digit (get_or bytes place 0) ≡ true → place + 1 < length bytes → IsSingle (get_or bytes (place + 1) 0) → IsSimple start bytes place (Ended (place + 1 + 1))
digit_simple start bytes place digit more single =
    let byte = get_or bytes place 0 in
    let rest = drop place bytes in
    let inside : place < length bytes = omega (arith, more) in
    let size = length-drop place bytes in
    let here : place + 0 ≡ place = omega arith in
    let one : place + 1 - place ≡ 1 = omega arith in
    let front : take 1 rest ≡ byte ∷ [] = ap (λ n. take n rest) (sym one) ∙ one_part bytes place inside in
    let first : is_digit (get_or rest 0 0) ≡ true = ap is_digit (get_or-drop place bytes 0 0 ∙ ap (λ n. get_or bytes n 0) here) ∙ digit in
    let other : is_digit (get_or rest 1 0) ≡ false = ap is_digit (get_or-drop place bytes 1 0) ∙ single_no_digit (get_or bytes (place + 1) 0) single in
    let count : prefix_len is_digit rest ≡ 1 =
    prefix_len_is is_digit rest 1 0 (omega (arith, size, more)) (λ k below. let zeroth : 0 ≡ k = omega arith in subst (λ n. is_digit (get_or rest n 0) ≡ true) zeroth first) (λ _. other) in
    digits_simple start bytes rest place 1 (byte - 48) inside refl digit (sym count) (subst (IsValueOf (byte - 48)) (sym front) (one_digit byte digit)) (omega (arith, worth_small byte digit)) more single

-- a quote and what follows it
pub string_passes : (start : ℕ) (bytes rest : List ℕ) (place count : ℕ) (after : Pending) → place < length bytes → rest ≡ drop (place + 1) bytes → get_or bytes place 0 ≡ 34 → count ≡ prefix_len is_quoted rest
    → after.mode ≡ Quoted → after.start ≡ start → Passes start bytes place (place + 1 + count) (fresh start) after
string_passes start bytes rest place count after inside is quote prefix mode begins =
    passes_then start bytes place (place + 1) (place + 1 + count) (fresh start) (record { mode = Quoted; start = start; value = 0 }) after
    (passes_byte start bytes place (fresh start) (record { mode = Quoted; start = start; value = 0 }) inside
    (goes_on start (get_or bytes place 0) (fresh start) (record { mode = Quoted; start = start; value = 0 }) Quoted (ap first_mode quote) refl refl (λ value begun. tt)))
    (passes_part (start + (place + 1 - place)) bytes rest (place + 1) count (record { mode = Quoted; start = start; value = 0 }) after (omega (arith, inside)) is (omega (arith, prefix, prefix_len-le-length is_quoted rest))
    (read_on (start + (place + 1 - place)) (take count rest) (record { mode = Quoted; start = start; value = 0 }) after Quoted
    (ap (λ n. run (Some Quoted) (take n rest)) prefix ∙ quoted_front rest) mode begins (λ begun none. tt)))

pub string_simple : (start : ℕ) (bytes rest : List ℕ) (place count : ℕ) → place < length bytes → rest ≡ drop (place + 1) bytes → get_or bytes place 0 ≡ 34 → count ≡ prefix_len is_quoted rest
    → place + 1 + count < length bytes → get_or bytes (place + 1 + count) 0 ≡ 34 → IsSimple start bytes place (Ended (place + 1 + count + 1))
string_simple start bytes rest place count inside is quote prefix more ends =
    let between : Pending = record { mode = Quoted; start = start; value = 0 } in
    ended_simple start bytes place (place + 1 + count) between (string_passes start bytes rest place count between inside is quote prefix refl refl) more
    (string_ended (get_or bytes (place + 1 + count) 0) between refl ends)

-- a byte that settles neither a mark nor a fault
pub plain_passed : (seen : List ℕ) (lexemes : List (Lexeme HoaKind)) (byte : ℕ) (after : Pending) (settled : Settled) → IsPlain settled
    → IsKept settled.fault (seen ++ byte ∷ []) (lexemes ++ settled_lexemes (seen ++ byte ∷ []) settled) after → Passed seen lexemes (byte ∷ []) after
plain_passed seen lexemes byte after settled plain kept =
    let source = seen ++ byte ∷ [] in
    record {
      added = settled_lexemes source settled;
      at = subst (λ fault. IsKept fault source (lexemes ++ settled_lexemes source settled) after) plain.sound kept;
      plain = none_marks_both (lexemes_in source settled.first) (lexemes_in source settled.second) (none_mark_in source settled.first plain.first) (none_mark_in source settled.second plain.second);
    }

-- bytes that are read from the start of a unit
pub started : (start : ℕ) (bytes : List ℕ) (from to : ℕ) (pending after : Pending) → pending.mode ≡ Start → Passes start bytes from to (fresh start) after → Passes start bytes from to pending after
started start bytes from to pending after is passes = record {
  forward = passes.forward;
  within = passes.within;
  reads = λ seen lexemes place at. passes.reads seen lexemes place (subst (λ n. IsAt Any seen lexemes (fresh n)) (sym place) (fresh_same seen lexemes pending is at));
}

-- further on the way
pub way_further : (bytes : List ℕ) (from to start : ℕ) (before after : Pending) → IsOnWayFor (length bytes - from) before start → Passes start bytes from to before after
    → IsOnWayFor (length bytes - to) after (start + (to - from))
way_further bytes from to start before after way passes =
    let part = take (to - from) (drop from bytes) in
    let passed = passes.reads way.0 way.1 way.2 way.3 in
    let size = part_size bytes from to passes.forward passes.within in
    (way.0 ++ part, way.1 ++ passed.added, omega (arith, length-append way.0 part, size, way.2), passed.at, omega (arith, way.4, passes.forward, passes.within))

pub way_on : (bytes : List ℕ) (place start : ℕ) (pending : Pending) → place < length bytes → IsOnWayFor (length bytes - place) pending start → IsOnWay pending start
way_on bytes place start pending inside way = (way.0, way.1, way.2, way.3, omega (arith, way.4, inside))

-- what a tokenizer has read
pub way_read : (tokenizer : HoaTokenizer) (count : ℕ) → tokenizer.fault ≡ None → HasRoom (λ seen lexemes. HasRead seen lexemes tokenizer) count → IsOnWayFor count tokenizer.pending tokenizer.place
way_read tokenizer count sound room =
    (room.0, room.1, room.2.place, subst (λ fault. IsKept fault room.0 room.1 tokenizer.pending) sound room.2.kept, omega (arith, room.2.place, room.3))

pub has_passed : (bytes : List ℕ) (from to : ℕ) (before after : HoaTokenizer) → Passes before.place bytes from to before.pending after.pending → before.fault ≡ None → after.fault ≡ None
    → after.place ≡ before.place + (to - from) → (seen : List ℕ) (lexemes : List (Lexeme HoaKind)) → HasRead seen lexemes before → HasPassed (λ read settled. HasRead read settled after) seen lexemes (take (to - from) (drop from bytes))
has_passed bytes from to before after passes sound sound_after place seen lexemes read =
    let part = take (to - from) (drop from bytes) in
    let passed = passes.reads seen lexemes read.place (subst (λ fault. IsKept fault seen lexemes before.pending) sound read.kept) in
    let size = part_size bytes from to passes.forward passes.within in
    record {
      passed = passed.added;
      read = record {
        place = omega (arith, place, read.place, length-append seen part, size);
        kept = subst (λ fault. IsKept fault (seen ++ part) (lexemes ++ passed.added) after.pending) (sym sound_after) passed.at;
      };
      plain = passed.plain;
    }

-- nothing more was read
pub has_passed_none : (bytes : List ℕ) (from : ℕ) (tokenizer : HoaTokenizer) (seen : List ℕ) (lexemes : List (Lexeme HoaKind)) → HasRead seen lexemes tokenizer
    → HasPassed (λ read settled. HasRead read settled tokenizer) seen lexemes (take (from - from) (drop from bytes))
has_passed_none bytes from tokenizer seen lexemes read =
    let none : from - from ≡ 0 = omega arith in
    subst (λ n. HasPassed (λ read settled. HasRead read settled tokenizer) seen lexemes (take n (drop from bytes))) (sym none) (record {
      passed = [];
      read = subst (λ ls. HasRead (seen ++ []) ls tokenizer) (sym (append-nil lexemes)) (subst (λ bs. HasRead bs lexemes tokenizer) (sym (append-nil seen)) read);
      plain = tt;
    })

-- a byte that settles a mark or a fault is one before which reading at once stops
pub settling_stops : (seen : List ℕ) (lexemes : List (Lexeme HoaKind)) (byte : ℕ) (after : Pending) (settled : Settled) → (IsPlain settled → ⊥)
    → IsKept settled.fault (seen ++ byte ∷ []) (lexemes ++ settled_lexemes (seen ++ byte ∷ []) settled) after → StopsBefore seen lexemes byte
settling_stops seen lexemes byte after settled unplain kept =
    (settled, kept_settled settled.fault (seen ++ byte ∷ []) (lexemes ++ settled_lexemes (seen ++ byte ∷ []) settled) after kept, unplain)

no_fault : (fault : TextFault) → ◌≡◌ {A = Option TextFault} (Some fault) None → ⊥
no_fault fault is = cc

-- so is any byte after a fault
pub fault_stops : (seen : List ℕ) (lexemes : List (Lexeme HoaKind)) (byte : ℕ) (fault : TextFault) → SettlesFault seen lexemes fault → StopsBefore seen lexemes byte
fault_stops seen lexemes byte fault settles = (
  record { first = None; second = None; fault = Some fault },
  subst (λ ls. SettlesFault (seen ++ byte ∷ []) ls fault) (sym (append-nil lexemes)) (fault_stays seen lexemes byte fault settles),
  λ plain. no_fault fault plain.sound,
)

-- what no test shows does not hold
pub untold : {P : Type 0} (test : Bool) → (test ≡ true) ↔ P → test ≡ false → P → ⊥
untold test tells none holds =
    let clash : true ≡ false = sym (tells.1 holds) ∙ none in cc
