-- What is settled, byte by byte.
use Rattle.std.proofs.Common.{◌≡◌, ◌≢◌, ℕ, ◌+◌, ◌-◌, ◌<◌, ◌≤◌, Option, Some, None, List, [], ◌∷◌, ◌++◌, length, take, drop, refl, sym, ap, ◌∙◌, subst, arith, append_assoc, append-nil, length-append, length-drop, get_or, true}
use Rattle.std.specs.List.{AllPass}
use Rattle.omega_text.specs.Bytes.{is_digit}
use Rattle.std.proofs.lemmas.List.{get_or-append_right, get_or_append_left, drop-append-le, drop-drop, drop_all, drop_at, take_at}
use Rattle.omega_text.specs.Cut.{Cuts, IsCut}
use Rattle.omega_text.specs.Lexeme.{Lexeme}
use Rattle.omega_text.specs.declared.hoa.kind.HoaKind.{HoaKind}
use Rattle.omega_text.specs.declared.hoa.kind.HoaKind.TheVariants.{AliasName, Int}
use Rattle.omega_text.specs.declared.hoa.mode.Mode.{Mode}
use Rattle.omega_text.specs.declared.hoa.mode.Mode.TheVariants.{Start, Word, Alias, Digits, Whole, Blank}
use Rattle.omega_text.specs.declared.hoa.pending.Pending.{Pending}
use Rattle.omega_text.specs.declared.hoa.placed.PlacedToken.{PlacedToken}
use Rattle.omega_text.specs.declared.hoa.placed.Settled.{Settled}
use Rattle.omega_text.specs.declared.refusal.text.TextFault.{TextFault}
use Rattle.omega_text.specs.declared.refusal.text.TextFault.TheVariants.{Lex, Number}
use Rattle.omega_text.specs.hoa.Cut.{Follows, IsGap, IsLongest}
use Rattle.omega_text.specs.hoa.Cut.IsGap.{nothing}
use Rattle.omega_text.specs.hoa.Fault.{HasFaultFrom, IsFaultOf}
use Rattle.omega_text.specs.hoa.Format.{hoa_format}
use Rattle.omega_text.specs.hoa.Forms.{Spells}
use Rattle.omega_text.specs.private.hoa.scanning.Modes.{IsStuck, IsWithin, next_mode, run, unit_of}
use Rattle.omega_text.specs.hoa.Pieces.{FaultsAfter, IsSettled, SettlesFault, lexeme_in, lexemes_in, settled_lexemes}
use Rattle.omega_text.specs.private.hoa.scanning.Reading.{Any, IsAt, IsKept, IsUnfinishedUnit, With, IsValueOf}
use Rattle.omega_text.specs.private.hoa.scanning.Unfinished.{Continues, IsFaultIn, IsGrown, IsPlaced, IsTokenIn, ValueGrows, fresh}
use Rattle.omega_text.specs.Forms.{IsDigits}
use Rattle.omega_text.proofs.formats.Cutting.{cuts_more}
use Rattle.omega_text.proofs.hoa_texts.Completion.{begun_goes_on}
use Rattle.omega_text.proofs.hoa_texts.Gaps.{gap_more}
use Rattle.omega_text.proofs.hoa_texts.Longest.{stuck_longest, stuck_no_unit}
use Rattle.omega_text.proofs.hoa_texts.Read.{unit_read}
use Rattle.omega_text.proofs.hoa_texts.Runs.{answer, run_append}
use Rattle.omega_text.proofs.hoa_texts.Units.{plain_unit, whole_stuck}
use Rattle.omega_text.proofs.hoa_texts.Within.{no_start, run_within, wider}
use Rattle.omega_text.proofs.hoa_texts.Written.{digits_run}

-- lists apart
module _ (source gap text : List ℕ) (end start : ℕ) (split : drop end source ≡ gap ++ text) (within : end ≤ length source) (start_is : start ≡ end + length gap) where
  -- how long the parts are
  pub parts : length source ≡ start + length text
  parts = let size = length-drop end source in let all = ap length split in omega (arith, length-append gap text)

  -- what follows the gap
  pub after_gap : drop start source ≡ text
  after_gap = ap (λ n. drop n source) start_is ∙ sym (drop-drop (length gap) end source) ∙ ap (drop (length gap)) split ∙ drop_at gap text (length gap) refl

  -- with more after it
  pub split_more : (rest : List ℕ) → drop end (source ++ rest) ≡ gap ++ (text ++ rest)
  split_more rest = drop-append-le end source rest within ∙ ap (λ bytes. bytes ++ rest) split ∙ append_assoc gap text rest

-- the bytes of a placed token
placed_text : (source before text following : List ℕ) (token : PlacedToken) (kind : HoaKind) (value start stop : ℕ) → IsPlaced token kind value start stop
    → drop start source ≡ text ++ following → stop ≡ start + length text → (lexeme_in source token).text ≡ text
placed_text source before text following token kind value start stop placed is size =
    let long : token.span.end - token.span.start ≡ length text = omega (arith, placed.start_is, placed.end_is) in
    ap (λ n. take (token.span.end - token.span.start) (drop n source)) placed.start_is
    ∙ ap (take (token.span.end - token.span.start)) is ∙ take_at text following (token.span.end - token.span.start) (sym long)

-- a placed token after a gap follows
placed_follows : (source seen gap text rest following : List ℕ) (end : ℕ) (token : PlacedToken) (kind : HoaKind) (value start stop : ℕ) → IsPlaced token kind value start stop
    → drop end source ≡ gap ++ (text ++ rest) → IsGap gap → drop start seen ≡ text ++ following → start ≡ end + length gap → stop ≡ start + length text
    → Spells kind value text → IsLongest text rest → Follows source end (lexeme_in seen token)
placed_follows source seen gap text rest following end token kind value start stop placed split passed is begins size spells longest =
    let text_is = placed_text seen gap text following token kind value start stop placed is size in
    record {
      gap = gap;
      rest = rest;
      split = split ∙ ap (λ bytes. gap ++ (bytes ++ rest)) (sym text_is);
      passed = passed;
      spells = subst (λ k. Spells k token.value (lexeme_in seen token).text) (sym placed.kind_is)
          (subst (λ v. Spells kind v (lexeme_in seen token).text) (sym placed.value_is) (subst (Spells kind value) (sym text_is) spells));
      longest = subst (λ bytes. IsLongest bytes rest) (sym text_is) longest;
      start = placed.start_is ∙ begins;
      end = let long = ap length text_is in omega (arith, placed.start_is, placed.end_is);
    }

-- a unit that is no digits, by the mode that was reached
not_digits : (text : List ℕ) (mode : Mode) → run (Some Start) text ≡ Some mode → Some mode ≢ Some Digits → IsDigits text → ⊥
not_digits text mode reached other digits = other (sym reached ∙ digits_run text digits)

-- the token that a unit is, at its end
judged_spells : (mode : Mode) (value start stop : ℕ) (token : PlacedToken) (begun : List ℕ) → run (Some Start) begun ≡ Some mode → IsUnfinishedUnit mode value begun
    → IsTokenIn mode value start stop token → (kind : HoaKind) × (worth : ℕ) × IsPlaced token kind worth start stop × Spells kind worth begun
judged_spells (Word kind) value start stop token begun reached unfinished is =
    (kind, 0, is, plain_unit (Some kind) begun (unit_read begun (Some kind) (ap answer reached)) (not_digits begun (Word kind) reached (λ same. cc)))
judged_spells Alias value start stop token begun reached unfinished is =
    (AliasName, 0, is, plain_unit (Some AliasName) begun (unit_read begun (Some AliasName) (ap answer reached)) (not_digits begun Alias reached (λ same. cc)))
judged_spells Digits value start stop token begun reached unfinished is = (Int, value, is.1, unfinished.number is.0)
judged_spells mode value start stop token begun reached unfinished is = absurd is

-- the fault of a unit, at its end
no_unit_fault : (mode : Mode) (start : ℕ) (fault : TextFault) (begun rest : List ℕ) → run (Some Start) begun ≡ Some mode → IsStuck mode rest → 0 < length (begun ++ rest)
    → unit_of mode ≡ None → fault ≡ Lex start → IsFaultOf (begun ++ rest) start fault
no_unit_fault mode start fault begun rest reached stuck some unread is =
    let there : IsFaultOf (begun ++ rest) start (Lex start) = (refl, stuck_no_unit begun rest mode reached stuck some unread) in
    subst (IsFaultOf (begun ++ rest) start) (sym is) there

judged_fault : (mode : Mode) (value start : ℕ) (fault : TextFault) (begun rest : List ℕ) → run (Some Start) begun ≡ Some mode → IsUnfinishedUnit mode value begun
    → IsStuck mode rest → 0 < length (begun ++ rest) → IsFaultIn mode value start fault → IsFaultOf (begun ++ rest) start fault
judged_fault (Word kind) value start fault begun rest reached unfinished stuck some is = absurd is
judged_fault Alias value start fault begun rest reached unfinished stuck some is = absurd is
judged_fault (Whole kind) value start fault begun rest reached unfinished stuck some is = absurd unfinished
judged_fault Blank value start fault begun rest reached unfinished stuck some is = absurd unfinished
judged_fault Digits value start fault begun rest reached unfinished stuck some is =
    let there : IsFaultOf (begun ++ rest) start (Number start) = (
      refl,
      record {
        text = begun;
        rest = rest;
        split = refl;
        longest = stuck_longest begun rest Digits reached stuck;
        digits = unit_read begun (Some Int) (ap answer reached);
        wrong = unfinished.none is.1;
      },
    ) in
    subst (IsFaultOf (begun ++ rest) start) (sym is.0) there
judged_fault mode value start fault begun rest reached unfinished stuck some is = no_unit_fault mode start fault begun rest reached stuck some refl is

-- however a text goes on with a byte, it does so after that byte
one_byte_more : (seen : List ℕ) (byte : ℕ) (rest : List ℕ) → (seen ++ byte ∷ []) ++ rest ≡ seen ++ (byte ∷ rest)
one_byte_more seen byte rest = append_assoc seen (byte ∷ []) rest

-- a byte more
module _ (seen : List ℕ) (lexemes : List (Lexeme HoaKind)) (before : Pending) (byte : ℕ) (at : IsAt (With byte) seen lexemes before) where
  -- the cuts stay
  cuts_stay : (rest : List ℕ) → Cuts hoa_format ((seen ++ byte ∷ []) ++ rest) 0 lexemes at.end
  cuts_stay rest = subst (λ source. Cuts hoa_format source 0 lexemes at.end) (sym (one_byte_more seen byte rest)) (at.cuts (byte ∷ rest) (rest, refl))

  -- the unit that is being read gets longer
  split_longer : drop at.end (seen ++ byte ∷ []) ≡ at.gap ++ (at.begun ++ byte ∷ [])
  split_longer = split_more seen at.gap at.begun at.end before.start at.split at.within at.start (byte ∷ [])

  within_longer : at.end ≤ length (seen ++ byte ∷ [])
  within_longer = let within = at.within in omega (arith, length-append seen (byte ∷ []))

  longer_size : length (seen ++ byte ∷ []) ≡ length seen + 1
  longer_size = length-append seen (byte ∷ [])

  reached_next : (next : Mode) → next_mode before.mode byte ≡ Some next → run (Some Start) (at.begun ++ byte ∷ []) ≡ Some next
  reached_next next is = run_append (Some Start) at.begun (byte ∷ []) ∙ ap (λ state. run state (byte ∷ [])) at.reached ∙ is

  -- it is read further
  continued : (next : Mode) (after : Pending) (token : Option PlacedToken) → next_mode before.mode byte ≡ Some next → Continues before next after token
      → IsUnfinishedUnit next after.value (at.begun ++ byte ∷ []) → IsAt Any (seen ++ byte ∷ []) (lexemes ++ lexemes_in (seen ++ byte ∷ []) token) after
  continued next after token is continues unfinished =
      subst (λ t. IsAt Any (seen ++ byte ∷ []) (lexemes ++ lexemes_in (seen ++ byte ∷ []) t) after) (sym continues.none)
      (subst (λ ls. IsAt Any (seen ++ byte ∷ []) ls after) (sym (append-nil lexemes)) (record {
        end = at.end;
        gap = at.gap;
        begun = at.begun ++ byte ∷ [];
        cuts = λ rest _. cuts_stay rest;
        split = split_longer;
        within = within_longer;
        passed = at.passed;
        start = continues.start ∙ at.start;
        reached = reached_next next is ∙ ap Some (sym continues.mode);
        unfinished = subst (λ mode. IsUnfinishedUnit mode after.value (at.begun ++ byte ∷ [])) (sym continues.mode) unfinished;
      }))

  -- it is a whole part of the gap
  blank_whole : next_mode before.mode byte ≡ Some Blank → IsAt Any (seen ++ byte ∷ []) lexemes (fresh (length seen + 1))
  blank_whole is =
      let text = at.begun ++ byte ∷ [] in
      let all = parts (seen ++ byte ∷ []) at.gap text at.end before.start split_longer within_longer at.start in
      record {
        end = at.end;
        gap = at.gap ++ text;
        begun = [];
        cuts = λ rest _. cuts_stay rest;
        split = split_longer ∙ sym (append-nil (at.gap ++ text));
        within = within_longer;
        passed = gap_more at.gap text at.passed (unit_read text None (ap answer (reached_next Blank is)));
        start = let begins = at.start in omega (arith, longer_size, length-append at.gap text);
        reached = refl;
        unfinished = refl;
      }

  -- it is a whole token
  token_whole : (kind : HoaKind) (token : PlacedToken) → next_mode before.mode byte ≡ Some (Whole kind) → IsPlaced token kind 0 before.start (length seen + 1)
      → IsAt Any (seen ++ byte ∷ []) (lexemes ++ lexeme_in (seen ++ byte ∷ []) token ∷ []) (fresh (length seen + 1))
  token_whole kind token is placed =
      let text = at.begun ++ byte ∷ [] in
      let source = seen ++ byte ∷ [] in
      let all = parts source at.gap text at.end before.start split_longer within_longer at.start in
      let reached = reached_next (Whole kind) is in
      let size = longer_size in
      let spells = plain_unit (Some kind) text (unit_read text (Some kind) (ap answer reached)) (not_digits text (Whole kind) reached (λ same. cc)) in
      let follows : (rest : List ℕ) → Follows (source ++ rest) at.end (lexeme_in source token) = λ rest.
      placed_follows (source ++ rest) source at.gap text rest [] at.end token kind 0 before.start (length seen + 1) placed
      (split_more source at.gap text at.end before.start split_longer within_longer at.start rest) at.passed
      (after_gap source at.gap text at.end before.start split_longer within_longer at.start ∙ sym (append-nil text)) at.start (omega arith)
      spells (stuck_longest text rest (Whole kind) reached (whole_stuck kind rest)) in
      record {
        end = length seen + 1;
        gap = [];
        begun = [];
        cuts = λ rest _. subst (Cuts hoa_format (source ++ rest) 0 (lexemes ++ lexeme_in source token ∷ [])) placed.end_is
            (cuts_more hoa_format (source ++ rest) 0 at.end lexemes (lexeme_in source token) (cuts_stay rest) (follows rest));
        split = drop_all (length seen + 1) source (omega arith);
        within = omega arith;
        passed = nothing;
        start = omega arith;
        reached = refl;
        unfinished = refl;
      }

  -- digits with one digit more
  digits_more : (after : Pending) (token : Option PlacedToken) → next_mode before.mode byte ≡ Some Digits → ValueGrows before byte (length seen + 1) after.value → IsValueOf after.value (at.begun ++ byte ∷ [])
  digits_more after token is grows = by_begun at.begun refl
    where
      whole_digits : IsDigits (at.begun ++ byte ∷ [])
      whole_digits = unit_read (at.begun ++ byte ∷ []) (Some Int) (ap answer (reached_next Digits is))

      byte_digit : is_digit byte ≡ true
      byte_digit =
          let none : length at.begun - length at.begun ≡ 0 = omega arith in
          let last = get_or-append_right at.begun (byte ∷ []) (length at.begun) (length at.begun) 0 refl (omega arith) ∙ ap (λ n. get_or (byte ∷ []) n 0) none in
          sym (ap is_digit last) ∙ whole_digits.1 (length at.begun) 0 (omega (arith, length-append at.begun (byte ∷ [])))

      by_begun : (begun : List ℕ) → begun ≡ at.begun → IsValueOf after.value (at.begun ++ byte ∷ [])
      by_begun [] same =
          let size = ap length same in
          let all = parts seen at.gap at.begun at.end before.start at.split at.within at.start in
          subst (λ bytes. IsValueOf after.value (bytes ++ byte ∷ [])) same (grows.first (omega arith) byte_digit)
      by_begun (first ∷ begun) same =
          let size = ap length same in
          let all = parts seen at.gap at.begun at.end before.start at.split at.within at.start in
          let digits : IsDigits at.begun = (omega arith, front_all) in
          let mode : before.mode ≡ Digits = let reached = at.reached in let other = digits_run at.begun digits in cc in
          let value = subst (λ m. IsUnfinishedUnit m before.value at.begun) mode at.unfinished in
          grows.later (λ one. omega arith) at.begun digits byte_digit value
        where
          front_all : AllPass is_digit at.begun
          front_all k d inside = sym (ap is_digit (get_or_append_left at.begun (byte ∷ []) d k inside)) ∙ whole_digits.1 k d (omega (arith, length-append at.begun (byte ∷ [])))

-- a unit with one byte more
pub grown : (seen : List ℕ) (lexemes : List (Lexeme HoaKind)) (before : Pending) (byte : ℕ) → IsAt (With byte) seen lexemes before
    → (next : Mode) (after : Pending) (token : Option PlacedToken) → next_mode before.mode byte ≡ Some next → IsGrown before byte (length seen + 1) next after token
    → IsAt Any (seen ++ byte ∷ []) (lexemes ++ lexemes_in (seen ++ byte ∷ []) token) after
grown seen lexemes before byte at (Whole kind) after token is (same, (placed, found, there)) =
    subst (IsAt Any (seen ++ byte ∷ []) (lexemes ++ lexemes_in (seen ++ byte ∷ []) token)) (sym same)
    (subst (λ t. IsAt Any (seen ++ byte ∷ []) (lexemes ++ lexemes_in (seen ++ byte ∷ []) t) (fresh (length seen + 1))) (sym found)
    (token_whole seen lexemes before byte at kind placed is there))
grown seen lexemes before byte at Blank after token is (same, none) =
    subst (IsAt Any (seen ++ byte ∷ []) (lexemes ++ lexemes_in (seen ++ byte ∷ []) token)) (sym same)
    (subst (λ t. IsAt Any (seen ++ byte ∷ []) (lexemes ++ lexemes_in (seen ++ byte ∷ []) t) (fresh (length seen + 1))) (sym none)
    (subst (λ ls. IsAt Any (seen ++ byte ∷ []) ls (fresh (length seen + 1))) (sym (append-nil lexemes)) (blank_whole seen lexemes before byte at is)))
grown seen lexemes before byte at Digits after token is (continues, grows) =
    continued seen lexemes before byte at Digits after token is continues (digits_more seen lexemes before byte at after token is grows)
grown seen lexemes before byte at Start after token is continues = absurd (no_start before.mode byte is)
grown seen lexemes before byte at next after token is continues = continued seen lexemes before byte at next after token is continues tt

-- what holds however a text goes on holds if it goes on with a byte
abbrev pub at_with : (seen : List ℕ) (lexemes : List (Lexeme HoaKind)) (pending : Pending) (byte : ℕ) → IsAt Any seen lexemes pending → IsAt (With byte) seen lexemes pending
at_with seen lexemes pending byte at = record {
  end = at.end;
  gap = at.gap;
  begun = at.begun;
  cuts = λ rest _. at.cuts rest tt;
  split = at.split;
  within = at.within;
  passed = at.passed;
  start = at.start;
  reached = at.reached;
  unfinished = at.unfinished;
}

-- a mode that a byte ends is stuck before it
stuck_with : (mode : Mode) (byte : ℕ) (rest : List ℕ) → next_mode mode byte ≡ None → With byte rest → IsStuck mode rest
stuck_with mode byte rest ends (following, is) = subst (IsStuck mode) (sym is) ends

-- a token that is settled by the byte after it
pub judged : (seen : List ℕ) (lexemes : List (Lexeme HoaKind)) (before : Pending) (byte : ℕ) (token : PlacedToken) → IsAt Any seen lexemes before → next_mode before.mode byte ≡ None
    → IsTokenIn before.mode before.value before.start (length seen) token
    → IsAt (With byte) seen (lexemes ++ lexeme_in (seen ++ byte ∷ []) token ∷ []) (fresh (length seen))
judged seen lexemes before byte token at ends is =
    let source = seen ++ byte ∷ [] in
    let found = judged_spells before.mode before.value before.start (length seen) token at.begun at.reached at.unfinished is in
    let all = parts seen at.gap at.begun at.end before.start at.split at.within at.start in
    let here = at_with seen lexemes before byte at in
    let following = after_gap source at.gap (at.begun ++ byte ∷ []) at.end before.start (split_longer seen lexemes before byte here) (within_longer seen lexemes before byte here) at.start in
    let follows : (rest : List ℕ) → With byte rest → Follows (seen ++ rest) at.end (lexeme_in source token) = λ rest with.
    placed_follows (seen ++ rest) source at.gap at.begun rest (byte ∷ []) at.end token found.0 found.1 before.start (length seen) found.2
    (split_more seen at.gap at.begun at.end before.start at.split at.within at.start rest) at.passed following at.start all
    found.3 (stuck_longest at.begun rest before.mode at.reached (stuck_with before.mode byte rest ends with)) in
    record {
      end = length seen;
      gap = [];
      begun = [];
      cuts = λ rest with. subst (Cuts hoa_format (seen ++ rest) 0 (lexemes ++ lexeme_in source token ∷ [])) found.2.end_is
          (cuts_more hoa_format (seen ++ rest) 0 at.end lexemes (lexeme_in source token) (at.cuts rest tt) (follows rest with));
      split = drop_all (length seen) seen (omega arith);
      within = omega arith;
      passed = nothing;
      start = omega arith;
      reached = refl;
      unfinished = refl;
    }

-- a fault that is settled by a byte
pub faulty : (seen : List ℕ) (lexemes : List (Lexeme HoaKind)) (before : Pending) (byte : ℕ) (fault : TextFault) → IsAt (With byte) seen lexemes before → next_mode before.mode byte ≡ None
    → IsFaultIn before.mode before.value before.start fault → SettlesFault (seen ++ byte ∷ []) lexemes fault
faulty seen lexemes before byte fault at ends is = record {
  end = at.end;
  cuts = cuts_stay seen lexemes before byte at;
  faults = λ rest. record {
    gap = at.gap;
    bytes = at.begun ++ byte ∷ rest;
    split = ap (drop at.end) (one_byte_more seen byte rest) ∙ split_more seen at.gap at.begun at.end before.start at.split at.within at.start (byte ∷ rest);
    passed = at.passed;
    fault_there = subst (λ n. IsFaultOf (at.begun ++ byte ∷ rest) n fault) at.start
        (judged_fault before.mode before.value before.start fault at.begun (byte ∷ rest) at.reached at.unfinished ends (omega (arith, length-append at.begun (byte ∷ rest))) is);
  };
}

-- a fault stays
pub fault_stays : (seen : List ℕ) (lexemes : List (Lexeme HoaKind)) (byte : ℕ) (fault : TextFault) → SettlesFault seen lexemes fault → SettlesFault (seen ++ byte ∷ []) lexemes fault
fault_stays seen lexemes byte fault settled = record {
  end = settled.end;
  cuts = λ rest. subst (λ source. Cuts hoa_format source 0 lexemes settled.end) (sym (one_byte_more seen byte rest)) (settled.cuts (byte ∷ rest));
  faults = λ rest. subst (λ source. HasFaultFrom source settled.end fault) (sym (one_byte_more seen byte rest)) (settled.faults (byte ∷ rest));
}

-- what is kept is settled
pub kept_settled : (fault : Option TextFault) (seen : List ℕ) (lexemes : List (Lexeme HoaKind)) (pending : Pending) → IsKept fault seen lexemes pending → IsSettled fault seen lexemes
kept_settled None seen lexemes pending at = record {
  end = at.end;
  gap = at.gap;
  pending = at.begun;
  cuts = λ rest. at.cuts rest tt;
  split = at.split;
  passed = at.passed;
  goes_on = begun_goes_on at.begun pending.mode pending.value at.reached at.unfinished;
}
kept_settled (Some fault) seen lexemes pending settled = settled

-- what is settled, by its parts
pub settled_as : (P : Option TextFault → List (Lexeme HoaKind) → Type 0) (source : List ℕ) (lexemes : List (Lexeme HoaKind)) (settled : Settled) (first second : Option PlacedToken) (fault : Option TextFault)
    → settled.first ≡ first → settled.second ≡ second → settled.fault ≡ fault
    → P fault (lexemes ++ (lexemes_in source first ++ lexemes_in source second)) → P settled.fault (lexemes ++ settled_lexemes source settled)
settled_as P source lexemes settled first second fault first_is second_is fault_is holds =
    subst (λ f. P f (lexemes ++ settled_lexemes source settled)) (sym fault_is)
    (subst (λ t. P fault (lexemes ++ (lexemes_in source t ++ lexemes_in source settled.second))) (sym first_is)
    (subst (λ t. P fault (lexemes ++ (lexemes_in source first ++ lexemes_in source t))) (sym second_is) holds))

-- at the end of a text, its cut and its fault
module _ (seen : List ℕ) (lexemes : List (Lexeme HoaKind)) (pending : Pending) (at : IsAt Any seen lexemes pending) where
  cuts_here : Cuts hoa_format seen 0 lexemes at.end
  cuts_here = subst (λ source. Cuts hoa_format source 0 lexemes at.end) (append-nil seen) (at.cuts [] tt)

  pub ends_in_gap : pending.mode ≡ Start → IsCut hoa_format seen lexemes
  ends_in_gap start =
      let none = subst (λ mode. IsUnfinishedUnit mode pending.value at.begun) start at.unfinished in
      record { end = at.end; cuts = cuts_here; rest = record { passed = subst IsGap (sym (at.split ∙ ap (λ bytes. at.gap ++ bytes) none ∙ append-nil at.gap)) at.passed; within = at.within } }

  pub ends_in_token : (token : PlacedToken) → IsTokenIn pending.mode pending.value pending.start (length seen) token → IsCut hoa_format seen (lexemes ++ lexeme_in seen token ∷ [])
  ends_in_token token is =
      let found = judged_spells pending.mode pending.value pending.start (length seen) token at.begun at.reached at.unfinished is in
      let all = parts seen at.gap at.begun at.end pending.start at.split at.within at.start in
      let following = after_gap seen at.gap at.begun at.end pending.start at.split at.within at.start in
      let follows : Follows seen at.end (lexeme_in seen token) =
      placed_follows seen seen at.gap at.begun [] [] at.end token found.0 found.1 pending.start (length seen) found.2
      (at.split ∙ ap (λ bytes. at.gap ++ bytes) (sym (append-nil at.begun))) at.passed (following ∙ sym (append-nil at.begun)) at.start all
      found.3 (stuck_longest at.begun [] pending.mode at.reached tt) in
      record {
        end = length seen;
        cuts = subst (Cuts hoa_format seen 0 (lexemes ++ lexeme_in seen token ∷ [])) found.2.end_is (cuts_more hoa_format seen 0 at.end lexemes (lexeme_in seen token) cuts_here follows);
        rest = record { passed = subst IsGap (sym (drop_all (length seen) seen (omega arith))) nothing; within = omega arith };
      }

  pub ends_in_fault : (fault : TextFault) → pending.mode ≢ Start → IsFaultIn pending.mode pending.value pending.start fault → FaultsAfter seen lexemes fault
  ends_in_fault fault begun is = record {
    end = at.end;
    cuts = cuts_here;
    faults = record {
      gap = at.gap;
      bytes = at.begun ++ [];
      split = at.split ∙ ap (λ bytes. at.gap ++ bytes) (sym (append-nil at.begun));
      passed = at.passed;
      fault_there = subst (λ n. IsFaultOf (at.begun ++ []) n fault) at.start
          (judged_fault pending.mode pending.value pending.start fault at.begun [] at.reached at.unfinished tt (some at.begun refl) is);
    };
  }
    where
      some : (bytes : List ℕ) → bytes ≡ at.begun → 0 < length (at.begun ++ [])
      some [] none = absurd (begun (let reached = ap (run (Some Start)) none ∙ at.reached in cc))
      some (byte ∷ bytes) same = omega (arith, ap length same, length-append at.begun [])

pub ends_in_settled_fault : (seen : List ℕ) (lexemes : List (Lexeme HoaKind)) (fault : TextFault) → SettlesFault seen lexemes fault → FaultsAfter seen lexemes fault
ends_in_settled_fault seen lexemes fault settled = record {
  end = settled.end;
  cuts = subst (λ source. Cuts hoa_format source 0 lexemes settled.end) (append-nil seen) (settled.cuts []);
  faults = subst (λ source. HasFaultFrom source settled.end fault) (append-nil seen) (settled.faults []);
}

-- before the first byte
pub nothing_read : IsAt Any [] [] (fresh 0)
nothing_read = record { end = 0; gap = []; begun = []; cuts = λ rest _. refl; split = refl; within = omega arith; passed = nothing; start = refl; reached = refl; unfinished = refl }

-- what is counted in a mode can be counted further
pub mode_within : (seen : List ℕ) (lexemes : List (Lexeme HoaKind)) (pending : Pending) (most : ℕ) → IsAt Any seen lexemes pending → length seen ≤ most → IsWithin most pending.mode
mode_within seen lexemes pending most at small =
    let all = parts seen at.gap at.begun at.end pending.start at.split at.within at.start in
    wider (length at.begun) most pending.mode (omega arith) (run_within at.begun pending.mode at.reached)
