-- Gaps, and what follows them.
use Rattle.std.proofs.Common.{◌≡◌, ℕ, ◌+◌, ◌<◌, ◌≤◌, true, inl, Some, None, List, [], ◌∷◌, ◌++◌, length, get_or, take, drop, refl, sym, ap, ◌∙◌, subst, arith, add-zero, append_assoc, append-nil, length-append, length-drop, length-take-le}
use Rattle.std.proofs.lemmas.List.{drop-drop, drop_all, get_or-drop, take-append-drop, take_more}
use Rattle.omega_text.specs.Bytes.{is_white}
use Rattle.omega_text.specs.Lexeme.{lexeme_at}
use Rattle.omega_text.specs.declared.hoa.kind.HoaKind.{HoaKind}
use Rattle.omega_text.specs.declared.refusal.text.TextFault.{TextFault}
use Rattle.omega_text.specs.hoa.Cut.{Ends, Follows, IsGap}
use Rattle.omega_text.specs.private.hoa.Gaps.{IsGapTo}
use Rattle.omega_text.specs.hoa.Cut.IsGap.{blank, nothing}
use Rattle.omega_text.specs.hoa.Fault.{HasFaultFrom, IsFaultOf}
use Rattle.omega_text.specs.hoa.Forms.{IsBlank}
use Rattle.omega_text.specs.private.hoa.scanning.Modes.{IsFirstUnit}

-- a gap with one part more
pub gap_more : (gap text : List ℕ) → IsGap gap → IsBlank text → IsGap (gap ++ text)
gap_more _ text nothing is = subst IsGap (append-nil text) (blank text [] is nothing)
gap_more _ text (blank part gap first rest) is = subst IsGap (sym (append_assoc part gap text)) (blank part (gap ++ text) first (gap_more gap text rest is))

-- after a gap
module _ (source gap : List ℕ) (at start : ℕ) (split : drop at source ≡ gap ++ drop start source) (passed : IsGap gap) (place : start ≡ at + length gap) where
  -- the first unit is a token
  pub unit_follows : (kind : HoaKind) (value count : ℕ) → IsFirstUnit (drop start source) (Some kind) value count → Follows source at (lexeme_at start kind value (take count (drop start source)))
  unit_follows kind value count unit = record {
    gap = gap;
    rest = drop count (drop start source);
    split = split ∙ ap (λ bytes. gap ++ bytes) (sym (take-append-drop count (drop start source)));
    passed = passed;
    spells = unit.spells;
    longest = unit.longest;
    start = place;
    end = refl;
  }

  -- the first unit is a part of the gap
  pub blank_passed : (value count : ℕ) → IsFirstUnit (drop start source) None value count → IsGap (gap ++ take count (drop start source))
  blank_passed value count unit = gap_more gap (take count (drop start source)) passed unit.spells

  pub blank_split : (count : ℕ) → drop at source ≡ (gap ++ take count (drop start source)) ++ drop (start + count) source
  blank_split count =
      split ∙ ap (λ bytes. gap ++ bytes) (sym (take-append-drop count (drop start source)) ∙ ap (λ bytes. take count (drop start source) ++ bytes) (drop-drop count start source))
      ∙ sym (append_assoc gap (take count (drop start source)) (drop (start + count) source))

  pub blank_place : (count : ℕ) → count ≤ length (drop start source) → start + count ≡ at + length (gap ++ take count (drop start source))
  blank_place count within = omega (arith, length-append gap (take count (drop start source)), length-take-le count (drop start source) within)

  -- nothing more follows
  pub gap_ends : at ≤ length source → length source ≤ start → Ends source at
  gap_ends within past = record { passed = subst IsGap (sym (split ∙ ap (λ bytes. gap ++ bytes) (drop_all start source past) ∙ append-nil gap)) passed; within = within }

  -- no token follows
  pub gap_faults : (fault : TextFault) → IsFaultOf (drop start source) start fault → HasFaultFrom source at fault
  gap_faults fault there = record { gap = gap; bytes = drop start source; split = split; passed = passed; fault_there = subst (λ n. IsFaultOf (drop start source) n fault) place there }

-- a gap with one white byte more
pub white_more : (source : List ℕ) (at to : ℕ) → IsGapTo source at to → to < length source → is_white (get_or source to 0) ≡ true → IsGapTo source at (to + 1)
white_more source at to before inside white =
    let bytes = drop to source in
    let size = length-drop to source in
    let some : 0 < length bytes = omega (arith, size, inside) in
    let one : take 1 bytes ≡ get_or source to 0 ∷ [] = take_more bytes 0 0 some ∙ ap (λ byte. byte ∷ []) (get_or-drop to source 0 0 ∙ ap (λ k. get_or source k 0) (add-zero to)) in
    record {
      gap = before.gap ++ take 1 bytes;
      split = blank_split source before.gap at to before.split before.passed before.place 1;
      passed = gap_more before.gap (take 1 bytes) before.passed (inl (get_or source to 0, one, white));
      place = blank_place source before.gap at to before.split before.passed before.place 1 (omega (arith, some));
      within = omega (arith, inside);
    }

-- no bytes are a gap
pub gap_here : (source : List ℕ) (at : ℕ) → at ≤ length source → IsGapTo source at at
gap_here source at within = record { gap = []; split = refl; passed = nothing; place = omega arith; within = within }
