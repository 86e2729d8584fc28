-- From each place a Hanoi text goes on in some way.
use Rattle.std.proofs.Common.{◌≡◌, ℕ, zero, suc, ◌+◌, ◌<◌, ◌≤◌, ◌⊎◌, inl, inr, ⊎_elim, Option, Some, None, List, [], ◌∷◌, ◌++◌, length, drop, refl, sym, ap, ◌∙◌, subst, arith, append_assoc, append-nil, length-append}
use Rattle.omega_text.specs.Lexeme.{Lexeme, lexeme_at}
use Rattle.omega_text.specs.declared.hoa.kind.HoaKind.{HoaKind}
use Rattle.omega_text.specs.declared.hoa.mode.Mode.{Mode}
use Rattle.omega_text.specs.declared.hoa.mode.Mode.TheVariants.{Start}
use Rattle.omega_text.specs.declared.refusal.text.TextFault.{TextFault}
use Rattle.omega_text.specs.declared.refusal.text.TextFault.TheVariants.{Lex, Number}
use Rattle.omega_text.specs.hoa.Cut.{Ends, Follows, IsGap, IsLongest}
use Rattle.omega_text.specs.hoa.Cut.IsGap.{blank, nothing}
use Rattle.omega_text.specs.hoa.Fault.{HasFaultFrom, IsFaultOf}
use Rattle.omega_text.specs.hoa.Forms.{IsBlank, Spells}
use Rattle.omega_text.specs.private.hoa.scanning.Modes.{IsStuck, next_mode, run, unit_of}
use Rattle.omega_text.proofs.hoa_texts.Longest.{stuck_longest, stuck_no_unit}
use Rattle.omega_text.proofs.hoa_texts.Numbers.{spelled_or_wrong}
use Rattle.omega_text.proofs.hoa_texts.Read.{unit_read}
use Rattle.omega_text.proofs.hoa_texts.Runs.{answer}

-- bytes up to the one at which a run from a mode can't go on
record Scanned (mode : Mode) (bytes : List ℕ) : Type 0 where
  text : List ℕ
  rest : List ℕ
  last : Mode
  split : bytes ≡ text ++ rest
  reached : run (Some mode) text ≡ Some last
  stuck : IsStuck last rest

scan_on : (mode : Mode) (byte : ℕ) (rest : List ℕ) (state : Option Mode) → next_mode mode byte ≡ state → ((next : Mode) → Scanned next rest) → Scanned mode (byte ∷ rest)
scan_on mode byte rest None is following = record { text = []; rest = byte ∷ rest; last = mode; split = refl; reached = refl; stuck = is }
scan_on mode byte rest (Some next) is following =
    let found = following next in
    record {
      text = byte ∷ found.text;
      rest = found.rest;
      last = found.last;
      split = ap (λ bytes. byte ∷ bytes) found.split;
      reached = ap (λ state. run state found.text) is ∙ found.reached;
      stuck = found.stuck;
    }

scan : (bytes : List ℕ) (mode : Mode) → Scanned mode bytes
scan [] mode = record { text = []; rest = []; last = mode; split = refl; reached = refl; stuck = tt }
scan (byte ∷ rest) mode = scan_on mode byte rest (next_mode mode byte) refl (scan rest)

-- a token that bytes begin with
pub record Token (bytes : List ℕ) : Type 0 where
  pub kind : HoaKind
  pub value : ℕ
  pub text : List ℕ
  pub rest : List ℕ
  pub split : bytes ≡ text ++ rest
  pub spells : Spells kind value text
  pub longest : IsLongest text rest

-- a part of a gap is not empty
blank_size : (text : List ℕ) → IsBlank text → 0 < length text
blank_size text is = ⊎_elim (λ (byte, same, white). omega (arith, ap length same)) (λ (inside, same, closes). omega (arith, ap length same)) is

-- how bytes go on, if there are any: with a part of a gap, with a token, or with a fault
abbrev Begins : List ℕ → ℕ → Type 0
Begins bytes place = ((text : List ℕ) × (rest : List ℕ) × (bytes ≡ text ++ rest) × IsBlank text × (0 < length text)) ⊎ (Token bytes ⊎ ((fault : TextFault) × IsFaultOf bytes place fault))

-- by the unit that was read
judged : (bytes : List ℕ) (place : ℕ) → 0 < length bytes → (found : Scanned Start bytes) → (unit : Option (Option HoaKind)) → unit_of found.last ≡ unit → Begins bytes place
judged bytes place some found None is =
    let size = ap length found.split in
    let there : IsFaultOf (found.text ++ found.rest) place (Lex place) = (refl, stuck_no_unit found.text found.rest found.last found.reached found.stuck (omega arith) is) in
    inr (inr (Lex place, subst (λ bs. IsFaultOf bs place (Lex place)) (sym found.split) there))
judged bytes place some found (Some None) is =
    let text : IsBlank found.text = unit_read found.text None (ap answer found.reached ∙ is) in
    inl (found.text, found.rest, found.split, text, blank_size found.text text)
judged bytes place some found (Some (Some kind)) is =
    let longest = stuck_longest found.text found.rest found.last found.reached found.stuck in
    ⊎_elim
    (λ (value, spells). inr (inl (record { kind = kind; value = value; text = found.text; rest = found.rest; split = found.split; spells = spells; longest = longest })))
    (λ (_, digits, wrong). inr (inr (Number place, (refl, record { text = found.text; rest = found.rest; split = found.split; longest = longest; digits = digits; wrong = wrong }))))
    (spelled_or_wrong kind found.text (unit_read found.text (Some kind) (ap answer found.reached ∙ is)))

-- how bytes go on after a gap
record Way (bytes : List ℕ) (place : ℕ) : Type 0 where
  gap : List ℕ
  rest : List ℕ
  split : bytes ≡ gap ++ rest
  passed : IsGap gap
  goes_on : (rest ≡ []) ⊎ (Token rest ⊎ ((fault : TextFault) × IsFaultOf rest (place + length gap) fault))

way : (fuel : ℕ) (bytes : List ℕ) (place : ℕ) → length bytes ≤ fuel → Way bytes place
way fuel [] place short = record { gap = []; rest = []; split = refl; passed = nothing; goes_on = inl refl }
way zero (byte ∷ bytes) place short = absurd (omega arith)
way (suc fuel) (byte ∷ bytes) place short = ⊎_elim
    (λ (text, rest, split, is, some).
    let size = ap length split in
    let longer = length-append text rest in
    let following = way fuel rest (place + length text) (omega arith) in
    let both : place + length (text ++ following.gap) ≡ place + length text + length following.gap = omega (arith, length-append text following.gap) in
    record {
      gap = text ++ following.gap;
      rest = following.rest;
      split = split ∙ ap (λ bs. text ++ bs) following.split ∙ sym (append_assoc text following.gap following.rest);
      passed = blank text following.gap is following.passed;
      goes_on = subst (λ at. (following.rest ≡ []) ⊎ (Token following.rest ⊎ ((fault : TextFault) × IsFaultOf following.rest at fault))) (sym both) following.goes_on;
    })
    (λ here. record {
      gap = [];
      rest = byte ∷ bytes;
      split = refl;
      passed = nothing;
      goes_on = inr (subst (λ at. Token (byte ∷ bytes) ⊎ ((fault : TextFault) × IsFaultOf (byte ∷ bytes) at fault)) (omega arith) here);
    })
    (judged (byte ∷ bytes) place (omega arith) (scan (byte ∷ bytes) Start) (unit_of (scan (byte ∷ bytes) Start).last) refl)

-- how a text goes on from a place
pub onward : (source : List ℕ) (from : ℕ) → from ≤ length source → Ends source from ⊎ (((lexeme : Lexeme HoaKind) × Follows source from lexeme) ⊎ ((fault : TextFault) × HasFaultFrom source from fault))
onward source from within =
    let following = way (length (drop from source)) (drop from source) from (omega arith) in
    ⊎_elim
    (λ none. inl (record { passed = subst IsGap (sym (following.split ∙ ap (λ bs. following.gap ++ bs) none ∙ append-nil following.gap)) following.passed; within = within }))
    (⊎_elim
    (λ token. inr (inl (
      lexeme_at (from + length following.gap) token.kind token.value token.text,
      record {
        gap = following.gap;
        rest = token.rest;
        split = following.split ∙ ap (λ bs. following.gap ++ bs) token.split;
        passed = following.passed;
        spells = token.spells;
        longest = token.longest;
        start = refl;
        end = refl;
      },
    )))
    (λ (fault, there). inr (inr (fault, record { gap = following.gap; bytes = following.rest; split = following.split; passed = following.passed; fault_there = there }))))
    following.goes_on
