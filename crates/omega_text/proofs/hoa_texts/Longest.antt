-- Which units are the longest, and at which places no unit begins: both from a run that can't go on.
use Rattle.std.proofs.Common.{◌≡◌, ℕ, ◌<◌, ◌⊎◌, inl, inr, ⊎_elim, Option, Some, None, List, [], ◌∷◌, ◌++◌, length, refl, sym, ap, ◌∙◌, subst, arith, ◌==◌}
use Rattle.omega_text.specs.declared.hoa.kind.HoaKind.{HoaKind}
use Rattle.omega_text.specs.declared.hoa.kind.HoaKind.TheVariants.{Identifier, HeaderName, AliasName, Int}
use Rattle.omega_text.specs.declared.hoa.mode.Mode.{Mode}
use Rattle.omega_text.specs.declared.hoa.mode.Mode.TheVariants.{Start, Word, Alias, Digits, Whole, Blank}
use Rattle.omega_text.specs.hoa.Cut.{IsLongest}
use Rattle.omega_text.specs.hoa.Fault.{BeginsNoUnit}
use Rattle.omega_text.specs.hoa.Forms.{IsBlank, IsUnit}
use Rattle.omega_text.specs.private.hoa.scanning.Modes.{IsStuck, next_mode, run, unit_of}
use Rattle.omega_text.specs.Bytes.{is_digit, is_word_byte}
use Rattle.omega_text.proofs.hoa_texts.Runs.{answer, answer_none, run_append, run_none}
use Rattle.omega_text.proofs.hoa_texts.Tests.{either}
use Rattle.omega_text.proofs.hoa_texts.Written.{blank_run, unit_written}

-- some unit was read
abbrev Reads : Option Mode → Type 0
Reads state = (sort : Option HoaKind) × (answer state ≡ Some sort)

-- a unit with one byte more is a unit, or none goes on so
abbrev Stays : Option Mode → Type 0
Stays state = Reads state ⊎ (state ≡ None)

one_stays : (mode : Mode) (byte : ℕ) → Reads (Some mode) → Stays (next_mode mode byte)
one_stays (Word kind) byte reads = either Stays (is_word_byte byte) _ _ (λ _. inl (Some Identifier, refl)) (λ _. either Stays (byte == 58) _ _ (λ _. inl (Some HeaderName, refl)) (λ _. inr refl))
one_stays Alias byte reads = either Stays (is_word_byte byte) _ _ (λ _. inl (Some AliasName, refl)) (λ _. inr refl)
one_stays Digits byte reads = either Stays (is_digit byte) _ _ (λ _. inl (Some Int, refl)) (λ _. inr refl)
one_stays (Whole kind) byte reads = inr refl
one_stays Blank byte reads = inr refl
one_stays mode byte reads = absurd (no_unit reads.0 reads.1)
  where
    no_unit : (sort : Option HoaKind) → ◌≡◌ {A = Option (Option HoaKind)} None (Some sort) → ⊥
    no_unit sort is = cc

pub stays : (state : Option Mode) (more : List ℕ) → Stays state → Stays (run state more)
stays state [] before = before
stays None (byte ∷ more) before = inr (run_none more)
stays (Some mode) (byte ∷ more) before = stays (next_mode mode byte) more (⊎_elim (one_stays mode byte) (λ none. let other : Some mode ≡ None = none in absurd (cc)) before)

-- a unit is not left
not_left : (state : Option Mode) (more : List ℕ) (mode : Mode) (sort : Option HoaKind) → answer state ≡ Some sort → run state more ≡ Some mode → unit_of mode ≡ None → ⊥
not_left state more mode sort reads reached unread = ⊎_elim
    (λ (other, is). let same = ap answer reached in cc)
    (λ none. cc)
    (stays state more (inl (sort, reads)))

-- of two fronts of a list one is a front of the other
pub fronts : {A : Type 0} (one rest other following : List A) → one ++ rest ≡ other ++ following
    → ((more : List A) × (one ≡ other ++ more) × (following ≡ more ++ rest)) ⊎ ((item : A) × (more : List A) × (other ≡ one ++ item ∷ more) × (rest ≡ item ∷ (more ++ following)))
fronts [] rest [] following same = inl ([], refl, sym same)
fronts [] rest (item ∷ other) following same = inr (item, other, refl, same)
fronts (item ∷ one) rest [] following same = inl (item ∷ one, refl, sym same)
fronts (item ∷ one) rest (first ∷ other) following same =
    let head : item ≡ first = cc in
    ⊎_elim
    (λ (more, is, left). inl (more, (λ i. head i ∷ is i), left))
    (λ (next, more, is, left). inr (next, more, (λ i. sym head i ∷ is i), left))
    (fronts one rest other following (cc))

-- a run that can't go on
module _ (text rest : List ℕ) (mode : Mode) (is : run (Some Start) text ≡ Some mode) (stuck : IsStuck mode rest) where
  -- its text is the longest unit, if it is a unit
  pub stuck_longest : IsLongest text rest
  stuck_longest [] following sort split some unit = absurd (omega arith)
  stuck_longest (byte ∷ more) following sort split some unit =
      let ends : next_mode mode byte ≡ None = subst (IsStuck mode) split stuck in
      answer_none more sort (ap (λ state. answer (run state more)) (sym ends) ∙ ap (λ state. answer (run state (byte ∷ more))) (sym is)
      ∙ ap answer (sym (run_append (Some Start) text (byte ∷ more))) ∙ unit_written sort (text ++ byte ∷ more) unit)

  -- and if it is no such byte, no unit begins there
  pub stuck_no_unit : 0 < length (text ++ rest) → unit_of mode ≡ None → BeginsNoUnit (text ++ rest)
  stuck_no_unit some unread = record {
    some = some;
    none = λ front following sort split unit. ⊎_elim
        (λ (more, longer, _).
        let reached : run (run (Some Start) front) more ≡ Some mode = sym (run_append (Some Start) front more) ∙ ap (run (Some Start)) (sym longer) ∙ is in
        not_left (run (Some Start) front) more mode sort (unit_written sort front unit) reached unread)
        (λ (byte, more, longer, left). stuck_longest (byte ∷ more) following sort left (omega arith) (subst (IsUnit sort) longer unit))
        (fronts text rest front following split);
  }

-- a part of a gap can't be longer
pub blank_longest : (text rest : List ℕ) → IsBlank text → IsLongest text rest
blank_longest text rest is = stuck_longest text rest Blank (blank_run text is) (blank_stuck rest)
  where
    blank_stuck : (rest : List ℕ) → IsStuck Blank rest
    blank_stuck [] = tt
    blank_stuck (byte ∷ rest) = refl
