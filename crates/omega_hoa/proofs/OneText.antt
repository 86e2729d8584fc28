-- A text is that of one automaton, or is refused in one way.
use Rattle.std.proofs.Common.{◌≡◌, ℕ, ◌<◌, ◌≤◌, List, [], ◌∷◌, ◌++◌, length, refl, sym, ap, subst, ◌∙◌, inl, inr, arith, append-nil}
use Rattle.omega_text.specs.Cut.{CutsAreOne, CutsHaveNoFault, FaultsAreOne, IsCut, IsFault}
use Rattle.omega_text.specs.Lexeme.{Lexeme}
use Rattle.omega_text.specs.Limits.{most_text}
use Rattle.omega_text.specs.Refusal.{automaton_number, number_of}
use Rattle.omega_text.specs.hoa.Format.{hoa_format}
use Rattle.omega_text.specs.declared.hoa.kind.HoaKind.{HoaKind}
use Rattle.omega_text.specs.declared.hoa.kind.HoaKind.TheVariants.{Abort, End}
use Rattle.omega_text.specs.declared.refusal.Refusal.{Refusal}
use Rattle.omega_text.specs.declared.refusal.Refusal.TheVariants.{Automaton as AutomatonRefusal, Text}
use Rattle.omega_text.specs.declared.refusal.automaton.AutomatonFault.{AutomatonFault}
use Rattle.omega_text.specs.declared.refusal.automaton.AutomatonFault.TheVariants.{AcceptanceAtom, Alias, Expansion, ImplicitCount, MissingAcceptance, MixedLabels, Proposition, RepeatedHeader, SetRange, StateRange, StateTwice, TooDeep, UnknownHeader, Version}
use Rattle.omega_text.specs.declared.refusal.text.TextFault.{TextFault}
use Rattle.omega_text.specs.declared.refusal.text.TextFault.TheVariants.{Syntax, TooLong}
use Rattle.omega_hoa_automaton.specs.Automaton.{Description}
use Rattle.omega_hoa.specs.Alone.{AreRefused, HasNoSegmentAt, IsAutomatonRefusal, IsAutomatonText, IsSegmentRefused}
use Rattle.omega_hoa.proofs.Places.{through_none}
use Rattle.omega_hoa.specs.Segment.{IsAutomatonOf, IsNoRaw, IsRawOf, IsSegmentFault}
use Rattle.omega_hoa.specs.Stream.{IsOpen, IsSegment, Opens, is_end}
use Rattle.omega_hoa.proofs.FirstEnds.{first_end, never_ended, open_is_no_segment, open_unended, segment_opens, segment_split, segments_one}
use Rattle.omega_hoa.proofs.OneStream.{segment_is_some}
use Rattle.omega_hoa.proofs.Readings.{Readings}

-- tokens that begin with a segment ended by `--END--` are not without one
has_segment : (count at : ℕ) (lexemes segment rest : List (Lexeme HoaKind)) → HasNoSegmentAt count lexemes at → IsSegment End segment → lexemes ≡ segment ++ rest → ⊥
has_segment count at lexemes segment rest none whole same = elim none [
  | inl nothing ↦ segment_is_some End segment rest whole (sym same ∙ nothing.0)
  | inr some ↦ elim some [
    | inl stray ↦
        let first = segment_opens End segment rest whole in
        let equal : stray.0 ∷ stray.1 ≡ first.0 ∷ first.1 = sym stray.2 ∙ same ∙ first.2 in
        let head : first.0 ≡ stray.0 = cc in
        stray.3 (subst Opens head first.3)
    | inr begun ↦ elim begun [
      | inl unended ↦ open_is_no_segment lexemes segment rest End refl unended.0 whole same
      | inr aborted ↦
          let parts = first_end aborted.0 whole.inside aborted.2 rest aborted.1 whole.last (open_unended aborted.0 aborted.4) (open_unended whole.inside whole.before)
          (ap is_end aborted.5) (ap is_end whole.ends) (sym aborted.3 ∙ same ∙ segment_split End segment rest whole) in
          let clash : Abort ≡ End = sym aborted.5 ∙ ap (λ lexeme. lexeme.kind) parts.mark ∙ whole.ends in
          cc
    ]
  ]
]

-- a list is not both without an item and with one
clashes : (rest more : List (Lexeme HoaKind)) (next : Lexeme HoaKind) → rest ≡ [] → rest ≡ next ∷ more → ⊥
clashes rest more next none some = let clash : [] ≡ next ∷ more = sym none ∙ some in cc

-- no fault of an automaton has the number of a fault of syntax
no_three : (fault : AutomatonFault) → automaton_number fault ≡ 3 → ⊥
no_three Version is = cc
no_three RepeatedHeader is = cc
no_three MissingAcceptance is = cc
no_three UnknownHeader is = cc
no_three StateRange is = cc
no_three SetRange is = cc
no_three Proposition is = cc
no_three Alias is = cc
no_three StateTwice is = cc
no_three MixedLabels is = cc
no_three ImplicitCount is = cc
no_three AcceptanceAtom is = cc
no_three TooDeep is = cc
no_three Expansion is = cc

-- tokens of a segment that are refused with `Syntax` are those of no automaton
three_unread : (segment : List (Lexeme HoaKind)) (refusal : Refusal) → number_of refusal ≡ 3 → IsSegmentFault segment refusal → IsNoRaw segment
three_unread segment (Text (Syntax at)) is fault = through_none segment at fault
three_unread segment (Text said) is fault = absurd fault
three_unread segment (AutomatonRefusal said) is fault = absurd (no_three said is)
three_unread segment refusal is fault = absurd fault

-- tokens without a segment ended by `--END--` are refused with `Syntax`, in four cases
data Unsegmented (count : ℕ) (lexemes : List (Lexeme HoaKind)) (at : ℕ) : Type 0 where
  bare : lexemes ≡ [] → at ≡ count → Unsegmented count lexemes at
  stray : (first : Lexeme HoaKind) → (rest : List (Lexeme HoaKind)) → lexemes ≡ first ∷ rest → (Opens first → ⊥) → at ≡ first.span.start → Unsegmented count lexemes at
  unended : IsOpen lexemes → at ≡ count → Unsegmented count lexemes at
  aborted : (inside : List (Lexeme HoaKind)) → (last : Lexeme HoaKind) → (rest : List (Lexeme HoaKind)) → lexemes ≡ inside ++ last ∷ rest → IsOpen inside → last.kind ≡ Abort → at ≡ last.span.start
      → Unsegmented count lexemes at

unsegmented : (count : ℕ) (lexemes : List (Lexeme HoaKind)) (at : ℕ) → HasNoSegmentAt count lexemes at → Unsegmented count lexemes at
unsegmented count lexemes at has = elim has [
  | inl empty ↦ bare empty.0 empty.1
  | inr some ↦ elim some [
    | inl first ↦ stray first.0 first.1 first.2 first.3 first.4
    | inr begun ↦ elim begun [
      | inl unclosed ↦ unended unclosed.0 unclosed.1
      | inr mark ↦ aborted mark.0 mark.1 mark.2 mark.3 mark.4 mark.5 mark.6
    ]
  ]
]

-- what begins with a segment so far begins with `HOA:`
stray_or_open : (lexemes inside following : List (Lexeme HoaKind)) (first : Lexeme HoaKind) (rest : List (Lexeme HoaKind)) → lexemes ≡ first ∷ rest → (Opens first → ⊥) → IsOpen inside → lexemes ≡ inside ++ following → ⊥
stray_or_open lexemes inside following first rest is other begun same =
    let equal : first ∷ rest ≡ begun.first ∷ (begun.rest ++ following) = sym is ∙ same ∙ ap (λ ls. ls ++ following) begun.split in
    let head : begun.first ≡ first = cc in
    other (subst Opens head begun.opens)

-- and is not empty
none_or_open : (lexemes inside following : List (Lexeme HoaKind)) → lexemes ≡ [] → IsOpen inside → lexemes ≡ inside ++ following → ⊥
none_or_open lexemes inside following is begun same =
    clashes lexemes (begun.rest ++ following) begun.first is (same ∙ ap (λ ls. ls ++ following) begun.split)

-- the place is one
place_one : (count : ℕ) (lexemes : List (Lexeme HoaKind)) (at place : ℕ) → Unsegmented count lexemes at → Unsegmented count lexemes place → at ≡ place
place_one count lexemes at place (bare is here) (bare also there) = here ∙ sym there
place_one count lexemes at place (bare is here) (stray first rest same other there) = absurd (clashes lexemes rest first is same)
place_one count lexemes at place (bare is here) (unended begun there) = here ∙ sym there
place_one count lexemes at place (bare is here) (aborted inside last rest same begun kind there) = absurd (none_or_open lexemes inside (last ∷ rest) is begun same)
place_one count lexemes at place (stray first rest is other here) (bare same there) = absurd (clashes lexemes rest first same is)
place_one count lexemes at place (stray first rest is other here) (stray next more same also there) =
    let equal : first ∷ rest ≡ next ∷ more = sym is ∙ same in
    let head : first ≡ next = cc in
    here ∙ ap (λ it. it.span.start) head ∙ sym there
place_one count lexemes at place (stray first rest is other here) (unended begun there) = absurd (stray_or_open lexemes lexemes [] first rest is other begun (sym (append-nil lexemes)))
place_one count lexemes at place (stray first rest is other here) (aborted inside last more same begun kind there) = absurd (stray_or_open lexemes inside (last ∷ more) first rest is other begun same)
place_one count lexemes at place (unended begun here) (bare same there) = here ∙ sym there
place_one count lexemes at place (unended begun here) (stray first rest same other there) = absurd (stray_or_open lexemes lexemes [] first rest same other begun (sym (append-nil lexemes)))
place_one count lexemes at place (unended begun here) (unended begins there) = here ∙ sym there
place_one count lexemes at place (unended begun here) (aborted inside last rest same begins kind there) = absurd (never_ended lexemes inside rest last (open_unended lexemes begun) (ap is_end kind) same)
place_one count lexemes at place (aborted inside last rest is begun kind here) (bare same there) = absurd (none_or_open lexemes inside (last ∷ rest) same begun is)
place_one count lexemes at place (aborted inside last rest is begun kind here) (stray first more same other there) = absurd (stray_or_open lexemes inside (last ∷ rest) first more same other begun is)
place_one count lexemes at place (aborted inside last rest is begun kind here) (unended begins there) = absurd (never_ended lexemes inside rest last (open_unended lexemes begins) (ap is_end kind) is)
place_one count lexemes at place (aborted inside last rest is begun kind here) (aborted front mark more same begins sort there) =
    let parts = first_end inside front rest more last mark (open_unended inside begun) (open_unended front begins) (ap is_end kind) (ap is_end sort) (sym is ∙ same) in
    here ∙ ap (λ it. it.span.start) parts.mark ∙ sym there

module _ (readings : Readings) where
  -- a segment and what follows it are refused in one way
  segment_refused_one : (lexemes : List (Lexeme HoaKind)) (one other : Refusal) → IsSegmentRefused lexemes one → IsSegmentRefused lexemes other → one ≡ other
  segment_refused_one lexemes one other here there =
      let parts = segments_one End End here.segment there.segment here.rest there.rest refl refl here.whole there.whole (sym here.split ∙ there.split) in
      elim here.refused [
        | inl mine ↦ elim there.refused [
          | inl theirs ↦ readings.fault_one there.segment one other (subst (λ ls. IsSegmentFault ls one) parts.same mine.0) theirs.0
          | inr follows ↦ elim mine.1 [
            | inl is ↦ absurd (three_unread here.segment one is mine.0 follows.0.0 (subst (λ ls. IsRawOf ls follows.0.0) (sym parts.same) follows.0.1))
            | inr none ↦ absurd (clashes here.rest follows.1.1 follows.1.0 none (parts.following ∙ follows.1.2))
          ]
        ]
        | inr follows ↦ elim there.refused [
          | inl theirs ↦ elim theirs.1 [
            | inl is ↦ absurd (three_unread there.segment other is theirs.0 follows.0.0 (subst (λ ls. IsRawOf ls follows.0.0) parts.same follows.0.1))
            | inr none ↦ absurd (clashes there.rest follows.1.1 follows.1.0 none (sym parts.following ∙ follows.1.2))
          ]
          | inr others ↦
              let equal : follows.1.0 ∷ follows.1.1 ≡ others.1.0 ∷ others.1.1 = sym follows.1.2 ∙ parts.following ∙ others.1.2 in
              let head : follows.1.0 ≡ others.1.0 = cc in
              follows.1.3 ∙ ap (λ it. Text (Syntax it.span.start)) head ∙ sym others.1.3
        ]
      ]

  -- tokens are refused in one way
  tokens_refused_one : (count : ℕ) (lexemes : List (Lexeme HoaKind)) (one other : Refusal) → AreRefused count lexemes one → AreRefused count lexemes other → one ≡ other
  tokens_refused_one count lexemes one other here there = elim here [
    | inl none ↦ elim there [
      | inl nothing ↦
          let same = place_one count lexemes none.0 nothing.0 (unsegmented count lexemes none.0 none.2) (unsegmented count lexemes nothing.0 nothing.2) in
          none.1 ∙ ap (λ place. Text (Syntax place)) same ∙ sym nothing.1
      | inr segment ↦ absurd (has_segment count none.0 lexemes segment.segment segment.rest none.2 segment.whole segment.split)
    ]
    | inr segment ↦ elim there [
      | inl none ↦ absurd (has_segment count none.0 lexemes segment.segment segment.rest none.2 segment.whole segment.split)
      | inr others ↦ segment_refused_one lexemes one other segment others
    ]
  ]

  -- the tokens of an automaton are not refused
  tokens_unrefused : (count : ℕ) (lexemes : List (Lexeme HoaKind)) (automaton : Description) (refusal : Refusal) (source : List ℕ) → (is : IsAutomatonText source automaton) → is.lexemes ≡ lexemes
      → AreRefused count lexemes refusal → ⊥
  tokens_unrefused count lexemes automaton refusal source is same refused =
      let all : lexemes ≡ is.lexemes ++ [] = sym same ∙ sym (append-nil is.lexemes) in
      elim refused [
        | inl none ↦ has_segment count none.0 lexemes is.lexemes [] none.2 is.segment all
        | inr segment ↦
            let parts = segments_one End End segment.segment is.lexemes segment.rest [] refl refl segment.whole is.segment (sym segment.split ∙ all) in
            elim segment.refused [
              | inl mine ↦ readings.not_both is.lexemes automaton refusal is.value (subst (λ ls. IsSegmentFault ls refusal) parts.same mine.0)
              | inr follows ↦ clashes segment.rest follows.1.1 follows.1.0 parts.following follows.1.2
            ]
      ]

-- why a text is refused: its length, a fault of tokens, or its tokens
data Why (source : List ℕ) (refusal : Refusal) : Type 0 where
  long : refusal ≡ Text TooLong → most_text < length source → Why source refusal
  lexical : length source ≤ most_text → (fault : TextFault) → refusal ≡ Text fault → IsFault hoa_format source fault → Why source refusal
  tokens : length source ≤ most_text → (lexemes : List (Lexeme HoaKind)) → IsCut hoa_format source lexemes → AreRefused (length source) lexemes refusal → Why source refusal

why : (source : List ℕ) (refusal : Refusal) → IsAutomatonRefusal source refusal → Why source refusal
why source refusal refused = elim refused [
  | inl length_ ↦ long length_.0 length_.1
  | inr others ↦ elim others.1 [
    | inl fault ↦ lexical others.0 fault.0 fault.1 fault.2
    | inr cut ↦ tokens others.0 cut.0 cut.1 cut.2
  ]
]

module _ (readings : Readings) (cuts_one : CutsAreOne hoa_format) (source : List ℕ) where
  -- one automaton
  pub automata_one : (one other : Description) → IsAutomatonText source one → IsAutomatonText source other → one ≡ other
  automata_one one other here there =
      readings.automaton_one there.lexemes one other (subst (λ ls. IsAutomatonOf ls one) (cuts_one source here.lexemes there.lexemes here.cut there.cut) here.value) there.value

  -- one refusal
  refused_one : FaultsAreOne hoa_format → CutsHaveNoFault hoa_format → (one other : Refusal) → Why source one → Why source other → one ≡ other
  refused_one faults_one no_fault one other (long is over) (long equal beyond) = is ∙ sym equal
  refused_one faults_one no_fault one other (long is over) (lexical short fault equal faults) = absurd (omega (arith, over, short))
  refused_one faults_one no_fault one other (long is over) (tokens short lexemes cut refused) = absurd (omega (arith, over, short))
  refused_one faults_one no_fault one other (lexical short fault is faults) (long equal over) = absurd (omega (arith, over, short))
  refused_one faults_one no_fault one other (lexical short fault is faults) (lexical within said equal there) = is ∙ ap (λ it. Text it) (faults_one source fault said faults there) ∙ sym equal
  refused_one faults_one no_fault one other (lexical short fault is faults) (tokens within lexemes cut refused) = absurd (no_fault source lexemes fault cut faults)
  refused_one faults_one no_fault one other (tokens short lexemes cut refused) (long equal over) = absurd (omega (arith, over, short))
  refused_one faults_one no_fault one other (tokens short lexemes cut refused) (lexical within fault equal faults) = absurd (no_fault source lexemes fault cut faults)
  refused_one faults_one no_fault one other (tokens short lexemes cut refused) (tokens within others there another) =
      tokens_refused_one readings (length source) others one other (subst (λ ls. AreRefused (length source) ls one) (cuts_one source lexemes others cut there) refused) another

  pub refusals_one : FaultsAreOne hoa_format → CutsHaveNoFault hoa_format → (one other : Refusal) → IsAutomatonRefusal source one → IsAutomatonRefusal source other → one ≡ other
  refusals_one faults_one no_fault one other here there = refused_one faults_one no_fault one other (why source one here) (why source other there)

  -- not both
  unrefused : CutsHaveNoFault hoa_format → (automaton : Description) (refusal : Refusal) → IsAutomatonText source automaton → Why source refusal → ⊥
  unrefused no_fault automaton refusal is (long equal over) = let short = is.short in omega (arith, over, short)
  unrefused no_fault automaton refusal is (lexical short fault equal faults) = no_fault source is.lexemes fault is.cut faults
  unrefused no_fault automaton refusal is (tokens short lexemes cut refused) =
      tokens_unrefused readings (length source) lexemes automaton refusal source is (cuts_one source is.lexemes lexemes is.cut cut) refused

  pub automata_unrefused : CutsHaveNoFault hoa_format → (automaton : Description) (refusal : Refusal) → IsAutomatonText source automaton → IsAutomatonRefusal source refusal → ⊥
  automata_unrefused no_fault automaton refusal is refused = unrefused no_fault automaton refusal is (why source refusal refused)
