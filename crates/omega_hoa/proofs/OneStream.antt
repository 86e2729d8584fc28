-- A text is one stream, or is refused in one way, after the same items.
use Rattle.std.proofs.Common.{◌≡◌, ℕ, ◌⊎◌, true, List, [], ◌∷◌, ◌++◌, length, refl, sym, ap, subst, ◌∙◌, inl, inr, append_assoc, append-nil}
use Rattle.omega_text.specs.Cases.{never, or_text}
use Rattle.omega_text.specs.Cut.{Cuts, IsCut}
use Rattle.omega_text.specs.Format.{GoesOneWay}
use Rattle.omega_text.specs.Lexeme.{Lexeme}
use Rattle.omega_text.specs.hoa.Format.{hoa_format}
use Rattle.omega_text.specs.declared.hoa.kind.HoaKind.{HoaKind}
use Rattle.omega_text.specs.declared.hoa.kind.HoaKind.TheVariants.{End, Abort}
use Rattle.omega_text.specs.declared.refusal.Refusal.{Refusal}
use Rattle.omega_text.specs.declared.refusal.Refusal.TheVariants.{Text}
use Rattle.omega_text.specs.declared.refusal.text.TextFault.{TextFault}
use Rattle.omega_text.specs.declared.refusal.text.TextFault.TheVariants.{Lex, Number, Syntax, TooLong}
use Rattle.omega_hoa.specs.Segment.{IsSegmentFault}
use Rattle.omega_hoa.specs.Stream.{IsFaultInside, IsFaultOutside, IsItemOf, IsOpen, IsRefusedAfter, IsSegment, IsStream, IsStreamFault, Opens, is_end}
use Rattle.omega_hoa.specs.declared.item.Item.{Item}
use Rattle.omega_hoa.specs.declared.item.Item.TheVariants.{Automaton as AutomatonItem, Aborted}
use Rattle.omega_hoa.proofs.FirstEnds.{open_is_no_segment, segment_opens, segments_one}
use Rattle.omega_hoa.proofs.Readings.{Readings}

-- the mark by which a segment with this item ends
mark_of : Item → HoaKind
mark_of (AutomatonItem automaton) = End
mark_of Aborted = Abort

marked : (item : Item) → is_end (mark_of item) ≡ true
unfolding mark_of
marked (AutomatonItem automaton) = refl
marked Aborted = refl

ends_marked : (item : Item) (segment : List (Lexeme HoaKind)) → IsItemOf segment item → IsSegment (mark_of item) segment
unfolding mark_of
ends_marked (AutomatonItem automaton) segment is = is.0
ends_marked Aborted segment is = is

-- no segment with an item is at the front of the tokens
abbrev NoItem : List (Lexeme HoaKind) → Type 0
NoItem lexemes = (item : Item) (segment more : List (Lexeme HoaKind)) → IsItemOf segment item → lexemes ≡ segment ++ more → ⊥

none_at_end : NoItem []
none_at_end item segment more is same =
    let first = segment_opens (mark_of item) segment more (ends_marked item segment is) in
    let clash : [] ≡ first.0 ∷ first.1 = same ∙ first.2 in
    cc

none_in_open : (lexemes : List (Lexeme HoaKind)) → IsOpen lexemes → NoItem lexemes
none_in_open lexemes begun item segment more is same = open_is_no_segment lexemes segment more (mark_of item) (marked item) begun (ends_marked item segment is) same

none_at_stray : (lexeme : Lexeme HoaKind) (lexemes : List (Lexeme HoaKind)) → (Opens lexeme → ⊥) → NoItem (lexeme ∷ lexemes)
none_at_stray lexeme lexemes other item segment more is same =
    let first = segment_opens (mark_of item) segment more (ends_marked item segment is) in
    let equal : lexeme ∷ lexemes ≡ first.0 ∷ first.1 = same ∙ first.2 in
    let head : first.0 ≡ lexeme = cc in
    other (subst Opens head first.3)

module _ (readings : Readings) where
  -- a segment has one item
  item_one : (segment : List (Lexeme HoaKind)) (one other : Item) → IsItemOf segment one → IsItemOf segment other → one ≡ other
  item_one segment (AutomatonItem automaton) (AutomatonItem another) here there = ap (λ it. AutomatonItem it) (readings.automaton_one segment automaton another here.1 there.1)
  item_one segment (AutomatonItem automaton) Aborted here there =
      let same = segments_one End Abort segment segment [] [] refl refl here.0 there refl in let clash : End ≡ Abort = same.marks in cc
  item_one segment Aborted (AutomatonItem automaton) here there =
      let same = segments_one Abort End segment segment [] [] refl refl here there.0 refl in let clash : Abort ≡ End = same.marks in cc
  item_one segment Aborted Aborted here there = refl

  -- a segment with a fault has no item
  fault_has_no_item : (segment : List (Lexeme HoaKind)) (refusal : Refusal) (item : Item) → IsSegment End segment → IsSegmentFault segment refusal → IsItemOf segment item → ⊥
  fault_has_no_item segment refusal (AutomatonItem automaton) whole fault is = readings.not_both segment automaton refusal is.1 fault
  fault_has_no_item segment refusal Aborted whole fault is =
      let same = segments_one Abort End segment segment [] [] refl refl is whole refl in let clash : Abort ≡ End = same.marks in cc

  none_at_fault : (segment more : List (Lexeme HoaKind)) (refusal : Refusal) → IsSegment End segment → IsSegmentFault segment refusal → NoItem (segment ++ more)
  none_at_fault segment more refusal whole fault item front others is same =
      let parts = segments_one (mark_of item) End front segment others more (marked item) refl (ends_marked item front is) whole (sym same) in
      fault_has_no_item segment refusal item whole fault (subst (λ ls. IsItemOf ls item) parts.same is)

  -- the same items, and the same tokens after
  record SameItems (items others : List Item) (rest left : List (Lexeme HoaKind)) : Type 0 where
    same : items ≡ others
    following : rest ≡ left

  items_one : (front before rest left : List (Lexeme HoaKind)) (items others : List Item) → IsStream front items → IsStream before others → NoItem rest → NoItem left
      → front ++ rest ≡ before ++ left → SameItems items others rest left
  items_one front before rest left [] [] here there none nothing same = record {
    same = refl;
    following = sym (ap (λ ls. ls ++ rest) here) ∙ same ∙ ap (λ ls. ls ++ left) there;
  }
  items_one front before rest left [] (item ∷ others) here there none nothing same =
      absurd (none item there.0 (there.1 ++ left) there.3
      (sym (ap (λ ls. ls ++ rest) here) ∙ same ∙ ap (λ ls. ls ++ left) there.2 ∙ append_assoc there.0 there.1 left))
  items_one front before rest left (item ∷ items) [] here there none nothing same =
      absurd (nothing item here.0 (here.1 ++ rest) here.3
      (sym (ap (λ ls. ls ++ left) there) ∙ sym same ∙ ap (λ ls. ls ++ rest) here.2 ∙ append_assoc here.0 here.1 rest))
  items_one front before rest left (item ∷ items) (other ∷ others) here there none nothing same =
      let parts = segments_one (mark_of item) (mark_of other) here.0 there.0 (here.1 ++ rest) (there.1 ++ left) (marked item) (marked other)
      (ends_marked item here.0 here.3) (ends_marked other there.0 there.3)
      (sym (append_assoc here.0 here.1 rest) ∙ sym (ap (λ ls. ls ++ rest) here.2) ∙ same ∙ ap (λ ls. ls ++ left) there.2 ∙ append_assoc there.0 there.1 left) in
      let first : item ≡ other = item_one there.0 item other (subst (λ ls. IsItemOf ls item) parts.same here.3) there.3 in
      let more = items_one here.1 there.1 rest left items others here.4 there.4 none nothing parts.following in
      record { same = ap (λ it. it ∷ items) first ∙ ap (λ all. other ∷ all) more.same; following = more.following }

  -- the items of a stream are one list
  pub streams_one : (lexemes : List (Lexeme HoaKind)) (items others : List Item) → IsStream lexemes items → IsStream lexemes others → items ≡ others
  streams_one lexemes items others here there = (items_one lexemes lexemes [] [] items others here there none_at_end none_at_end refl).same

-- of two cuts from one place, one goes on where the other ends
record GoesOn (source : List ℕ) (front lexemes : List (Lexeme HoaKind)) (from to : ℕ) : Type 0 where
  more : List (Lexeme HoaKind)
  is : lexemes ≡ front ++ more
  cuts : Cuts hoa_format source from more to

module _ (exact : GoesOneWay hoa_format) (source : List ℕ) where
  one_goes_on : (from to end : ℕ) (ones others : List (Lexeme HoaKind)) → Cuts hoa_format source from ones to → Cuts hoa_format source from others end
      → GoesOn source ones others to end ⊎ GoesOn source others ones end to
  one_goes_on from to end [] others here there = inl (record { more = others; is = refl; cuts = subst (λ n. Cuts hoa_format source n others end) here there })
  one_goes_on from to end (one ∷ ones) [] here there = inr (record { more = one ∷ ones; is = refl; cuts = subst (λ n. Cuts hoa_format source n (one ∷ ones) to) there here })
  one_goes_on from to end (one ∷ ones) (other ∷ others) here there =
      let same : one ≡ other = exact.one_token source from one other here.0 there.0 in
      elim (one_goes_on other.span.end to end ones others (subst (λ it. Cuts hoa_format source it.span.end ones to) same here.1) there.1) [
        | inl goes ↦ inl (record { more = goes.more; is = ap (λ all. other ∷ all) goes.is ∙ ap (λ it. it ∷ ones ++ goes.more) (sym same); cuts = goes.cuts })
        | inr goes ↦ inr (record { more = goes.more; is = ap (λ it. it ∷ ones) same ∙ ap (λ all. other ∷ all) goes.is; cuts = goes.cuts })
      ]

-- the tokens after whole segments are none, or those of a segment so far
abbrev IsPart : List (Lexeme HoaKind) → Type 0
IsPart rest = (rest ≡ []) ⊎ IsOpen rest

-- why a text is refused after whole segments, in four cases: a fault of tokens, a token other than `HOA:`,
-- a segment without end, a segment that is no automaton
data Why (source : List ℕ) (rest : List (Lexeme HoaKind)) (from : ℕ) (refusal : Refusal) : Type 0 where
  lexical : IsPart rest → (fault : TextFault) → refusal ≡ Text fault → hoa_format.faults source from fault → Why source rest from refusal
  stray : rest ≡ [] → (lexeme : Lexeme HoaKind) → hoa_format.follows source from lexeme → (Opens lexeme → ⊥) → refusal ≡ Text (Syntax lexeme.span.start) → Why source rest from refusal
  short : IsOpen rest → hoa_format.ends source from → refusal ≡ Text (Syntax (length source)) → Why source rest from refusal
  faulty : IsSegment End rest → IsSegmentFault rest refusal → Why source rest from refusal

why_outside : (source : List ℕ) (rest : List (Lexeme HoaKind)) (from : ℕ) (refusal : Refusal) → rest ≡ [] → or_text (IsFaultOutside source from) never refusal → Why source rest from refusal
why_outside source rest from (Text (Lex at)) none fault = lexical (inl none) (Lex at) refl fault
why_outside source rest from (Text (Number at)) none fault = lexical (inl none) (Number at) refl fault
why_outside source rest from (Text (Syntax at)) none fault = stray none fault.0 fault.1 fault.2 (ap (λ place. Text (Syntax place)) fault.3)
why_outside source rest from (Text TooLong) none fault = absurd fault
why_outside source rest from refusal none fault = absurd fault

why_inside : (source : List ℕ) (rest : List (Lexeme HoaKind)) (from : ℕ) (refusal : Refusal) → IsOpen rest → or_text (IsFaultInside source from) never refusal → Why source rest from refusal
why_inside source rest from (Text (Lex at)) begun fault = lexical (inr begun) (Lex at) refl fault
why_inside source rest from (Text (Number at)) begun fault = lexical (inr begun) (Number at) refl fault
why_inside source rest from (Text (Syntax at)) begun fault = short begun fault.0 (ap (λ place. Text (Syntax place)) fault.1)
why_inside source rest from (Text TooLong) begun fault = absurd fault
why_inside source rest from refusal begun fault = absurd fault

why : (source : List ℕ) (rest : List (Lexeme HoaKind)) (from : ℕ) (refusal : Refusal) → IsRefusedAfter source rest from refusal → Why source rest from refusal
why source rest from refusal refused = elim refused [
  | inl outside ↦ why_outside source rest from refusal outside.0 outside.1
  | inr others ↦ elim others [
    | inl inside ↦ why_inside source rest from refusal inside.0 inside.1
    | inr segment ↦ faulty segment.0 segment.1
  ]
]

-- a segment so far has a token
open_is_some : (lexemes : List (Lexeme HoaKind)) → IsOpen lexemes → lexemes ≡ [] → ⊥
open_is_some lexemes begun none = let clash : begun.first ∷ begun.rest ≡ [] = sym begun.split ∙ none in cc

-- so has a whole one
pub segment_is_some : (mark : HoaKind) (segment more : List (Lexeme HoaKind)) → IsSegment mark segment → segment ++ more ≡ [] → ⊥
segment_is_some mark segment more whole none =
    let first = segment_opens mark segment more whole in
    let clash : first.0 ∷ first.1 ≡ [] = sym first.2 ∙ none in
    cc

-- a segment so far is no whole one
open_or_whole : (lexemes more others : List (Lexeme HoaKind)) → IsOpen others → IsSegment End lexemes → lexemes ++ more ≡ others → ⊥
open_or_whole lexemes more others begun whole same = open_is_no_segment others lexemes more End refl begun whole (sym same)

part_or_whole : (lexemes more others : List (Lexeme HoaKind)) → IsPart others → IsSegment End lexemes → lexemes ++ more ≡ others → ⊥
part_or_whole lexemes more others part whole same = elim part [
  | inl none ↦ segment_is_some End lexemes more whole (same ∙ none)
  | inr begun ↦ open_or_whole lexemes more others begun whole same
]

-- if nothing is appended
self_append : (lexemes more others : List (Lexeme HoaKind)) → more ≡ [] → lexemes ++ more ≡ others → lexemes ≡ others
self_append lexemes more others none same = sym (append-nil lexemes) ∙ ap (λ ls. lexemes ++ ls) (sym none) ∙ same

-- nothing is before what is appended
none_append : (lexemes more others : List (Lexeme HoaKind)) → lexemes ≡ [] → lexemes ++ more ≡ others → more ≡ others
none_append lexemes more others none same = sym (ap (λ ls. ls ++ more) none) ∙ same

-- no segment with an item is part of one
part_has_none : (rest : List (Lexeme HoaKind)) → IsPart rest → NoItem rest
part_has_none rest part = elim part [ inl none ↦ subst NoItem (sym none) none_at_end | inr begun ↦ none_in_open rest begun ]

module _ (readings : Readings) (exact : GoesOneWay hoa_format) (source : List ℕ) where
  -- no token is at the place of a fault of tokens, or of the end
  none_at : (from to : ℕ) (more : List (Lexeme HoaKind)) → ((lexeme : Lexeme HoaKind) → hoa_format.follows source from lexeme → ⊥) → Cuts hoa_format source from more to
      → (more ≡ []) × (from ≡ to)
  none_at from to [] none cuts = (refl, cuts)
  none_at from to (lexeme ∷ more) none cuts = absurd (none lexeme cuts.0)

  -- no tokens are cut between one place and itself
  nothing_cut : (from to : ℕ) (more : List (Lexeme HoaKind)) → more ≡ [] → Cuts hoa_format source from more to → from ≡ to
  nothing_cut from to [] none cuts = cuts
  nothing_cut from to (lexeme ∷ more) none cuts = absurd (let clash : lexeme ∷ more ≡ [] = none in cc)

  -- a token that is not `HOA:` begins no segment
  stray_begins : (from to : ℕ) (more : List (Lexeme HoaKind)) (lexeme first : Lexeme HoaKind) (others : List (Lexeme HoaKind)) → hoa_format.follows source from lexeme → (Opens lexeme → ⊥)
      → Cuts hoa_format source from more to → more ≡ first ∷ others → Opens first → ⊥
  stray_begins from to [] lexeme first others follows other cuts same opens = cc
  stray_begins from to (next ∷ more) lexeme first others follows other cuts same opens =
      let head : next ≡ first = cc in
      other (subst Opens (sym head ∙ exact.one_token source from next lexeme cuts.0 follows) opens)

  -- no segment with an item is at the place of a refusal
  refused_none : (rest more : List (Lexeme HoaKind)) (from to : ℕ) (refusal : Refusal) → Why source rest from refusal → Cuts hoa_format source from more to → NoItem (rest ++ more)
  refused_none rest more from to refusal (lexical part fault is faults) cuts =
      let none = none_at from to more (λ lexeme follows. exact.no_token_and_fault source from lexeme fault follows faults) cuts in
      subst NoItem (sym (ap (λ ls. rest ++ ls) none.0 ∙ append-nil rest)) (part_has_none rest part)
  refused_none rest more from to refusal (stray empty lexeme follows other three) cuts =
      λ item segment following is same.
      let first = segment_opens (mark_of item) segment following (ends_marked item segment is) in
      stray_begins from to more lexeme first.0 first.1 follows other cuts (none_append rest more (first.0 ∷ first.1) empty (same ∙ first.2)) first.3
  refused_none rest more from to refusal (short begun ends three) cuts =
      let none = none_at from to more (λ lexeme follows. exact.no_token_at_end source from lexeme follows ends) cuts in
      subst NoItem (sym (ap (λ ls. rest ++ ls) none.0 ∙ append-nil rest)) (none_in_open rest begun)
  refused_none rest more from to refusal (faulty whole fault) cuts = none_at_fault readings rest more refusal whole fault

  -- a fault of tokens, and another refusal there
  alike_lexical : (rest left : List (Lexeme HoaKind)) (from to : ℕ) (one other : Refusal) (fault : TextFault) → IsPart rest → one ≡ Text fault → hoa_format.faults source from fault
      → Why source left to other → from ≡ to → rest ≡ left → one ≡ other
  alike_lexical rest left from to one other fault part is faults (lexical another said equal there) here same =
      let agree : fault ≡ said = exact.one_fault source from fault said faults (subst (λ n. hoa_format.faults source n said) (sym here) there) in
      is ∙ ap (λ it. Text it) agree ∙ sym equal
  alike_lexical rest left from to one other fault part is faults (stray empty lexeme follows closed three) here same =
      absurd (exact.no_token_and_fault source from lexeme fault (subst (λ n. hoa_format.follows source n lexeme) (sym here) follows) faults)
  alike_lexical rest left from to one other fault part is faults (short begun ends three) here same =
      absurd (exact.no_fault_at_end source from fault faults (subst (hoa_format.ends source) (sym here) ends))
  alike_lexical rest left from to one other fault part is faults (faulty whole said) here same =
      absurd (part_or_whole left [] rest part whole (append-nil left ∙ sym same))

  -- a token other than `HOA:`
  alike_stray : (more left : List (Lexeme HoaKind)) (from to : ℕ) (one other : Refusal) (lexeme : Lexeme HoaKind) → hoa_format.follows source from lexeme → (Opens lexeme → ⊥) → one ≡ Text (Syntax lexeme.span.start)
      → Why source left to other → Cuts hoa_format source from more to → more ≡ left → one ≡ other
  alike_stray more left from to one other lexeme follows closed three (lexical part fault is faults) cuts same = elim part [
    | inl none ↦ absurd (elim more as (λ ls. ls ≡ left → Cuts hoa_format source from ls to → ⊥) [
      | [] ↦ λ same cuts. exact.no_token_and_fault source from lexeme fault follows (subst (λ n. hoa_format.faults source n fault) (sym cuts) faults)
      | next ∷ others ↦ λ same cuts. let clash : next ∷ others ≡ [] = same ∙ none in cc
    ] same cuts)
    | inr begun ↦ absurd (stray_begins from to more lexeme begun.first begun.rest follows closed cuts (same ∙ begun.split) begun.opens)
  ]
  alike_stray more left from to one other lexeme follows closed three (stray empty another there also third) cuts same =
      let place = nothing_cut from to more (same ∙ empty) cuts in
      let token = exact.one_token source from lexeme another follows (subst (λ n. hoa_format.follows source n another) (sym place) there) in
      three ∙ ap (λ it. Text (Syntax it.span.start)) token ∙ sym third
  alike_stray more left from to one other lexeme follows closed three (short begun ends third) cuts same =
      absurd (stray_begins from to more lexeme begun.first begun.rest follows closed cuts (same ∙ begun.split) begun.opens)
  alike_stray more left from to one other lexeme follows closed three (faulty whole fault) cuts same =
      let first = segment_opens End left [] whole in
      absurd (stray_begins from to more lexeme first.0 first.1 follows closed cuts (same ∙ sym (append-nil left) ∙ first.2) first.3)

  -- a segment without end
  alike_short : (rest left : List (Lexeme HoaKind)) (from to : ℕ) (one other : Refusal) → IsOpen rest → hoa_format.ends source from → one ≡ Text (Syntax (length source))
      → Why source left to other → from ≡ to → rest ≡ left → one ≡ other
  alike_short rest left from to one other begun ends three (lexical part fault is faults) here same =
      absurd (exact.no_fault_at_end source to fault faults (subst (hoa_format.ends source) here ends))
  alike_short rest left from to one other begun ends three (stray empty lexeme follows closed third) here same = absurd (open_is_some rest begun (same ∙ empty))
  alike_short rest left from to one other begun ends three (short begins there third) here same = three ∙ sym third
  alike_short rest left from to one other begun ends three (faulty whole fault) here same = absurd (open_or_whole left [] rest begun whole (append-nil left ∙ sym same))

  -- a segment that is no automaton
  alike_faulty : (rest more left : List (Lexeme HoaKind)) (to : ℕ) (one other : Refusal) → IsSegment End rest → IsSegmentFault rest one → Why source left to other → rest ++ more ≡ left → one ≡ other
  alike_faulty rest more left to one other whole fault (lexical part said is faults) same = absurd (part_or_whole rest more left part whole same)
  alike_faulty rest more left to one other whole fault (stray empty lexeme follows closed third) same = absurd (segment_is_some End rest more whole (same ∙ empty))
  alike_faulty rest more left to one other whole fault (short begun ends third) same = absurd (open_or_whole rest more left begun whole same)
  alike_faulty rest more left to one other whole fault (faulty ended said) same =
      let parts = segments_one End End rest left more [] refl refl whole ended (same ∙ sym (append-nil left)) in
      readings.fault_one left one other (subst (λ ls. IsSegmentFault ls one) parts.same fault) said

  -- two refusals at one place are one
  alike : (rest more left : List (Lexeme HoaKind)) (from to : ℕ) (one other : Refusal) → Why source rest from one → Why source left to other → Cuts hoa_format source from more to → rest ++ more ≡ left
      → one ≡ other
  alike rest more left from to one other (lexical part fault is faults) there cuts same =
      let none = none_at from to more (λ lexeme follows. exact.no_token_and_fault source from lexeme fault follows faults) cuts in
      alike_lexical rest left from to one other fault part is faults there none.1 (self_append rest more left none.0 same)
  alike rest more left from to one other (stray empty lexeme follows closed three) there cuts same =
      alike_stray more left from to one other lexeme follows closed three there cuts (none_append rest more left empty same)
  alike rest more left from to one other (short begun ends three) there cuts same =
      let none = none_at from to more (λ lexeme follows. exact.no_token_at_end source from lexeme follows ends) cuts in
      alike_short rest left from to one other begun ends three there none.1 (self_append rest more left none.0 same)
  alike rest more left from to one other (faulty whole fault) there cuts same = alike_faulty rest more left to one other whole fault there same

  -- of two refusals, the second where the first is or after
  faults_alike : (items others : List Item) (one other : Refusal) → (here : IsStreamFault source items one) → (there : IsStreamFault source others other)
      → GoesOn source (here.front ++ here.rest) (there.front ++ there.rest) here.from there.from → (items ≡ others) × (one ≡ other)
  faults_alike items others one other here there goes =
      let reason = why source here.rest here.from one here.refused in
      let another = why source there.rest there.from other there.refused in
      let same : here.front ++ (here.rest ++ goes.more) ≡ there.front ++ there.rest = sym (append_assoc here.front here.rest goes.more) ∙ sym goes.is in
      let none : NoItem there.rest = subst NoItem (append-nil there.rest) (refused_none there.rest [] there.from there.from other another refl) in
      let parts = items_one readings here.front there.front (here.rest ++ goes.more) there.rest items others here.before there.before
      (refused_none here.rest goes.more here.from there.from one reason goes.cuts) none same in
      (parts.same, alike here.rest goes.more there.rest here.from there.from one other reason another goes.cuts parts.following)

  -- a text is refused in one way, after the same items
  pub stream_faults_one : (items others : List Item) (one other : Refusal) → IsStreamFault source items one → IsStreamFault source others other → (items ≡ others) × (one ≡ other)
  stream_faults_one items others one other here there =
      elim (one_goes_on exact source 0 here.from there.from (here.front ++ here.rest) (there.front ++ there.rest) here.cuts there.cuts) [
        | inl goes ↦ faults_alike items others one other here there goes
        | inr goes ↦ let back = faults_alike others items other one there here goes in (sym back.0, sym back.1)
      ]

  -- if a text is refused its tokens are not all
  refused_goes_on : (rest more : List (Lexeme HoaKind)) (from to : ℕ) (refusal : Refusal) → Why source rest from refusal → Cuts hoa_format source from more to → hoa_format.ends source to → rest ++ more ≡ [] → ⊥
  refused_goes_on rest more from to refusal (lexical part fault is faults) cuts ends same =
      let none = none_at from to more (λ lexeme follows. exact.no_token_and_fault source from lexeme fault follows faults) cuts in
      exact.no_fault_at_end source from fault faults (subst (hoa_format.ends source) (sym none.1) ends)
  refused_goes_on rest [] from to refusal (stray empty lexeme follows closed three) cuts ends same =
      exact.no_token_at_end source from lexeme follows (subst (hoa_format.ends source) (sym cuts) ends)
  refused_goes_on rest (next ∷ more) from to refusal (stray empty lexeme follows closed three) cuts ends same =
      let clash : next ∷ more ≡ [] = none_append rest (next ∷ more) [] empty same in cc
  refused_goes_on rest more from to refusal (short begun stops three) cuts ends same =
      let none = none_at from to more (λ lexeme follows. exact.no_token_at_end source from lexeme follows stops) cuts in
      open_is_some rest begun (self_append rest more [] none.0 same)
  refused_goes_on rest more from to refusal (faulty whole fault) cuts ends same = segment_is_some End rest more whole same

  -- a stream is not refused
  pub stream_unrefused : (lexemes : List (Lexeme HoaKind)) (items others : List Item) (refusal : Refusal) → IsCut hoa_format source lexemes → IsStream lexemes items → IsStreamFault source others refusal → ⊥
  stream_unrefused lexemes items others refusal cut stream fault =
      let reason = why source fault.rest fault.from refusal fault.refused in
      let through : (more : List (Lexeme HoaKind)) (to : ℕ) → hoa_format.ends source to → Cuts hoa_format source fault.from more to → lexemes ≡ (fault.front ++ fault.rest) ++ more → ⊥ =
      λ more to ends cuts is.
      let parts = items_one readings fault.front lexemes (fault.rest ++ more) [] others items fault.before stream
      (refused_none fault.rest more fault.from to refusal reason cuts) none_at_end
      (sym (append_assoc fault.front fault.rest more) ∙ sym is ∙ sym (append-nil lexemes)) in
      refused_goes_on fault.rest more fault.from to refusal reason cuts ends parts.following in
      elim (one_goes_on exact source 0 fault.from cut.end (fault.front ++ fault.rest) lexemes fault.cuts cut.cuts) [
        | inl goes ↦ through goes.more cut.end cut.rest goes.cuts goes.is
        | inr goes ↦
            let none = none_at cut.end fault.from goes.more (λ lexeme follows. exact.no_token_at_end source cut.end lexeme follows cut.rest) goes.cuts in
            through [] fault.from (subst (hoa_format.ends source) none.1 cut.rest) refl
            (sym (goes.is ∙ ap (λ ls. lexemes ++ ls) none.0 ∙ append-nil lexemes) ∙ sym (append-nil (fault.front ++ fault.rest)))
      ]
