-- What was asked of the items of a stream's bytes, with a piece more, and at its end.
use Rattle.std.proofs.Common.{◌≡◌, ℕ, ◌+◌, ◌≤◌, ◌⊎◌, List, [], ◌∷◌, ◌++◌, Option, None, Some, length, refl, sym, ap, subst, ◌∙◌, inl, inr, arith, append_assoc, append-nil, length-append}
use Rattle.std.specs.Prelude.{IfSome, MatchOption, Result, Err, Ok}
use Rattle.omega_text.specs.Cut.{Cuts}
use Rattle.omega_text.specs.Format.{TextFormat, GoesOneWay}
use Rattle.omega_text.specs.Lexeme.{Lexeme}
use Rattle.omega_text.specs.Limits.{most_text}
use Rattle.omega_text.specs.hoa.Format.{hoa_format}
use Rattle.omega_text.specs.declared.hoa.kind.HoaKind.{HoaKind}
use Rattle.omega_text.specs.declared.hoa.kind.HoaKind.TheVariants.{Abort, End}
use Rattle.omega_text.specs.declared.refusal.Refusal.{Refusal}
use Rattle.omega_text.specs.declared.refusal.Refusal.TheVariants.{Memory}
use Rattle.omega_hoa.specs.Feeding.{IsFed, IsRefusedSoFar, IsRefusedThen, IsTaken, TakesPiece}
use Rattle.omega_hoa.specs.Kept.{Kept}
use Rattle.omega_hoa.specs.Stream.{IsItemOf, IsSegment, IsStream, IsStreamFault, IsStreamRefusal, IsStreamText}
use Rattle.omega_hoa.specs.declared.item.Item.{Item}
use Rattle.omega_hoa.specs.declared.item.Item.TheVariants.{Aborted, Automaton}
use Rattle.omega_hoa.proofs.Wholes.{errors_are_one}
use Rattle.omega_answers_stream.specs.declared.asked.Asked.{Asked}
use Rattle.omega_answers_stream.specs.private.steps.Following.{AreRefusedBy, AsksItems, AsksMore}

-- as many bytes as tokens lie between the ends of a cut
pub cut_count : {Kind : Type 0} (format : TextFormat Kind) → GoesOneWay format → (source : List ℕ) (from to : ℕ) (lexemes : List (Lexeme Kind)) → Cuts format source from lexemes to
    → from + length lexemes ≤ to
cut_count format exact source from to [] cuts = omega (arith, cuts)
cut_count format exact source from to (lexeme ∷ lexemes) cuts =
    let here = exact.following source from lexeme cuts.0 in
    let rest = cut_count format exact source lexeme.span.end to lexemes cuts.1 in
    omega (arith, here.forward, here.nonempty, rest)

-- a segment has a token
segment_count : (mark : HoaKind) (lexemes : List (Lexeme HoaKind)) → IsSegment mark lexemes → 1 ≤ length lexemes
segment_count mark lexemes segment = omega (arith, ap length segment.split, length-append segment.inside (segment.last ∷ []))

-- the tokens of an item are some
item_count : (lexemes : List (Lexeme HoaKind)) (item : Item) → IsItemOf lexemes item → 1 ≤ length lexemes
item_count lexemes (Automaton automaton) is = segment_count End lexemes is.0
item_count lexemes Aborted is = segment_count Abort lexemes is

-- a stream has no more items than tokens
stream_count : (lexemes : List (Lexeme HoaKind)) (items : List Item) → IsStream lexemes items → length items ≤ length lexemes
stream_count lexemes [] is = omega arith
stream_count lexemes (item ∷ items) (segment, rest, split, here, others) =
    omega (arith, ap length split, length-append segment rest, item_count segment item here, stream_count rest items others)

-- a stream has no more items than bytes
pub items_within : GoesOneWay hoa_format → (seen : List ℕ) (items : List Item) (kept : Kept) → IsTaken seen items kept → length items ≤ length seen
items_within exact seen items kept taken =
    let front = taken.divided.front in
    let cut = cut_count hoa_format exact (seen ++ []) 0 kept.begins front (taken.divided.cuts []) in
    omega (arith, cut, stream_count front items taken.divided.before, taken.total)

-- ---- what a call of the stream says of what it keeps

-- an answer is no refusal
pub ok_no_error : {A : Type 0} (value : A) (refusal : Refusal) → ◌≡◌ {A = Result A Refusal} (Ok value) (Err refusal) → ⊥
ok_no_error value refusal is = cc

-- a stream that takes a piece had refused nothing
pub unrefused : {A : Type 0} (refused : Option Refusal) (value : A) (Says : Refusal → Type 0)
    → ((refusal : Refusal) → Says refusal → ◌≡◌ {A = Result A Refusal} (Ok value) (Err refusal)) → IfSome refused Says → refused ≡ None
unrefused None value Says errs says = refl
unrefused (Some refusal) value Says errs says = absurd (ok_no_error value refusal (errs refusal says))

-- a stream that had refused answers what it keeps
pub same_as_before : {A : Type 0} (refused : Option Refusal) (refusal : Refusal) (Says : Refusal → Type 0)
    → ((before : Refusal) → Says before → ◌≡◌ {A = Result A Refusal} (Err refusal) (Err before)) → IfSome refused Says → IfSome refused (λ before. refusal ≡ before)
same_as_before None refusal Says errs says = tt
same_as_before (Some before) refusal Says errs says = errors_are_one refusal before (errs before says)

-- a refusal other than for memory is kept
pub kept_refusal : (refused : Option Refusal) (refusal : Refusal) → (refusal ≡ Memory → ⊥) → (refusal ≡ Memory) ⊎ (refused ≡ Some refusal) → refused ≡ Some refusal
kept_refusal refused refusal other kept = elim kept [ inl memory ↦ absurd (other memory) | inr is ↦ is ]

-- bytes that are refused however they go on are refused with more after them
refused_more : (seen piece : List ℕ) (refusal : Refusal) → AreRefusedBy seen refusal → AreRefusedBy (seen ++ piece) refusal
refused_more seen piece refusal refused more =
    let found = refused (piece ++ more) in
    (found.0, subst (λ source. IsStreamFault source found.0 refusal) (sym (append_assoc seen piece more)) found.1)

module _ (Holds : List Item → Asked → Type 0) (seen : List ℕ) (kept : Kept) (count : ℕ) (asked : Asked) (follows : MatchOption kept.refused (AsksItems Holds seen kept count asked) (AreRefusedBy seen)) where
  -- what was asked if no bytes were refused
  asks_of : kept.refused ≡ None → AsksItems Holds seen kept count asked
  asks_of none = subst (λ refused. MatchOption refused (AsksItems Holds seen kept count asked) (AreRefusedBy seen)) none follows

  -- the bytes were taken then
  taken_of : kept.refused ≡ None → (asks : AsksItems Holds seen kept count asked) → IsTaken seen asks.items kept
  taken_of none asks = subst (λ refused. MatchOption refused (IsTaken seen asks.items kept) (IsRefusedSoFar seen asks.items kept)) none asks.fed

  -- a piece stays within the limit
  pub piece_fits : kept.refused ≡ None → (more : ℕ) → length seen + more ≤ most_text → kept.begins + length kept.bytes + more ≤ most_text
  piece_fits none more fits =
      let taken = taken_of none (asks_of none) in omega (arith, taken.total, fits)

  -- ---- the end

  -- the items of the whole text were asked
  pub ends_asked : kept.refused ≡ None → ((items : List Item) → IsFed seen items kept → IsStreamText seen items)
      → (items : List Item) × IsStreamText seen items × Holds items asked
  ends_asked none ends =
      let asks = asks_of none in (asks.items, ends asks.items asks.fed, asks.holds)

  ends_refused_by : (refused : Option Refusal) (refusal : Refusal) → kept.refused ≡ refused → length seen ≤ most_text
      → (kept.refused ≡ None → (items : List Item) → IsFed seen items kept → IsStreamFault seen items refusal)
      → IfSome refused (λ before. refusal ≡ before)
      → IsStreamRefusal seen refusal
  ends_refused_by None refusal is short ends before =
      let asks = asks_of is in inr (short, (asks.items, ends is asks.items asks.fed))
  ends_refused_by (Some earlier) refusal is short ends before =
      let refused : AreRefusedBy seen earlier = subst (λ state. MatchOption state (AsksItems Holds seen kept count asked) (AreRefusedBy seen)) is follows in
      let found = refused [] in
      let fault : IsStreamFault seen found.0 refusal = subst (IsStreamFault seen found.0) (sym before) (subst (λ source. IsStreamFault source found.0 earlier) (append-nil seen) found.1) in
      inr (short, (found.0, fault))

  -- the text is refused at its end, or was before
  pub ends_refused : (refusal : Refusal) → length seen ≤ most_text
      → (kept.refused ≡ None → (items : List Item) → IsFed seen items kept → IsStreamFault seen items refusal)
      → IfSome kept.refused (λ before. refusal ≡ before)
      → IsStreamRefusal seen refusal
  ends_refused refusal short ends before = ends_refused_by kept.refused refusal refl short ends before

  -- ---- a piece more

  module _ (piece : List ℕ) (before given : List Item) (after : Kept) (empty : before ≡ []) where
    -- the piece was taken, and its items asked
    pub follows_taken : (next : Asked) → kept.refused ≡ None → after.refused ≡ None
        → (added : List Item) × (given ≡ before ++ added) × TakesPiece kept piece added after
        → AsksMore Holds count given asked next
        → MatchOption after.refused (AsksItems Holds (seen ++ piece) after (count + length given) next) (AreRefusedBy (seen ++ piece))
    follows_taken next none still takes more =
        let asks = asks_of none in
        let added = takes.0 in
        let is : given ≡ added = takes.1 ∙ ap (λ front. front ++ added) empty in
        let now : AsksItems Holds (seen ++ piece) after (count + length given) next = record {
          items = asks.items ++ added;
          fed = takes.2 seen asks.items asks.fed;
          counted = omega (arith, asks.counted, ap length is, length-append asks.items added);
          holds = subst (λ items. Holds (asks.items ++ items) next) is (more asks.items asks.counted asks.holds);
        } in
        subst (λ refused. MatchOption refused (AsksItems Holds (seen ++ piece) after (count + length given) next) (AreRefusedBy (seen ++ piece))) (sym still) now

    -- the number of items is then far from the greatest number
    pub count_within : GoesOneWay hoa_format → kept.refused ≡ None → after.refused ≡ None
        → (added : List Item) × (given ≡ before ++ added) × TakesPiece kept piece added after
        → count + length given ≤ most_text
    count_within exact none still takes =
        let asks = asks_of none in
        let added = takes.0 in
        let is : given ≡ added = takes.1 ∙ ap (λ front. front ++ added) empty in
        let all = asks.items ++ added in
        let now : IsTaken (seen ++ piece) all after = subst (λ refused. MatchOption refused (IsTaken (seen ++ piece) all after) (IsRefusedSoFar (seen ++ piece) all after)) still (takes.2 seen asks.items asks.fed) in
        omega (arith, asks.counted, ap length is, length-append asks.items added, items_within exact (seen ++ piece) all after now, now.short)

    -- the piece is refused, or those before were
    refused_now : (refused : Option Refusal) (refusal : Refusal) → kept.refused ≡ refused → (refusal ≡ Memory → ⊥)
        → (kept.refused ≡ None → (items : List Item) → IsFed seen items kept → IsRefusedThen (seen ++ piece) before given items refusal)
        → IfSome refused (λ before. refusal ≡ before)
        → AreRefusedBy (seen ++ piece) refusal
    refused_now None refusal is other refuses same =
        let asks = asks_of is in
        elim (refuses is asks.items asks.fed) [
          | inl memory ↦ absurd (other memory)
          | inr refused ↦ λ more. (asks.items ++ refused.added, refused.holds more)
        ]
    refused_now (Some earlier) refusal is other refuses same =
        let refused : AreRefusedBy seen earlier = subst (λ state. MatchOption state (AsksItems Holds seen kept count asked) (AreRefusedBy seen)) is follows in
        refused_more seen piece refusal (subst (AreRefusedBy seen) (sym same) refused)

    -- what follows then
    pub follows_refused : (number : ℕ) (next : Asked) (refusal : Refusal) → after.refused ≡ Some refusal → (refusal ≡ Memory → ⊥)
        → (kept.refused ≡ None → (items : List Item) → IsFed seen items kept → IsRefusedThen (seen ++ piece) before given items refusal)
        → IfSome kept.refused (λ before. refusal ≡ before)
        → MatchOption after.refused (AsksItems Holds (seen ++ piece) after number next) (AreRefusedBy (seen ++ piece))
    follows_refused number next refusal is other refuses same =
        subst (λ refused. MatchOption refused (AsksItems Holds (seen ++ piece) after number next) (AreRefusedBy (seen ++ piece))) (sym is)
        (refused_now kept.refused refusal refl other refuses same)
