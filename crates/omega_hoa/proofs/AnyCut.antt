-- How a text is cut into pieces changes nothing.
use Rattle.std.proofs.Common.{◌≡◌, ℕ, Option, Some, None, List, [], ◌∷◌, ◌++◌, ◌∙◌, sym, ap, subst, inl, inr, append-nil, append_assoc, refl}
use Rattle.std.specs.Prelude.{MatchOption}
use Rattle.omega_text.specs.Cut.{CutsAreOne}
use Rattle.omega_text.specs.Format.{GoesOneWay}
use Rattle.omega_text.specs.hoa.Format.{hoa_format}
use Rattle.omega_text.specs.declared.refusal.Refusal.{Refusal}
use Rattle.omega_text.specs.declared.refusal.Refusal.TheVariants.{Text}
use Rattle.omega_text.specs.declared.refusal.text.TextFault.TheVariants.{TooLong}
use Rattle.omega_hoa.specs.Feeding.{IsFed, IsRefusedSoFar, IsTaken}
use Rattle.omega_hoa.specs.Kept.{Kept}
use Rattle.omega_hoa.specs.Laws.{CutsChangeNothing, IsAnsweredAtEnd, PiecesAreFed, PiecesChangeNothing, TakesPieces, bytes_of}
use Rattle.omega_hoa.specs.Stream.{IsStream, IsStreamFault, IsStreamText}
use Rattle.omega_hoa.specs.declared.item.Item.{Item}
use Rattle.omega_hoa.proofs.OneStream.{stream_faults_one, stream_unrefused, streams_one}
use Rattle.omega_hoa.proofs.Readings.{Readings}

-- the bytes are a stream with these items, or refused after them
abbrev IsEnd : List ℕ → List Item → Option Refusal → Type 0
IsEnd seen items None = IsStreamText seen items
IsEnd seen items (Some refusal) = IsStreamFault seen items refusal

-- bytes that are refused however they go on are refused
refused_now : (seen : List ℕ) (items : List Item) (kept : Kept) (refusal : Refusal) → (refusal ≡ Text TooLong → ⊥) → IsRefusedSoFar seen items kept refusal → IsStreamFault seen items refusal
refused_now seen items kept refusal within so_far = elim so_far [
  | inl long ↦ absurd (within long.0)
  | inr always ↦ subst (λ source. IsStreamFault source items refusal) (append-nil seen) (always [])
]

-- what was refused before, or what the end refuses
refused_at_end : (seen : List ℕ) (items : List Item) (kept : Kept) (refusal : Refusal) (before : Option Refusal) → (refusal ≡ Text TooLong → ⊥)
    → MatchOption before (IsTaken seen items kept) (IsRefusedSoFar seen items kept) → MatchOption before (IsStreamFault seen items refusal) (λ said. refusal ≡ said) → IsStreamFault seen items refusal
refused_at_end seen items kept refusal None within fed answered = answered
refused_at_end seen items kept refusal (Some said) within fed answered =
    refused_now seen items kept refusal within (subst (IsRefusedSoFar seen items kept) (sym answered) fed)

ended : (seen : List ℕ) (items : List Item) (kept : Kept) (answer : Option Refusal) → (answer ≡ Some (Text TooLong) → ⊥) → IsFed seen items kept → IsAnsweredAtEnd seen items kept answer → IsEnd seen items answer
ended seen items kept None within fed answered = answered
ended seen items kept (Some refusal) within fed answered =
    refused_at_end seen items kept refusal kept.refused (λ long. within (ap (λ said. Some said) long)) fed answered

-- pieces that were taken after others
taken_after : (pieces : List (List ℕ)) (old new : Kept) (seen : List ℕ) (before items : List Item) → IsFed seen before old → TakesPieces old pieces items new
    → IsFed (seen ++ bytes_of pieces) (before ++ items) new
taken_after [] old new seen before items fed taken =
    subst (λ kept. IsFed (seen ++ []) (before ++ items) kept) taken.0
    (subst (λ bytes. IsFed bytes (before ++ items) old) (sym (append-nil seen))
    (subst (λ all. IsFed seen all old) (sym (ap (λ list. before ++ list) taken.1 ∙ append-nil before)) fed))
taken_after (piece ∷ pieces) old new seen before items fed taken =
    subst (λ bytes. IsFed bytes (before ++ items) new) (append_assoc seen piece (bytes_of pieces))
    (subst (λ all. IsFed ((seen ++ piece) ++ bytes_of pieces) all new) (append_assoc before taken.1 taken.2 ∙ sym (ap (λ list. before ++ list) taken.5))
    (taken_after pieces taken.0 new (seen ++ piece) (before ++ taken.1) taken.2 (taken.3 seen before fed) taken.4))

pub pieces_are_fed : PiecesAreFed
pieces_are_fed pieces items kept fed = taken_after pieces fed.empty kept [] [] items fed.fresh fed.taken

module _ (readings : Readings) (exact : GoesOneWay hoa_format) (cuts_one : CutsAreOne hoa_format) (seen : List ℕ) where
  ends_one : (items others : List Item) (one other : Option Refusal) → IsEnd seen items one → IsEnd seen others other → (items ≡ others) × (one ≡ other)
  ends_one items others None None here there = (
    streams_one readings there.lexemes items others (subst (λ ls. IsStream ls items) (cuts_one seen here.lexemes there.lexemes here.cut there.cut) here.stream) there.stream,
    refl,
  )
  ends_one items others None (Some other) here there = absurd (stream_unrefused readings exact seen here.lexemes items others other here.cut here.stream there)
  ends_one items others (Some one) None here there = absurd (stream_unrefused readings exact seen there.lexemes others items one there.cut there.stream here)
  ends_one items others (Some one) (Some other) here there =
      let same = stream_faults_one readings exact seen items others one other here there in (same.0, ap (λ said. Some said) same.1)

  pub cuts_change_nothing : (items others : List Item) (kept left : Kept) (one other : Option Refusal) → IsFed seen items kept → IsFed seen others left
      → (one ≡ Some (Text TooLong) → ⊥) → (other ≡ Some (Text TooLong) → ⊥) → IsAnsweredAtEnd seen items kept one → IsAnsweredAtEnd seen others left other
      → (items ≡ others) × (one ≡ other)
  cuts_change_nothing items others kept left one other fed feeds within short here there =
      ends_one items others one other (ended seen items kept one within fed here) (ended seen others left other short feeds there)

-- so it is of lists of pieces
pub pieces_change_nothing : CutsChangeNothing → PiecesChangeNothing
pieces_change_nothing alike pieces recut items others kept left one other same fed feeds within short here there =
    alike (bytes_of pieces) items others kept left one other (pieces_are_fed pieces items kept fed)
    (subst (λ seen. IsFed seen others left) (sym same) (pieces_are_fed recut others left feeds)) within short here
    (subst (λ seen. IsAnsweredAtEnd seen others left other) (sym same) there)
