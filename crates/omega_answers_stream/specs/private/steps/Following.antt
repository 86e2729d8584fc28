-- What was asked of the items of a stream whose bytes were taken so far.
use Rattle.std.specs.Io.KnownBytes.{Consumes}
use Rattle.std.specs.Prelude.{◌≡◌, ℕ, ◌+◌, ◌≤◌, List, ◌++◌, Option, length, MatchOption}
use Rattle.omega_text.specs.Limits.{most_text}
use Rattle.omega_text.specs.declared.refusal.Refusal.{Refusal}
use Rattle.omega_hoa.specs.Feeding.{IsFed}
use Rattle.omega_hoa.specs.Kept.{Kept}
use Rattle.omega_hoa.specs.Stream.{IsStreamFault, IsStreamRefusal, IsStreamText}
use Rattle.omega_hoa.specs.declared.item.Item.{Item}
use Rattle.omega_answers_stream.specs.declared.asked.Asked.{Asked}
use Rattle.omega_answers_stream.specs.declared.asking.Asking.{Asking}

-- the stream took the bytes, and this holds of the `count` items of their whole segments
pub record AsksItems (Holds : List Item → Asked → Type 0) (seen : List ℕ) (kept : Kept) (count : ℕ)
    (asked : Asked) : Type 0 where
  pub items : List Item
  pub fed : IsFed seen items kept
  pub counted : count ≡ length items
  pub holds : Holds items asked

-- the bytes are refused however they go on
abbrev pub AreRefusedBy : List ℕ → Refusal → Type 0
AreRefusedBy seen refusal =
    (more : List ℕ) → (items : List Item) × IsStreamFault (seen ++ more) items refusal

-- the bytes were taken and their items asked, or what the stream keeps refuses them
abbrev pub FollowsAsking : (List Item → Asked → Type 0) → List ℕ → Asking → Type 0
FollowsAsking Holds seen asking = MatchOption asking.stream.refused
    (AsksItems Holds seen asking.stream asking.count asking.asked) (AreRefusedBy seen)

-- `total` bytes were read, and if they are within the limit, this holds of them
pub record IsReading (Holds : List Item → Asked → Type 0) (before now : Option (List ℕ)) (total : ℕ)
    (asking : Asking) : Type 0 where
  pub seen : List ℕ
  pub consumed : Consumes before now seen
  pub count : total ≡ length seen
  pub follows : total ≤ most_text → FollowsAsking Holds seen asking

-- the same of bytes from some place on
abbrev pub IsReadingSome : (List Item → Asked → Type 0) → (now : Option (List ℕ)) → ℕ → Asking → Type 0
IsReadingSome Holds now total asking =
    (before : Option (List ℕ)) × IsReading Holds before now total asking

-- after a first number of bytes, wherever they began, more were read, up to another number in all
abbrev pub ReadsOn : (List Item → Asked → Type 0) → (now after : Option (List ℕ)) → (first all : ℕ)
    → (old new : Asking) → Type 0
ReadsOn Holds now after first all old new = (before : Option (List ℕ))
    → IsReading Holds before now first old → IsReading Holds before after all new

-- this holds of some bytes, and with so many more they are within the limit of texts
abbrev pub FollowsWithin : (List Item → Asked → Type 0) → ℕ → Asking → Type 0
FollowsWithin Holds more asking =
    (seen : List ℕ) × (length seen + more ≤ most_text) × FollowsAsking Holds seen asking

-- this holds of some bytes
abbrev pub FollowsSome : (List Item → Asked → Type 0) → Asking → Type 0
FollowsSome Holds asking = (seen : List ℕ) × FollowsAsking Holds seen asking

-- with one more piece this holds of the bytes before and of those of the piece, within the limit of texts
abbrev pub FollowsPiece : (List Item → Asked → Type 0) → List ℕ → (old new : Asking) → Type 0
FollowsPiece Holds piece old new =
    (seen : List ℕ) → length seen + length piece ≤ most_text → FollowsAsking Holds seen old
    → FollowsAsking Holds (seen ++ piece) new

-- these items were asked after those before, the first of them with this number
abbrev pub AsksMore : (List Item → Asked → Type 0) → ℕ → List Item → (old new : Asked) → Type 0
AsksMore Holds first items old new =
    (before : List Item) → first ≡ length before → Holds before old → Holds (before ++ items) new

-- if the bytes end here, they are the text of a stream, and this holds of its items
abbrev pub EndsAsked : (List Item → Asked → Type 0) → Asking → Asked → Type 0
EndsAsked Holds asking asked =
    (seen : List ℕ) → FollowsAsking Holds seen asking
    → (items : List Item) × IsStreamText seen items × Holds items asked

-- if the bytes end here, they are refused so
abbrev pub EndsRefused : (List Item → Asked → Type 0) → Asking → Refusal → Type 0
EndsRefused Holds asking refusal = (seen : List ℕ) → length seen ≤ most_text
    → FollowsAsking Holds seen asking → IsStreamRefusal seen refusal
