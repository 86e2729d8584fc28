-- Bytes that are followed piece by piece.
use Rattle.std.proofs.Common.{◌≡◌, ℕ, ◌+◌, ◌-◌, ◌≤◌, List, [], ◌++◌, length, take, drop, sym, ap, subst, ◌∙◌, arith, append_assoc, append-nil, length-append}
use Rattle.std.proofs.Math.Seq.{take-add}
use Rattle.std.proofs.lemmas.List.{take-append-drop}
use Rattle.omega_text.specs.Limits.{most_text}
use Rattle.omega_hoa.specs.declared.item.Item.{Item}
use Rattle.omega_answers_stream.specs.declared.asked.Asked.{Asked}
use Rattle.omega_answers_stream.specs.declared.asking.Asking.{Asking}
use Rattle.omega_answers_stream.specs.private.steps.Following.{FollowsAsking, FollowsPiece, FollowsSome, FollowsWithin}

-- the bytes up to a place, and those up to the next
read_up_to : (seen bytes : List ℕ) (from to : ℕ) → from ≤ to → (seen ++ take from bytes) ++ take (to - from) (drop from bytes) ≡ seen ++ take to bytes
read_up_to seen bytes from to forward =
    let all : from + (to - from) ≡ to = omega arith in
    append_assoc seen (take from bytes) (take (to - from) (drop from bytes))
    ∙ ap (λ bs. seen ++ bs) (sym (take-add from (to - from) bytes) ∙ ap (λ n. take n bytes) all)

-- no bytes change nothing
pub follows_nothing : (Holds : List Item → Asked → Type 0) (asking : Asking) → FollowsPiece Holds [] asking asking
follows_nothing Holds asking seen short follows = subst (λ all. FollowsAsking Holds all asking) (sym (append-nil seen)) follows

module _ (Holds : List Item → Asked → Type 0) (bytes : List ℕ) where
  -- the bytes up to a place were followed, and then those up to the next
  pub follows_more : (from to : ℕ) (old now after : Asking) → from ≤ to
      → FollowsPiece Holds (take from bytes) old now → FollowsPiece Holds (take (to - from) (drop from bytes)) now after
      → FollowsPiece Holds (take to bytes) old after
  follows_more from to old now after forward first then seen short follows =
      let front = seen ++ take from bytes in
      let joined = read_up_to seen bytes from to forward in
      let sizes = ap length joined in
      let within : length front + length (take (to - from) (drop from bytes)) ≤ most_text =
      omega (arith, sizes, length-append front (take (to - from) (drop from bytes)), length-append seen (take to bytes), short) in
      subst (λ all. FollowsAsking Holds all after) joined
      (then front within (first seen (omega (arith, within, length-append seen (take from bytes))) follows))

  -- the bytes up to a place were followed, and then the rest
  pub follows_rest : (from : ℕ) (old now after : Asking)
      → FollowsPiece Holds (take from bytes) old now → FollowsPiece Holds (drop from bytes) now after
      → FollowsPiece Holds bytes old after
  follows_rest from old now after first then seen short follows =
      let front = seen ++ take from bytes in
      let joined : front ++ drop from bytes ≡ seen ++ bytes = append_assoc seen (take from bytes) (drop from bytes) ∙ ap (λ bs. seen ++ bs) (take-append-drop from bytes) in
      let within : length front + length (drop from bytes) ≤ most_text =
      omega (arith, ap length joined, length-append front (drop from bytes), length-append seen bytes, short) in
      subst (λ all. FollowsAsking Holds all after) joined
      (then front within (first seen (omega (arith, within, length-append seen (take from bytes))) follows))

  -- what follows the bytes up to a place stays within the limit
  pub rest_within : (from : ℕ) (old now : Asking) → FollowsWithin Holds (length bytes) old
      → FollowsPiece Holds (take from bytes) old now → FollowsWithin Holds (length (drop from bytes)) now
  rest_within from old now some first =
      let front = some.0 ++ take from bytes in
      let joined : front ++ drop from bytes ≡ some.0 ++ bytes = append_assoc some.0 (take from bytes) (drop from bytes) ∙ ap (λ bs. some.0 ++ bs) (take-append-drop from bytes) in
      let within : length front + length (drop from bytes) ≤ most_text =
      omega (arith, ap length joined, length-append front (drop from bytes), length-append some.0 bytes, some.1) in
      (front, within, first some.0 (omega (arith, within, length-append some.0 (take from bytes))) some.2)

  -- so something is followed
  pub some_follow : (from : ℕ) (old now : Asking) → FollowsWithin Holds (length bytes) old
      → FollowsPiece Holds (take from bytes) old now → FollowsSome Holds now
  some_follow from old now some first =
      let rest = rest_within from old now some first in (rest.0, rest.2)
