-- The words of a command line, taken off its text one by one.
use Rattle.std.proofs.Common.{◌≡◌, ℕ, ◌+◌, ◌-◌, ◌<◌, ◌≤◌, Bool, true, false, cond, Some, None, List, [], ◌∷◌, ◌++◌, length, take, drop, refl, sym, ap, ◌∙◌, subst, arith}
use Rattle.std.specs.Prelude.{position}
use Rattle.std.specs.List.{after_first, before_first, position_or_len, slice_split}
use Rattle.std.proofs.lemmas.Bool.{ltb-false, ltb-true}
use Rattle.std.proofs.lemmas.List.{append_assoc, length-append, take-append-le, take_all}
use Rattle.std.proofs.lemmas.List.Splits.{length-slice_split, slice_split_first, slice_split_none}
use Rattle.std.proofs.lemmas.List.Sums.{fails_before_first}

-- a choice of something and nothing
cond-Some : {A : Type 0} (b : Bool) (x y : A) → cond b (Some x) None ≡ Some y → (b ≡ true) × (x ≡ y)
cond-Some true x y e = (refl, cc)
cond-Some false x y e = cc

cond-None : {A : Type 0} (b : Bool) (x : A) → cond b (Some x) None ≡ None → b ≡ false
cond-None true x e = cc
cond-None false x e = refl

-- the pieces of a text whose first byte that passes is at an index
pub split_at_first : (p : ℕ → Bool) (text : List ℕ) (end : ℕ) → position p text ≡ Some end
    → (end < length text) × (slice_split p text ≡ take end text ∷ slice_split p (drop (end + 1) text))
split_at_first p text end e =
    let found = cond-Some _ (position_or_len p text) end e in
    let inside : position_or_len p text < length text = ltb-true (position_or_len p text) (length text) found.0 in
    let split : slice_split p text ≡ before_first p text ∷ slice_split p (after_first p text) = slice_split_first p text 0 inside in (
      subst (λ (n : ℕ). n < length text) found.1 inside,
      subst (λ (n : ℕ). slice_split p text ≡ take n text ∷ slice_split p (drop (n + 1) text)) found.1 split,
    )

-- the pieces of a text none of whose bytes passes
pub split_none : (p : ℕ → Bool) (text : List ℕ) → position p text ≡ None → slice_split p text ≡ text ∷ []
split_none p text e =
    let past : length text ≤ position_or_len p text = ltb-false (position_or_len p text) (length text) (cond-None _ _ e) in
    slice_split_none p text (λ k d h. fails_before_first p text k d (omega arith))

-- there is a piece in each text
pub some_piece : (p : ℕ → Bool) (text : List ℕ) → 0 < length (slice_split p text)
some_piece p text = omega (arith, length-slice_split p text)

-- one word more is taken off the rest
pub one_word : (p : ℕ → Bool) (pieces words : List (List ℕ)) (rest word : List ℕ) (end : ℕ) → pieces ≡ words ++ slice_split p rest
    → position p rest ≡ Some end → word ≡ take end rest → pieces ≡ (words ++ word ∷ []) ++ slice_split p (drop (end + 1) rest)
one_word p pieces words rest word end so_far found is =
    so_far ∙ ap (λ (parts : List (List ℕ)). words ++ parts) ((split_at_first p rest end found).1)
    ∙ ap (λ (w : List ℕ). words ++ w ∷ slice_split p (drop (end + 1) rest)) (sym is)
    ∙ sym (append_assoc words (word ∷ []) (slice_split p (drop (end + 1) rest)))

-- all pieces but the last are those before it
pub all_but_last : (pieces names : List (List ℕ)) (last : List ℕ) → pieces ≡ names ++ last ∷ [] → names ≡ take (length pieces - 1) pieces
all_but_last pieces names last split =
    let count : length pieces - 1 ≡ length names = omega (ap length split, length-append names (last ∷ []), arith) in
    sym (ap (λ (n : ℕ). take n pieces) count ∙ ap (take (length names)) split ∙ take-append-le (length names) names (last ∷ []) (omega arith) ∙ take_all (length names) names (omega arith))
