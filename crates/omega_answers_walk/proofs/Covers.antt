-- What is covered in a walk's text.
use Rattle.std.proofs.Common.{◌≡◌, ℕ, suc, ◌+◌, ◌-◌, ◌<◌, List, [], ◌∷◌, ◌++◌, length, get_or, drop, refl, sym, ap, ◌∙◌, append_assoc}
use Rattle.std.proofs.lemmas.List.{drop_more}
use Rattle.omega_answers_walk.specs.Covered.{covered, front_size, left_from, shown}
use Rattle.omega_answers_walk.specs.WalkTextLaws.{LassosStandAtTheirPlaces}

-- as many bytes are covered or left
covered_length : (left : ℕ) (bytes : List ℕ) → length (covered left bytes) ≡ length bytes
covered_length left [] = refl
covered_length left (byte ∷ rest) = ap suc (covered_length (left_from left (byte ∷ rest) - 1) rest)

pub same_length : LassosStandAtTheirPlaces
same_length source = covered_length (front_size source) source

-- one byte more
pub byte_covered : (bytes so_far : List ℕ) (at left : ℕ) → at < length bytes → covered (front_size bytes) bytes ≡ so_far ++ covered left (drop at bytes)
    → (now : ℕ) → now ≡ left_from left (drop at bytes)
    → covered (front_size bytes) bytes ≡ (so_far ++ shown now (get_or bytes at 0) ∷ []) ++ covered (now - 1) (drop (at + 1) bytes)
byte_covered bytes so_far at left inside said now is =
    let split : drop at bytes ≡ get_or bytes at 0 ∷ drop (at + 1) bytes = drop_more bytes at 0 inside in
    let here : now ≡ left_from left (get_or bytes at 0 ∷ drop (at + 1) bytes) = is ∙ ap (left_from left) split in
    said ∙ ap (λ (list : List ℕ). so_far ++ covered left list) split
    ∙ ap (λ (n : ℕ). so_far ++ shown n (get_or bytes at 0) ∷ covered (n - 1) (drop (at + 1) bytes)) (sym here)
    ∙ sym (append_assoc so_far (shown now (get_or bytes at 0) ∷ []) (covered (now - 1) (drop (at + 1) bytes)))
