-- A text that is held in memory, read up to the first byte past the limit.
use Rattle.std.proofs.Common.{◌≡◌, ◌⊎◌, ℕ, ◌+◌, ◌<◌, ◌≤◌, List, [], ◌∷◌, ◌++◌, length, append-nil, Option, None, Some, inl, inr, sym, ap, subst, ◌∙◌, arith}
use Rattle.std.proofs.lemmas.Bool.{cases_lt}
use Rattle.std.proofs.lemmas.List.{length-append}
use Rattle.omega_text.specs.Limits.{most_text}
use Rattle.omega_io.specs.Reading.{IsRead, ReadsText, ReadsWhole}

-- a text of at most one byte over the limit is read whole
read_whole : (input rest text : List ℕ) → length input ≤ most_text + 1 → IsRead (Some input) (Some rest) text → text ≡ input
read_whole input [] text short read = sym (read.consumed ∙ append-nil text)
read_whole input (byte ∷ bytes) text short read = absurd (go (cases_lt (length text) (most_text + 1)))
  where
    longer : length input ≡ length text + length (byte ∷ bytes)
    longer = ap length read.consumed ∙ length-append text (byte ∷ bytes)

    go : (length text < most_text + 1) ⊎ (most_text + 1 ≤ length text) → ⊥
    go (inl below) = let end : byte ∷ bytes ≡ [] = read.whole (omega (arith, below)) in cc
    go (inr past) = omega (arith, longer, past, short)

module _ (input : List ℕ) (short : length input ≤ most_text + 1) (Holds : List ℕ → Type 0) where
  -- what holds of the text that is read holds of the whole
  pub holds_of_read : (rest : Option (List ℕ)) → ReadsText (Some input) rest Holds → Holds input
  holds_of_read None h = absurd h.read.consumed
  holds_of_read (Some rest) h = subst Holds (read_whole input rest h.text short h.read) h.holds

  -- so does what holds of a text that is read to its end
  pub holds_of_whole : (rest : Option (List ℕ)) → ReadsWhole (Some input) rest Holds → Holds input
  holds_of_whole None h = absurd h.read
  holds_of_whole (Some rest) h =
      let same : h.text ≡ input = sym (h.read ∙ ap (λ (left : List ℕ). h.text ++ left) h.end ∙ append-nil h.text) in
      subst Holds same h.holds
