-- Labels judged at 64 letters at once: each lane of a word, a bit, has one of the letters of a block.
use Rattle.std.specs.Prelude.{◌≡◌, ◌↔◌, ℕ, ◌+◌, ◌*◌, ◌^◌, ◌<◌, ◌==◌, Bool}
use Rattle.std.specs.Prelude.{true, false, IsTrue, List, [], ◌∷◌, length}
use Rattle.std.specs.Int.{bit_at}
use Rattle.std.specs.List.{list_any}
use Rattle.omega_hoa_label.specs.Label.{LabelTree, propositions}
use Rattle.omega_synth_game.specs.Answering.{CanAnswer}
use Rattle.omega_synth_controllers.specs.Strategies.{is_controlled}
use Rattle.omega_synth_game.specs.Letters.{holds_in, letter_numbered}

-- the most propositions of the system in a label whose valuations are all tried
abbrev pub most_free : ℕ
most_free = 8

-- whether a proposition is one of some
abbrev pub is_one_of : List ℕ → ℕ → Bool
is_one_of numbers p = list_any (λ q. q == p) numbers

-- each of the numbers occurs once
abbrev pub AreApart : List ℕ → Type 0
AreApart [] = Unit {0}
AreApart (number ∷ numbers) = (is_one_of numbers number ≡ false) × AreApart numbers

-- the inputs, each once, are the environment's, and all of its propositions that the label mentions
pub record AreInputsFor (controlled inputs : List ℕ) (label : LabelTree) : Type 0 where
  pub apart : AreApart inputs
  pub given : (p : ℕ) → is_one_of inputs p ≡ true → is_controlled controlled p ≡ false
  pub covers : (p : ℕ) → is_controlled controlled p ≡ false → is_one_of (propositions label) p ≡ true
      → is_one_of inputs p ≡ true

-- whether a lane of a word is set
abbrev pub is_set : ℕ → ℕ → Bool
is_set word lane = bit_at word lane == 1

-- a lane is set exactly if it is, or one that comes by a multiple of the count of letters after it, in another word
abbrev pub IsFolded : ℕ → ℕ → ℕ → ℕ → Type 0
IsFolded letters shares word folded = (lane : ℕ) → IsTrue (is_set folded lane)
    ↔ ((share : ℕ) × (share < shares) × IsTrue (is_set word (lane + letters * share)))

-- in the lane of each letter over the inputs a word says whether the label can answer the letter
abbrev pub IsAnswerWord : List ℕ → List ℕ → ℕ → LabelTree → ℕ → Type 0
IsAnswerWord controlled inputs block label word =
    (lane : ℕ) → lane < 64 → block * 64 + lane < 2 ^ length inputs → IsTrue (is_set word lane)
    ↔ CanAnswer controlled label (holds_in (letter_numbered inputs (block * 64 + lane)))
