-- The text that is read of an input: the whole text, or the text up to the first byte past the limit.
use Rattle.std.specs.Prelude.{ℕ, ◌+◌, ◌≤◌, List, length, Option}
use Rattle.std.specs.Io.KnownBytes.{Consumes, IsAtEnd}
use Rattle.omega_text.specs.Limits.{most_text}
use Rattle.omega_io.specs.declared.input.Input as input

-- the input gave the text: up to its end, or up to the first byte past the limit
pub record IsRead (before after : Option (List ℕ)) (text : List ℕ) : Type 0 where
  pub consumed : Consumes before after text
  pub limit : length text ≤ most_text + 1
  pub whole : length text ≤ most_text → IsAtEnd after

-- the whole input was read, and this holds of its text
pub record ReadsWhole (before after : Option (List ℕ)) (Holds : List ℕ → Type 0) : Type 0 where
  pub text : List ℕ
  pub read : Consumes before after text
  pub end : IsAtEnd after
  pub holds : Holds text

-- the input was read, to its end or past the limit, and this holds of its text
pub record ReadsText (before after : Option (List ℕ)) (Holds : List ℕ → Type 0) : Type 0 where
  pub text : List ℕ
  pub read : IsRead before after text
  pub holds : Holds text

-- these bytes were read from an input, by its ghost members
abbrev pub ConsumesFrom : {R : Type 0} → input.Ghosts R → (old new : R) → List ℕ → Type 0
ConsumesFrom reading old new bytes = Consumes (reading.remaining old) (reading.remaining new) bytes

-- the same of a text, up to the end or the first byte past the limit
abbrev pub ReadsFrom : {R : Type 0} → input.Ghosts R → (old new : R) → List ℕ → Type 0
ReadsFrom reading old new text = IsRead (reading.remaining old) (reading.remaining new) text

-- the same of a whole text, and this holds of it
abbrev pub ReadsWholeFrom : {R : Type 0} → input.Ghosts R → (old new : R)
    → (List ℕ → Type 0) → Type 0
ReadsWholeFrom reading old new Holds =
    ReadsWhole (reading.remaining old) (reading.remaining new) Holds

-- the same of a text up to the end or past the limit, and this holds of it
abbrev pub ReadsTextFrom : {R : Type 0} → input.Ghosts R → (old new : R) → (List ℕ → Type 0) → Type 0
ReadsTextFrom reading old new Holds = ReadsText (reading.remaining old) (reading.remaining new) Holds
