-- The text that an output took, or a beginning of it if a write failed.
use Rattle.std.specs.Prelude.{◌≡◌, ◌<◌, ℕ, List, length, take, Option}
use Rattle.std.specs.Io.KnownBytes.{Appends}
use Rattle.omega_io.specs.declared.output.Output as output

-- the output took a beginning of the text, and not all of it
pub record WritesBeginning (before after : Option (List ℕ)) (text : List ℕ) : Type 0 where
  pub count : ℕ
  pub less : count < length text
  pub taken : Appends before after (take count text)

-- the output took the text, or a beginning if one of its writes failed
pub record Tells (before after : Option (List ℕ)) (failed_before failed_after : ℕ)
    (text : List ℕ) : Type 0 where
  pub whole : failed_after ≡ failed_before → Appends before after text
  pub beginning : failed_before < failed_after → WritesBeginning before after text

-- the same of an output, by its ghost members
abbrev pub TellsTo : {W : Type 0} → output.Ghosts W → (old new : W) → List ℕ → Type 0
TellsTo writing old new text = Tells (writing.contents old) (writing.contents new)
    (writing.failed old) (writing.failed new) text
