-- What standard error took of a text that is written line by line.
use Rattle.std.specs.Prelude.{◌≡◌, ◌-◌, ◌^◌, ◌<◌, ◌≤◌, List, Option, ℕ}
use Rattle.omega_io.specs.Writing.{Tells}

-- the output took this text after an earlier one, or nothing if a write of that failed: a failed write breaks the text
-- off
pub record TellsOn (sound : ℕ) (before after : Option (List ℕ)) (failed_before failed_after : ℕ)
    (text : List ℕ) : Type 0 where
  pub counted : failed_before ≤ failed_after
  pub reported : failed_before ≡ sound → sound < 2 ^ 64 - 1
      → Tells before after failed_before failed_after text
  pub silent : sound < failed_before → (after ≡ before) × (failed_after ≡ failed_before)

-- the output took the text, or a beginning of it if one of its writes failed
pub record HasReported (before after : Option (List ℕ)) (failed_before failed_after : ℕ)
    (text : List ℕ) : Type 0 where
  pub counted : failed_before ≤ failed_after
  pub reported : Tells before after failed_before failed_after text
