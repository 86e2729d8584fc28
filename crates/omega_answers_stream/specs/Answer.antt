-- An answer to a question, and the refusals that a question may have.
use Rattle.std.specs.Prelude.{◌≡◌, ℕ, Bool, List, ◌++◌}
use Rattle.omega_text.specs.declared.refusal.Refusal.{Refusal}
use Rattle.omega_text.specs.declared.refusal.Refusal.TheVariants.{Io}

-- an answer: its text, and whether it is `no`
pub record Answer : Type 0 where
  pub text : List ℕ
  pub no : Bool

-- the text of an answer of which this holds was appended
pub record AppendsAnswer (Holds : Answer → Type 0) (old new : List ℕ) (no : Bool) : Type 0 where
  pub text : List ℕ
  pub appended : new ≡ old ++ text
  pub holds : Holds (record { text = text; no = no })

-- no failed read or write, but one of the others
abbrev pub not_io : (Refusal → Type 0) → Refusal → Type 0
not_io others Io = ⊥
not_io others refusal = others refusal
