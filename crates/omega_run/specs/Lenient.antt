-- Games, and solutions of them, that are read as other tools write them.
use Rattle.std.specs.Prelude.{◌≡◌, ◌+◌, List, ℕ, take}
use Rattle.omega_text.specs.Limits.{most_text}
use Rattle.omega_text.specs.declared.refusal.Refusal.{Refusal}
use Rattle.omega_cli_command.specs.declared.command.Command.{Command}
use Rattle.omega_io.specs.declared.refused.Refused.{Refused}
use Rattle.omega_io.specs.declared.refused.Which.TheVariants.{File, Input}
use Rattle.omega_io.specs.Refused.{IsRefusedOf}
use Rattle.omega_pg_lenient.specs.Refusing.{RefusesLenient}
use Rattle.omega_pg_lenient.specs.SolutionLines.{bare_text}
use Rattle.omega_pg_lenient.specs.StrictText.{IsStrictGameText}
use Rattle.omega_run.specs.Answers.{Texts}
use Rattle.omega_run.specs.Causes.{kind_of}
use Rattle.omega_run.specs.declared.text_kind.TextKind.{TextKind}
use Rattle.omega_run.specs.declared.text_kind.TextKind.TheVariants.{Game, Solution, Winners}

-- the text that is read in place of one of this kind: the canonical text of a game; the bare text of a solution; the
-- text itself, if it has neither
abbrev pub IsReadAs : TextKind → (source text : List ℕ) → Type 0
IsReadAs Game source text = IsStrictGameText source text
IsReadAs (Solution from) source text = text ≡ bare_text source
IsReadAs Winners source text = text ≡ bare_text source
IsReadAs of source text = text ≡ source

-- why there is no such text
abbrev pub IsUnread : TextKind → List ℕ → Refusal → Type 0
IsUnread Game source refusal = RefusesLenient source refusal
IsUnread of source refusal = ⊥

-- the texts that are read in place of those that are written, that of the input up to the first byte past the limit
abbrev pub AreReadAs : Command → (written read : Texts) → Type 0
AreReadAs command written read = IsReadAs (kind_of command File) written.other read.other
    × (input : List ℕ) × IsReadAs (kind_of command Input) written.input input
    × (read.input ≡ take (most_text + 1) input)

-- why there are no such texts: one of the two is refused, or memory is wanting
abbrev pub AreUnread : Command → Texts → Refused → Type 0
AreUnread command written refused = IsRefusedOf (IsUnread (kind_of command File) written.other)
    (IsUnread (kind_of command Input) written.input) refused
