-- The refusals of taking a part of a game that was read.
use Rattle.std.specs.Prelude.{◌≡◌, List, ℕ}
use Rattle.omega_text.specs.Cases.{never, or_memory, or_task}
use Rattle.omega_text.specs.declared.refusal.Refusal.{Refusal}
use Rattle.omega_text.specs.declared.refusal.task.TaskFault.TheVariants.{UnknownNode}
use Rattle.omega_game_values.specs.Game.{Node}
use Rattle.omega_answers_game.specs.Part.{IsUnknownIdentifier}

-- no node has the identifier, or memory
abbrev pub IsPartRefusal : List Node → ℕ → Refusal → Type 0
IsPartRefusal game identifier =
    or_task (λ fault. (fault ≡ UnknownNode) × IsUnknownIdentifier game identifier) (or_memory never)
