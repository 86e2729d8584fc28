-- The text that a choice is about: an automaton that is to have none, and has one, is refused for it, and any other
-- refusal of two texts together is about neither.
use Rattle.std.specs.Prelude.{◌≡◌}
use Rattle.omega_text.specs.declared.refusal.Refusal.{Refusal}
use Rattle.omega_text.specs.declared.refusal.Refusal.TheVariants.{Task}
use Rattle.omega_text.specs.declared.refusal.task.TaskFault.TheVariants.{NotDeterministic}
use Rattle.omega_io.specs.Refused.{about, about_none}
use Rattle.omega_io.specs.declared.refused.Refused.{Refused}
use Rattle.omega_io.specs.declared.refused.Which.{Which}

-- `NotDeterministic` is a refusal of the text, and any other one of none
abbrev pub refused_for : Which → Refusal → Refused
refused_for text (Task (NotDeterministic state)) = about text (Task (NotDeterministic state))
refused_for text refusal = about_none refusal

-- such a refusal, which for a choice is one of the text
abbrev pub IsRefusedFor : Which → (Refusal → Type 0) → Refused → Type 0
IsRefusedFor text Refuses refused =
    (refusal : Refusal) × Refuses refusal × (refused ≡ refused_for text refusal)
