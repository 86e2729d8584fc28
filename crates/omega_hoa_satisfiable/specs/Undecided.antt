-- Labels for which the search does not decide whether they can be true.
use Rattle.std.specs.Prelude.{◌≡◌, ◌*◌, ◌<◌, ◌≤◌, length, Option, Some}
use Rattle.omega_text.specs.Cases.{never, or_memory, or_task}
use Rattle.omega_text.specs.declared.refusal.Refusal.{Refusal}
use Rattle.omega_text.specs.declared.refusal.task.TaskFault.TheVariants.{TooManyPropositions}
use Rattle.omega_hoa_expression.specs.Limits.{most_mentioned}
use Rattle.omega_hoa_label.specs.Label.{LabelTree}
use Rattle.omega_hoa_satisfiable.specs.Cubes.{literal_count}
use Rattle.omega_hoa_satisfiable.specs.Limits.{most_visited}
use Rattle.omega_hoa_satisfiable.specs.Satisfiable.{mentioned}

-- a label that may be left undecided: it mentions more propositions than are judged without a search, and its cubes
-- have many literals. The search tries each of these once and may fail once at it, so that it may pass its limit.
pub record IsHardLabel (tree : LabelTree) : Type 0 where
  pub wide : most_mentioned < length (mentioned tree)
  pub long : most_visited ≤ 2 * literal_count tree

-- too many propositions, only for such a label, or want of memory
abbrev pub IsUndecidedLabel : LabelTree → Refusal → Type 0
IsUndecidedLabel tree =
    or_task (λ fault. (fault ≡ TooManyPropositions) × IsHardLabel tree) (or_memory never)

-- there is a label, and it has the property
abbrev pub IsLabelWith : (LabelTree → Type 0) → Option LabelTree → Type 0
IsLabelWith Has label = (tree : LabelTree) × (label ≡ Some tree) × Has tree

-- there is a label, and it may be given up undecided
abbrev pub IsHard : Option LabelTree → Type 0
IsHard label = IsLabelWith IsHardLabel label

-- the refusal is `TooManyPropositions`, and there is such a label, or it is `Memory`
abbrev pub GivesUpOn : Type 0 → Refusal → Type 0
GivesUpOn There = or_task (λ fault. (fault ≡ TooManyPropositions) × There) (or_memory never)
