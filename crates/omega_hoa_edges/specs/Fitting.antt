-- Labels that are too deep or too large, as they are and as a text writes them, and labels that are not judged.
use Rattle.std.specs.Prelude.{◌≡◌, ◌≤◌, ◌⊎◌}
use Rattle.omega_text.specs.Cases.{never, or_memory, or_task}
use Rattle.omega_text.specs.declared.refusal.Refusal.{Refusal}
use Rattle.omega_text.specs.declared.refusal.task.TaskFault.TheVariants.{TooLarge, TooManyPropositions}
use Rattle.omega_hoa_expression.specs.Limits.{most_depth, most_size}
use Rattle.omega_hoa_label.specs.Writing.{label_written}
use Rattle.omega_hoa_label.specs.Label.{LabelTree, label_size}
use Rattle.omega_hoa_label.specs.Raw.{raw_depth}
use Rattle.omega_hoa_label.specs.Shape.{FitsALabel}
use Rattle.omega_hoa_satisfiable.specs.Undecided.{IsHardLabel}

-- a label can be written in a text: it is not too deep with the parentheses that it needs, and not too large
pub record FitsAText (label : LabelTree) : Type 0 where
  pub shallow : raw_depth (label_written label) ≤ most_depth
  pub small : label_size label ≤ most_size

-- too large, only if this holds, or want of memory
abbrev pub IsLarge : Type 0 → Refusal → Type 0
IsLarge large = or_task (λ fault. (fault ≡ TooLarge) × large) (or_memory never)

-- too large, only if the label is too deep or too large, or want of memory
abbrev pub IsUnfit : LabelTree → Refusal → Type 0
IsUnfit tree = IsLarge (FitsALabel tree → ⊥)

-- why a label is not judged: it is too deep or too large, or it may be left undecided
abbrev pub IsUnjudged : LabelTree → Refusal → Type 0
IsUnjudged label =
    or_task (λ fault.
    ((fault ≡ TooLarge) × (FitsALabel label → ⊥))
    ⊎ ((fault ≡ TooManyPropositions) × IsHardLabel label))
    (or_memory never)
