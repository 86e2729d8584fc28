-- What the line for a text says of the refusal of its complement.
use Rattle.std.specs.Prelude.{◌≡◌, ◌⊎◌, ◌+◌, ◌<◌, ◌≤◌, ℕ, List, [], length}
use Rattle.omega_text.specs.declared.refusal.Refusal.TheVariants.{Task}
use Rattle.omega_text.specs.declared.refusal.task.TaskFault.{TaskFault}
use Rattle.omega_text.specs.declared.refusal.task.TaskFault.TheVariants.{NotDeterministic}
use Rattle.omega_hoa_automaton.specs.Automaton.{Description}
use Rattle.omega_hoa.specs.Alone.{IsAutomatonText}
use Rattle.omega_hoa_edges.specs.AutomatonLabels.{labels_at}
use Rattle.omega_lang_complement.specs.Refusing.{IsUncomplemented}
use Rattle.omega_hoa_edges.specs.Refusing.{IsUndecidedFault}
use Rattle.omega_hoa_diagnostics.specs.ChoiceCauses.{IsChoiceCause, edges_line, starts_line}
use Rattle.omega_hoa_diagnostics.specs.Choices.{IsFirstChoice}
use Rattle.omega_hoa_automaton.specs.Automaton.{edges_before}

-- the line is about the first two edges of this state that can be taken together
pub record TellsState (a : Description) (state : ℕ) (line : List ℕ) : Type 0 where
  pub first : ℕ
  pub second : ℕ
  pub choice : IsFirstChoice (labels_at a state) first second
  pub is : line ≡ edges_line state (edges_before a.defined state + first)
      (edges_before a.defined state + second)

-- of this state or one with a lower number it may be left undecided whether two edges can be taken together
pub record IsUndecidedUpTo (a : Description) (state : ℕ) : Type 0 where
  pub number : ℕ
  pub up_to : number ≤ state
  pub fault : TaskFault
  pub undecided : IsUndecidedFault (labels_at a number) fault

-- the line is about several starts, or else about two edges of this state; there is no line only if that may be left
-- undecided
abbrev pub TellsRefusal : Description → ℕ → List ℕ → Type 0
TellsRefusal a state line =
    ((1 < length a.starts) × (line ≡ starts_line (length a.starts)))
    ⊎ ((length a.starts ≤ 1) × (TellsState a state line ⊎ ((line ≡ []) × IsUndecidedUpTo a state)))

-- if the complement of the automaton of a text is refused with `NotDeterministic`, then the line for the text is about
-- the state of the refusal
abbrev pub ChoicesAreTold : Type 0
ChoicesAreTold = (text line : List ℕ) (a : Description) (state : ℕ) → IsAutomatonText text a
    → IsUncomplemented a (Task (NotDeterministic state)) → IsChoiceCause text line
    → TellsRefusal a state line
