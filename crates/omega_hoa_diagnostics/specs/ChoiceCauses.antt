-- The line that says why an automaton is not deterministic: it has several starts, or at some letter a choice between
-- two edges of a state.
use Rattle.std.specs.Prelude.{◌≡◌, ◌⊎◌, ℕ, ◌+◌, ◌<◌, ◌≤◌, List, [], ◌++◌, codes, decimal, length}
use Rattle.omega_text.specs.declared.refusal.task.TaskFault.{TaskFault}
use Rattle.omega_hoa_automaton.specs.Automaton.{Description}
use Rattle.omega_hoa_edges.specs.Determinism.{AreExclusiveBelow}
use Rattle.omega_hoa_edges.specs.AutomatonLabels.{labels_at}
use Rattle.omega_hoa_edges.specs.Refusing.{IsFirstClash, IsFirstUndecided}
use Rattle.omega_hoa_diagnostics.specs.Choices.{AreAllPassedOver, IsFirstChoice}
use Rattle.omega_hoa_automaton.specs.Automaton.{edges_before}
use Rattle.omega_hoa_diagnostics.specs.LinesOfTexts.{IsLineOfText}

-- the line about the count of starts
abbrev pub starts_line : ℕ → List ℕ
starts_line count = codes "omega: there are " ++ (decimal count ++ codes " starts\n")

-- the line about two edges of a state, by their numbers
abbrev pub edges_line : (state first second : ℕ) → List ℕ
edges_line state first second =
    codes "omega: state " ++ (decimal state ++ (codes ": edges " ++ (decimal first
    ++ (codes " and " ++ (decimal second ++ codes " can be taken together\n")))))

-- the line is about the first state of which two edges can be taken together, and about the first such two of it; edges
-- are numbered from 0 through all states of the body, in the order written
pub record TellsChoice (a : Description) (line : List ℕ) : Type 0 where
  pub state : ℕ
  pub first : ℕ
  pub second : ℕ
  pub clash : IsFirstClash a state
  pub choice : IsFirstChoice (labels_at a state) first second
  pub is : line ≡ edges_line state (edges_before a.defined state + first)
      (edges_before a.defined state + second)

-- of the first state of which two edges can be taken together, that may be left undecided of each two such
pub record IsChoiceUndecided (a : Description) : Type 0 where
  pub state : ℕ
  pub clash : IsFirstClash a state
  pub passed : AreAllPassedOver (labels_at a state)

-- no two edges of a state can be taken together, or that may be left undecided of a state, and of those with a lower
-- number they cannot
abbrev pub HasNoChoiceToTell : Description → Type 0
HasNoChoiceToTell a = AreExclusiveBelow a a.states
    ⊎ (((fault : TaskFault) × IsFirstUndecided a fault) ⊎ IsChoiceUndecided a)

-- the line for an automaton: it is about several starts, or else about a choice, or there is none to tell and no line
abbrev pub IsChoiceLine : Description → List ℕ → Type 0
IsChoiceLine a line =
    ((1 < length a.starts) × (line ≡ starts_line (length a.starts)))
    ⊎ ((length a.starts ≤ 1) × (TellsChoice a line ⊎ ((line ≡ []) × HasNoChoiceToTell a)))

-- the line for a text
abbrev pub IsChoiceCause : (text line : List ℕ) → Type 0
IsChoiceCause = IsLineOfText IsChoiceLine
