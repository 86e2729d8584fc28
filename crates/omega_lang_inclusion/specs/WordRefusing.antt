-- Which refusal of membership applies: that of the automaton of the word, else that of its containment. If an automaton
-- has choices, containment gives way to the question whether the one word is accepted, and its refusals.
use Rattle.std.specs.Prelude.{◌≡◌, ◌≤◌, ◌⊎◌, ℕ, length}
use Rattle.omega_hoa_automaton.specs.Automaton.{Description}
use Rattle.omega_hoa_edges.specs.Determinism.{AreExclusiveBelow}
use Rattle.omega_hoa_edges.specs.Refusing.{IsFirstClash, IsFirstUndecided, IsSecondStart}
use Rattle.omega_lang_inclusion.specs.Refusing.{IsContainmentRefusal}
use Rattle.omega_lang_product.specs.Refusing.{IsGraphRefusal}
use Rattle.omega_lang_runs.specs.Judging.{HasHardLabel}
use Rattle.omega_lang_lasso_word.specs.declared.symbolic_word.SymbolicWord.{SymbolicWord}
use Rattle.omega_text.specs.declared.refusal.Refusal.{Refusal}
use Rattle.omega_text.specs.declared.refusal.Refusal.TheVariants.{Memory, Task}
use Rattle.omega_text.specs.declared.refusal.task.TaskFault.{TaskFault}
use Rattle.omega_text.specs.declared.refusal.task.TaskFault.TheVariants.{NotDeterministic, TooLarge}
use Rattle.omega_text.specs.declared.refusal.task.TaskFault.TheVariants.{TooManyPropositions}
use Rattle.omega_lang_inclusion.specs.OneWord.{HasOpenLetter, IsOneWordFor}
use Rattle.omega_lang_inclusion.specs.Opening.{HasUnjudgedName}
use Rattle.omega_lang_inclusion.specs.Written.{IsOversized, IsWordAutomaton}

-- the automaton has a choice at a state: it is that of a second start, or the first of which two edges can be taken at
-- one letter
abbrev pub HasChoice : Description → ℕ → Type 0
HasChoice a state = IsSecondStart a state ⊎ IsFirstClash a state

-- the refusal is not one for a choice
abbrev pub IsNoChoice : Refusal → Type 0
IsNoChoice refusal = (state : ℕ) → ¬ (refusal ≡ Task (NotDeterministic state))

-- no choice of the automaton is found: there is one start at most, and no two edges of a state can be taken at one
-- letter, or that is not judged of some state before which there is none with such edges
pub record HasNoFoundChoice (a : Description) : Type 0 where
  pub one_start : length a.starts ≤ 1
  pub apart : AreExclusiveBelow a a.states ⊎ ((fault : TaskFault) × IsFirstUndecided a fault)

-- the refusal of the question whether `a` accepts the one word of the automaton `one`: that of the graph of the product
-- of both, else that it may be left undecided whether a letter can be true
pub data IsOneWordRefusal (one a : Description) (refusal : Refusal) : Type 0 where
  not_met : IsGraphRefusal one a refusal → IsOneWordRefusal one a refusal
  undecided_letter : HasHardLabel one → refusal ≡ Task TooManyPropositions
      → IsOneWordRefusal one a refusal

-- the refusal of membership: that of the automaton of the word, else that of its containment, if it is not for a
-- choice, nor for a size where a choice is found. If it is, then the refusal of a letter that is not judged, or that
-- for the choice if a letter leaves a proposition open, or else that for one word. Memory may be wanting
pub data IsMembershipRefusal (word : SymbolicWord) (a : Description)
    (refusal : Refusal) : Type 0 where
  oversized : IsOversized word refusal → IsMembershipRefusal word a refusal
  not_contained : (one : Description) → IsWordAutomaton word one
      → IsContainmentRefusal one a refusal → IsNoChoice refusal
      → (refusal ≡ Task TooLarge → HasNoFoundChoice a) → IsMembershipRefusal word a refusal
  no_memory : refusal ≡ Memory → IsMembershipRefusal word a refusal
  not_judged : (one : Description) (state : ℕ) → IsWordAutomaton word one → HasChoice a state
      → HasUnjudgedName one a.propositions refusal → IsMembershipRefusal word a refusal
  has_open_letter : (state : ℕ) → HasChoice a state → HasOpenLetter word a
      → refusal ≡ Task (NotDeterministic state) → IsMembershipRefusal word a refusal
  not_one : (one : Description) (state : ℕ) → IsWordAutomaton word one → HasChoice a state
      → IsOneWordFor word a → IsOneWordRefusal one a refusal → IsMembershipRefusal word a refusal
