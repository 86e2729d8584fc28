-- The refusal of the complement, the first of these: `UniversalBranch`; `TooLarge` by the counts of the automaton;
-- `NotDeterministic` by a second start; the fault of the first state with one, which is `NotDeterministic`,
-- `TooManyPropositions` or `TooLarge`; `TooLarge` by the written complement. Want of memory may come at each step.
use Rattle.std.specs.Prelude.{◌≡◌, ◌⊎◌, ℕ, ◌<◌, ◌≤◌, Bool, true, false, List, length}
use Rattle.omega_text.specs.Cases.{never, or_memory, or_task}
use Rattle.omega_text.specs.declared.refusal.Refusal.{Refusal}
use Rattle.omega_text.specs.declared.refusal.task.TaskFault.{TaskFault}
use Rattle.omega_text.specs.declared.refusal.task.TaskFault.TheVariants.{NotDeterministic, TooLarge}
use Rattle.omega_text.specs.declared.refusal.task.TaskFault.TheVariants.{TooManyPropositions, UniversalBranch}
use Rattle.omega_hoa_label.specs.Label.{LabelTree}
use Rattle.omega_hoa_automaton.specs.Automaton.{Description}
use Rattle.omega_hoa_automaton.specs.Branching.{has_universal_branching}
use Rattle.omega_hoa_automaton.specs.Faults.{BreaksLimit}
use Rattle.omega_hoa_syntax.specs.declared.raw_automaton.RawAutomaton.{RawAutomaton}
use Rattle.omega_hoa_edges.specs.Determinism.{AreExclusiveBelow}
use Rattle.omega_lang_complement.specs.Complement.{AreFittingBelow, exceeds_limits}
use Rattle.omega_lang_complement.specs.Judged.{HasLargeJudged, HasUndecidedJudged}
use Rattle.omega_hoa_edges.specs.AutomatonLabels.{is_full_at, labels_at}
use Rattle.omega_hoa_edges.specs.Letters.{HasClash}
use Rattle.omega_hoa_edges.specs.Refusing.{IsSecondStart}
use Rattle.omega_lang_complement.specs.Written.{IsWrittenComplement}

-- the fault of a state; `full` says whether it has an edge for each valuation, and `labels` are those of its edges
abbrev pub IsStateFault : Bool → List LabelTree → ℕ → TaskFault → Type 0
IsStateFault full labels number TooManyPropositions = HasUndecidedJudged full labels
IsStateFault full labels number TooLarge = HasLargeJudged full labels
IsStateFault full labels number (NotDeterministic state) = (state ≡ number) × HasClash labels
IsStateFault full labels number fault = ⊥

-- a fault of a state; each state with a lower number is deterministic and its labels fit
abbrev pub IsFirstFault : Description → TaskFault → Type 0
IsFirstFault a fault =
    (number : ℕ) × (number < a.states) × AreExclusiveBelow a number × AreFittingBelow a number
    × IsStateFault (is_full_at a number) (labels_at a number) number fault

-- the written complement breaks a limit of automata
abbrev pub IsUnwritable : Description → Type 0
IsUnwritable a =
    AreExclusiveBelow a a.states × AreFittingBelow a a.states
    × ((raw : RawAutomaton) × IsWrittenComplement a raw × BreaksLimit raw)

-- there is no universal branching, and the counts of the automaton leave room for the complement
pub record FitsComplementLimits (a : Description) : Type 0 where
  pub plain : has_universal_branching a ≡ false
  pub limits : exceeds_limits a ≡ false

-- in addition there is at most one start
pub record HasStart (a : Description) : Type 0 where
  pub limits : FitsComplementLimits a
  pub one_start : length a.starts ≤ 1

-- a fault of the complement
abbrev pub IsComplementFault : Description → TaskFault → Type 0
IsComplementFault a UniversalBranch = has_universal_branching a ≡ true
IsComplementFault a TooManyPropositions = HasStart a × IsFirstFault a TooManyPropositions
IsComplementFault a TooLarge =
    ((has_universal_branching a ≡ false) × (exceeds_limits a ≡ true))
    ⊎ (HasStart a × (IsFirstFault a TooLarge ⊎ IsUnwritable a))
IsComplementFault a (NotDeterministic state) = (FitsComplementLimits a × IsSecondStart a state)
    ⊎ (HasStart a × IsFirstFault a (NotDeterministic state))
IsComplementFault a fault = ⊥

-- the refusal of the complement
abbrev pub IsUncomplemented : Description → Refusal → Type 0
IsUncomplemented a = or_task (IsComplementFault a) (or_memory never)
