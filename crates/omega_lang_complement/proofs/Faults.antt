-- Refusals of a label that is judged are those of its state.
use Rattle.std.proofs.Common.{◌≡◌, ℕ, ◌<◌, inl, inr, Bool, false, List, length, Some, refl, sym, subst, arith}
use Rattle.omega_hoa_label.specs.Label.{LabelTree}
use Rattle.omega_hoa_label.specs.Raw.{raw_depth}
use Rattle.omega_hoa_satisfiable.specs.Undecided.{IsHardLabel, IsUndecidedLabel}
use Rattle.omega_hoa_acceptance.specs.Raw.{raw_acc_depth}
use Rattle.omega_hoa_expression.specs.Limits.{most_depth}
use Rattle.omega_hoa_label.specs.Writing.{label_written}
use Rattle.omega_hoa_acceptance.specs.Writing.{acc_written}
use Rattle.omega_text.specs.Cases.{never, or_memory, or_task}
use Rattle.omega_text.specs.declared.refusal.Refusal.{Refusal}
use Rattle.omega_text.specs.declared.refusal.Refusal.TheVariants.{Memory}
use Rattle.omega_text.specs.declared.refusal.automaton.AutomatonFault.{AutomatonFault}
use Rattle.omega_text.specs.declared.refusal.task.TaskFault.{TaskFault}
use Rattle.omega_text.specs.declared.refusal.task.TaskFault.TheVariants.{BadSolution, Budget, Controllable, NotDeterministic, NotParity, TooLarge, TooManyPropositions, TooWide, UniversalBranch, Unjudged, UnknownNode}
use Rattle.omega_hoa_automaton.specs.Automaton.{Description}
use Rattle.omega_hoa_automaton.specs.Branching.{has_universal_branching}
use Rattle.omega_hoa_automaton.specs.Faults.{automaton_fault_of}
use Rattle.omega_hoa_syntax.specs.declared.raw_automaton.RawAutomaton.{RawAutomaton}
use Rattle.omega_hoa_edges.specs.Determinism.{AreExclusiveBelow}
use Rattle.omega_lang_complement.specs.Complement.{AreFittingBelow}
use Rattle.omega_hoa_acceptance.specs.Dual.{dual}
use Rattle.omega_hoa_edges.specs.Judged.{HasLargeEdge}
use Rattle.omega_lang_complement.specs.Judged.{HasLargeRest, IsJudgedLabel, IsWrittenLabel}
use Rattle.omega_hoa_edges.specs.AutomatonLabels.{labels_at, state_at}
use Rattle.omega_hoa_edges.specs.Labels.{is_full}
use Rattle.omega_hoa_edges.specs.Refusing.{IsClashFault}
use Rattle.omega_lang_complement.specs.Refusing.{HasStart, IsComplementFault, IsFirstFault, IsStateFault, IsUncomplemented}
use Rattle.omega_lang_complement.specs.Written.{IsWrittenComplement}
use Rattle.omega_lang_complement.specs.private.Turned.{AreRefused, IsStateRefusal, IsUnformed}
use Rattle.omega_lang_complement.proofs.LimitTests.{deep_formula}
use Rattle.omega_hoa_edges.specs.Fitting.{FitsAText, IsLarge}
use Rattle.omega_hoa_edges.proofs.Depths.{deep_text, unfit_text}
use Rattle.omega_hoa_edges.proofs.Refusals.{large_task, memory_task, task_weaker}

module _ (full : Bool) (labels : List LabelTree) (number : ℕ) (label : LabelTree) where
  -- a label to be written that is too deep or too large
  pub unwritten_refused : (refusal : Refusal) → IsWrittenLabel labels label → IsLarge (FitsAText label → ⊥) refusal → IsStateRefusal full labels number refusal
  unwritten_refused refusal written is =
      large_task (FitsAText label → ⊥) (IsStateFault full labels number) (λ unfit. inr (label, written, unfit)) refusal is

  pub deep_refused : (refusal : Refusal) → IsWrittenLabel labels label → IsLarge (most_depth < raw_depth (label_written label)) refusal → IsStateRefusal full labels number refusal
  deep_refused refusal written is =
      large_task (most_depth < raw_depth (label_written label)) (IsStateFault full labels number) (λ deep. inr (label, written, deep_text label deep)) refusal is

  pub undecided_refused : (refusal : Refusal) → IsJudgedLabel full labels label → IsUndecidedLabel label refusal → IsStateRefusal full labels number refusal
  undecided_refused refusal judged is =
      task_weaker (λ fault. (fault ≡ TooManyPropositions) × IsHardLabel label) (IsStateFault full labels number)
      (λ fault wide. subst (IsStateFault full labels number) (sym wide.0) (label, judged, wide.1)) refusal is

module _ (full : Bool) (labels : List LabelTree) (number : ℕ) where
  -- the label of an edge that is too deep or too large
  pub edge_refused : (refusal : Refusal) → IsLarge (HasLargeEdge labels) refusal → IsStateRefusal full labels number refusal
  edge_refused refusal is =
      large_task (HasLargeEdge labels) (IsStateFault full labels number)
      (λ large. inr (large.0, inl large.1, unfit_text large.0 large.2)) refusal is

  -- the fault of judging the edges is one of the state
  pub clash_refused : full ≡ false → (refusal : Refusal) → or_task (IsClashFault labels number) (or_memory never) refusal
      → IsStateRefusal full labels number refusal
  clash_refused partial refusal is = task_weaker (IsClashFault labels number) (IsStateFault full labels number) go refusal is
    where
      go : (fault : TaskFault) → IsClashFault labels number fault → IsStateFault full labels number fault
      go fault (inl clash) = subst (IsStateFault full labels number) (sym clash.0) (refl, clash.1)
      go fault (inr (inl (wide, (label, both, hard)))) = subst (IsStateFault full labels number) (sym wide) (label, (partial, inl both), hard)
      go fault (inr (inr (large, inl (label, one, unfit)))) =
          subst (IsStateFault full labels number) (sym large) (inr (label, inl one, unfit_text label unfit))
      go fault (inr (inr (large, inr (label, both, unfit)))) =
          subst (IsStateFault full labels number) (sym large) (inl (label, (partial, inl both), unfit))

-- the label of the missing letters that is too deep or too large
pub rest_refused : (labels : List LabelTree) (number : ℕ) (refusal : Refusal) → IsLarge (HasLargeRest labels) refusal
    → IsStateRefusal false labels number refusal
rest_refused labels number refusal is =
    large_task (HasLargeRest labels) (IsStateFault false labels number)
    (λ large. inl (large.0, (refl, inr large.1), large.2)) refusal is

-- want of memory
pub memory_refused : (full : Bool) (labels : List LabelTree) (number : ℕ) (refusal : Refusal) → refusal ≡ Memory → IsStateRefusal full labels number refusal
memory_refused full labels number refusal is = memory_task (IsStateFault full labels number) refusal is

-- a formula that is too deep leaves no room
pub formula_refused : (a : Description) → has_universal_branching a ≡ false → (refusal : Refusal) → IsLarge (most_depth < raw_acc_depth (acc_written (dual a.acceptance))) refusal
    → IsUncomplemented a refusal
formula_refused a plain refusal is =
    large_task (most_depth < raw_acc_depth (acc_written (dual a.acceptance))) (IsComplementFault a) (λ deep. inl (plain, deep_formula a (omega (arith, deep)))) refusal is

-- the refusal of a state is that of the states, where those before it are deterministic and fit
pub state_refused : (a : Description) (number : ℕ) → number < a.states → AreExclusiveBelow a number → AreFittingBelow a number → (refusal : Refusal) → IsStateRefusal (is_full (length a.propositions) (state_at a number)) (labels_at a number) number refusal
    → AreRefused a refusal
state_refused a number below apart fitting refusal is =
    task_weaker (IsStateFault (is_full (length a.propositions) (state_at a number)) (labels_at a number) number) (IsFirstFault a)
    (λ fault here. (number, below, apart, fitting, here)) refusal is

-- and that of the complement
fault_refused : (a : Description) → HasStart a → (fault : TaskFault) → IsFirstFault a fault → IsComplementFault a fault
fault_refused a start NotParity is = is.4
fault_refused a start UniversalBranch is = absurd is.4
fault_refused a start TooManyPropositions is = (start, is)
fault_refused a start TooWide is = is.4
fault_refused a start Budget is = is.4
fault_refused a start BadSolution is = is.4
fault_refused a start UnknownNode is = is.4
fault_refused a start Controllable is = is.4
fault_refused a start Unjudged is = is.4
fault_refused a start TooLarge is = inr (start, inl is)
fault_refused a start (NotDeterministic state) is = inr (start, is)

pub states_refused : (a : Description) → HasStart a → (refusal : Refusal) → AreRefused a refusal → IsUncomplemented a refusal
states_refused a start refusal is = task_weaker (IsFirstFault a) (IsComplementFault a) (fault_refused a start) refusal is

pub writing_refused : (a : Description) → HasStart a → AreExclusiveBelow a a.states → AreFittingBelow a a.states → (raw : RawAutomaton) → IsWrittenComplement a raw → (refusal : Refusal)
    → IsUnformed raw refusal → IsUncomplemented a refusal
writing_refused a start apart fitting raw written refusal is =
    large_task ((fault : AutomatonFault) × (automaton_fault_of raw ≡ Some fault)) (IsComplementFault a)
    (λ broken. inr (start, inr (apart, fitting, (raw, written, broken)))) refusal is
