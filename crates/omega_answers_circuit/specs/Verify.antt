-- The answer of `verify --specification` for the text of a deterministic automaton, that of a file, the specification,
-- and the text of a circuit: whether the specification accepts each word of the circuit. A proposition of the
-- specification is the input or output of that name.
use Rattle.std.specs.Prelude.{◌≡◌, ◌⊎◌, ℕ, Bool, true, List, [], Option, None, Some, if◌then◌else◌}
use Rattle.omega_aiger.specs.Text.{IsCircuitText, IsCircuitTextRefusal}
use Rattle.omega_answers.specs.TwoTexts.{IsEitherRefused, OfBoth}
use Rattle.omega_circuit.specs.Circuit.{CircuitValue}
use Rattle.omega_circuit_encoder.specs.Names.{names_of}
use Rattle.omega_hoa.specs.Alone.{IsAutomatonRefusal, IsAutomatonText}
use Rattle.omega_hoa_automaton.specs.Automaton.{Description}
use Rattle.omega_hoa_edges.specs.Determinism.{IsDeterministic}
use Rattle.omega_io.specs.Answer.{IsReply}
use Rattle.omega_io.specs.Refused.{about_none}
use Rattle.omega_io.specs.declared.exit.Exit.{Exit}
use Rattle.omega_io.specs.declared.refused.Refused.{Refused}
use Rattle.omega_io.specs.declared.refused.Which.{Which}
use Rattle.omega_io.specs.declared.refused.Which.TheVariants.{File, Input}
use Rattle.omega_lang_inclusion.specs.Refusing.{IsContainmentRefusal}
use Rattle.omega_synth_controllers.specs.Controllable.{HasControlled, IsControlled, has_item}
use Rattle.omega_text.specs.declared.refusal.Refusal.{Refusal}
use Rattle.omega_text.specs.declared.refusal.Refusal.TheVariants.{Memory, Task}
use Rattle.omega_text.specs.declared.refusal.task.TaskFault.TheVariants.{Controllable, NotDeterministic}
use Rattle.omega_text.specs.declared.refusal.task.TaskFault.TheVariants.{UniversalBranch}
use Rattle.omega_answers_circuit.specs.JudgementAnswer.{judgement_answer}
use Rattle.omega_answers_circuit.specs.Judging.{IsSpecificationJudgement}
use Rattle.omega_answers_circuit.specs.Sides.{IsAutomatonOf, IsSided, IsUnsided}
use Rattle.omega_answers_circuit.specs.declared.judgement.CircuitJudgement.{CircuitJudgement}

-- the names whose side a specification says: those of its propositions, if it has the item `controllable-AP:`
abbrev pub parted_names : (specification : Description) → List (List ℕ)
parted_names specification = if has_item specification then specification.propositions else []

-- those of them that the system controls, as the item lists them by number
abbrev pub system_names : (specification : Description) → (stated : List ℕ) → List (List ℕ)
system_names specification stated = names_of true specification.propositions stated

-- the item of a specification lists propositions, and a circuit stands on the sides that it says
pub record IsSidedBy (specification : Description) (c : CircuitValue) : Type 0 where
  pub stated : List ℕ
  pub specified : IsControlled specification stated
  pub sided : IsSided (parted_names specification) (system_names specification stated) c

-- a judgement on a circuit by a deterministic specification is right, and the two agree on the sides
pub record IsJudged (specification : Description) (c : CircuitValue) (judgement : CircuitJudgement)
    : Type 0 where
  pub sided : IsSidedBy specification c
  pub deterministic : IsDeterministic specification
  pub right : IsSpecificationJudgement specification c judgement

-- what is written of a specification and a circuit is right: `yes` if the specification accepts each word of the
-- circuit, and else `no` with a counterexample
pub record IsCircuitVerdict (specification : Description) (c : CircuitValue) (explain : Bool)
    (exit : Exit) (output : List ℕ) : Type 0 where
  pub judgement : CircuitJudgement
  pub judged : IsJudged specification c judgement
  pub reply : IsReply (judgement_answer explain judgement) exit output

-- the texts are those of an automaton and of a circuit, and this holds of the two
abbrev pub OfSpecificationAndCircuit : (Description → CircuitValue → Type 0) → (file input : List ℕ)
    → Type 0
OfSpecificationAndCircuit Holds file input =
    OfBoth (IsAutomatonText file) (IsCircuitText input) Holds

-- the answer of `verify --specification`: the texts are such, and what is written of the two is right
abbrev pub IsCircuitAnswer : (file input : List ℕ) (explain : Bool) → Exit → List ℕ → Type 0
IsCircuitAnswer file input explain exit output = OfSpecificationAndCircuit
    (λ specification c. IsCircuitVerdict specification c explain exit output) file input

-- the text that a refusal of containment is about: a choice or universal branching is one of the specification, since
-- the automaton of a circuit has none. All others are about neither
abbrev pub containment_text : Refusal → Option Which
containment_text (Task (NotDeterministic state)) = Some File
containment_text (Task UniversalBranch) = Some File
containment_text refusal = None

-- the refusal for a specification and a circuit, and the text that it is about: that of the item, then that of the
-- circuit's names, sides and automaton, then that of containment
pub data IsCircuitPairRefusal (specification : Description) (c : CircuitValue) : Option Which
    → Refusal → Type 0 where
  misstated : ¬ HasControlled specification
      → IsCircuitPairRefusal specification c (Some File) (Task Controllable)
  unsided : (stated : List ℕ) (refusal : Refusal) → IsControlled specification stated
      → IsUnsided (parted_names specification) (system_names specification stated) c refusal
      → IsCircuitPairRefusal specification c (Some Input) refusal
  not_contained : (a : Description) (refusal : Refusal) → IsSidedBy specification c → IsAutomatonOf c a
      → IsContainmentRefusal a specification refusal
      → IsCircuitPairRefusal specification c (containment_text refusal) refusal

-- the two are refused so, or memory is
abbrev pub RefusesCircuit : (specification : Description) → CircuitValue → Refused → Type 0
RefusesCircuit specification c refused = (refused ≡ about_none Memory)
    ⊎ IsCircuitPairRefusal specification c refused.text refused.refusal

-- the refusal of `verify --specification`: that of one of the texts, or else that of the two
abbrev pub IsCircuitRefused : (file input : List ℕ) → Refused → Type 0
IsCircuitRefused file input refused =
    IsEitherRefused (IsAutomatonText file) (IsAutomatonRefusal file) (IsCircuitTextRefusal input) refused
    ⊎ OfSpecificationAndCircuit (λ specification c. RefusesCircuit specification c refused) file input
