-- What a draft means, and which refusals say that no draft exists.
use Rattle.std.proofs.Common.{◌≡◌, false, List, [], Option, Some, None, Result, Ok, Err, IfOk, option_map, option_and_then, unwrap_or, refl, ap, sym, ◌∙◌, subst}
use Rattle.std.specs.List.{AllZip}
use Rattle.omega_text.specs.declared.refusal.Refusal.{Refusal}
use Rattle.omega_text.specs.declared.refusal.Refusal.TheVariants.{Automaton, Circuit, Game, Io, Memory, Task, Text}
use Rattle.omega_hoa_acceptance.specs.Meaning.{acc_meant}
use Rattle.omega_hoa_acceptance.specs.Acceptance.{AccTree}
use Rattle.omega_hoa_acceptance.specs.Raw.{RawAccTree}
use Rattle.omega_hoa_syntax.specs.declared.raw_automaton.RawAutomaton.{RawAutomaton}
use Rattle.omega_hoa_syntax.specs.declared.raw_state.RawState.{RawState}
use Rattle.omega_hoa_automaton.specs.Faults.{definitions_of}
use Rattle.omega_hoa_automaton.specs.Items.{Accepted, acceptance_in, first_said}
use Rattle.omega_hoa_automaton.specs.Meaning.{IsMeaningless, IsStateOf, Means}
use Rattle.omega_hoa_automaton.specs.declared.making.body.Body.{Body}
use Rattle.omega_hoa_automaton.specs.declared.making.definitions.Definitions.{Definitions}
use Rattle.omega_hoa_automaton.specs.declared.making.gathered.Gathered.{Gathered}
use Rattle.omega_hoa_automaton.specs.declared.making.outline.HeaderOutline.{HeaderOutline}
use Rattle.omega_hoa_automaton.specs.declared.state.State.{State}
use Rattle.omega_hoa_automaton.specs.private.layout.Definitions.{AreNoted, IsUnnoted}
use Rattle.omega_hoa_automaton.specs.private.layout.Draft.{IsDraftOf, IsOutlineOf, IsSoundAcceptance, described}
use Rattle.omega_hoa_automaton.specs.private.layout.Gathered.{HasGathered}
use Rattle.omega_hoa_automaton.specs.private.layout.Order.{IsLastFault, early_fault, last_fault}
use Rattle.omega_hoa_automaton.specs.private.layout.Findings.{is_faulty, labels_pass}
use Rattle.omega_hoa_automaton.proofs.OrderLemmas.{alias_is, last_as}
use Rattle.omega_hoa_automaton.proofs.SoundLemmas.{acceptance_sound, body_sound}

-- what a formula means that is part of something
and_then-map : {X Y Z : Type 0} (f : X → Y) (g : Y → Option Z) (o : Option X) → option_and_then (λ x. g (f x)) o ≡ option_and_then g (option_map f o)
and_then-map f g None = refl
and_then-map f g (Some x) = refl

-- the value that is made of a draft is what is meant
draft_means : (raw : RawAutomaton) (gathered : Gathered) (definitions : Definitions) (outline : HeaderOutline) (acceptance : AccTree) (defined : List State)
    → IsOutlineOf raw outline → IsDraftOf raw gathered definitions → AllZip (IsStateOf definitions.aliases) raw.states defined
    → option_and_then acc_meant gathered.acceptance ≡ Some acceptance
    → Means raw (described gathered outline.state_count outline.set_count acceptance defined)
draft_means raw gathered definitions outline acceptance defined said is zipped meant = record {
  faultless = is.faultless;
  tool = is.gathered.tool;
  name = is.gathered.name;
  states = said.counted;
  starts = is.gathered.starts;
  propositions = ap (λ o. unwrap_or o []) is.gathered.propositions;
  acc_name = is.gathered.acc_name;
  sets = said.sets;
  acceptance =
      and_then-map (λ (accepted : Accepted). accepted.formula) acc_meant (first_said acceptance_in raw.items)
      ∙ (ap (option_and_then acc_meant) (sym is.gathered.acceptance) ∙ meant);
  properties = is.gathered.properties;
  unknown = is.gathered.unknown;
  defined = subst (λ aliases. AllZip (IsStateOf aliases) raw.states defined) is.aliases zipped;
}

-- the same of what is made, if it is
pub body_means : (raw : RawAutomaton) (gathered : Gathered) (definitions : Definitions) (outline : HeaderOutline) (made : Result Body Refusal)
    → IsOutlineOf raw outline → IsDraftOf raw gathered definitions
    → IfOk made (λ body. option_and_then acc_meant gathered.acceptance ≡ Some body.acceptance) → IfOk made (λ body. AllZip (IsStateOf definitions.aliases) raw.states body.defined)
    → IfOk made (λ body. Means raw (described gathered outline.state_count outline.set_count body.acceptance body.defined))
body_means raw gathered definitions outline (Ok body) said is meant zipped = draft_means raw gathered definitions outline body.acceptance body.defined said is zipped meant
body_means raw gathered definitions outline (Err refusal) said is meant zipped = tt

-- if no fault is left there is a draft
pub draft_last : (raw : RawAutomaton) (gathered : Gathered) (definitions : Definitions) (states : List RawState) (outline : HeaderOutline) → IsOutlineOf raw outline
    → HasGathered raw.items gathered → AreNoted (definitions_of raw) definitions → states ≡ raw.states
    → last_fault definitions states outline.late outline.deep ≡ None → IsDraftOf raw gathered definitions
draft_last raw gathered definitions states outline said all noted same none = record {
  faultless = last_as raw definitions states outline.late None outline.deep said.early noted same said.late said.deep (sym none);
  gathered = all;
  aliases = noted.aliases;
}

-- the labels of a draft have no fault
pub draft_sound : (raw : RawAutomaton) (gathered : Gathered) (definitions : Definitions) → IsDraftOf raw gathered definitions
    → labels_pass is_faulty definitions.aliases raw.states ≡ false
draft_sound raw gathered definitions is = ap (λ x. labels_pass is_faulty x raw.states) is.aliases ∙ body_sound raw is.faultless

-- the acceptance of a draft is there and has no fault
pub draft_accepts : (raw : RawAutomaton) (gathered : Gathered) (definitions : Definitions) → IsDraftOf raw gathered definitions
    → IsSoundAcceptance gathered.acceptance
draft_accepts raw gathered definitions is = subst (λ (o : Option RawAccTree). IsSoundAcceptance o) (sym is.gathered.acceptance) (acceptance_sound raw is.faultless)

-- a fault that is left is the fault if no lesser one applies
pub last-meaningless : (raw : RawAutomaton) (definitions : Definitions) (states : List RawState) (outline : HeaderOutline) (refusal : Refusal) → IsOutlineOf raw outline
    → AreNoted (definitions_of raw) definitions → states ≡ raw.states → IsLastFault definitions states outline.late outline.deep refusal → IsMeaningless raw refusal
last-meaningless raw definitions states outline (Text fault) said noted same refused = refused
last-meaningless raw definitions states outline (Game fault) said noted same refused = refused
last-meaningless raw definitions states outline (Circuit fault) said noted same refused = refused
last-meaningless raw definitions states outline (Automaton fault) said noted same refused =
    last_as raw definitions states outline.late (Some fault) outline.deep said.early noted same said.late said.deep (sym refused)
last-meaningless raw definitions states outline (Task fault) said noted same refused = refused
last-meaningless raw definitions states outline Memory said noted same refused = refused
last-meaningless raw definitions states outline Io said noted same refused = refused

-- a wrong definition is the fault if no lesser one applies
pub unnoted-meaningless : (raw : RawAutomaton) (refusal : Refusal) → early_fault raw ≡ None → IsUnnoted (definitions_of raw) refusal → IsMeaningless raw refusal
unnoted-meaningless raw (Text fault) none refused = refused
unnoted-meaningless raw (Game fault) none refused = refused
unnoted-meaningless raw (Circuit fault) none refused = refused
unnoted-meaningless raw (Automaton fault) none refused = rw refused.0 (alias_is raw none refused.1)
unnoted-meaningless raw (Task fault) none refused = refused
unnoted-meaningless raw Memory none refused = refused
unnoted-meaningless raw Io none refused = refused
