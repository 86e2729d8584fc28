-- The draft of an automaton: its outline before its aliases are looked up, a written one without a fault, its items
-- gathered, and the value made of it.
use Rattle.std.specs.Prelude.{◌≡◌, ℕ, List, [], Option, None, MatchOption, nat_lt, unwrap_or}
use Rattle.std.specs.List.{list_any}
use Rattle.omega_hoa_acceptance.specs.Acceptance.{AccTree}
use Rattle.omega_hoa_acceptance.specs.Meaning.{fault_of_acc}
use Rattle.omega_hoa_expression.specs.Limits.{most_depth}
use Rattle.omega_hoa_acceptance.specs.Raw.{RawAccTree, raw_acc_depth}
use Rattle.omega_hoa_syntax.specs.declared.raw_automaton.RawAutomaton.{RawAutomaton}
use Rattle.omega_hoa_automaton.specs.Automaton.{Description}
use Rattle.omega_hoa_automaton.specs.Faults.{definitions_of, automaton_fault_of}
use Rattle.omega_hoa_automaton.specs.Faults.{passes, set_count, state_count}
use Rattle.omega_hoa_automaton.specs.Items.{acceptance_in}
use Rattle.omega_hoa_automaton.specs.declared.making.definitions.Definitions.{Definitions}
use Rattle.omega_hoa_automaton.specs.declared.making.gathered.Gathered.{Gathered}
use Rattle.omega_hoa_automaton.specs.declared.making.outline.HeaderOutline.{HeaderOutline}
use Rattle.omega_hoa_automaton.specs.declared.state.State.{State}
use Rattle.omega_hoa_automaton.specs.private.layout.Gathered.{HasGathered}
use Rattle.omega_hoa_automaton.specs.private.layout.Order.{early_fault, late_fault}

-- the outline of an automaton that is written, if no fault before that of aliases applies
pub record IsOutlineOf (raw : RawAutomaton) (outline : HeaderOutline) : Type 0 where
  pub early : early_fault raw ≡ None
  pub late : outline.late ≡ late_fault raw
  pub deep : outline.deep ≡ list_any (λ item. passes
      (λ accepted. nat_lt most_depth (raw_acc_depth accepted.formula)) (acceptance_in item)) raw.items
  pub counted : outline.state_count ≡ state_count raw
  pub sets : outline.set_count ≡ set_count raw

-- what is written has no fault, and its items are gathered
pub record IsDraftOf (raw : RawAutomaton) (all : Gathered) (definitions : Definitions) : Type 0 where
  pub faultless : automaton_fault_of raw ≡ None
  pub gathered : HasGathered raw.items all
  pub aliases : definitions.aliases ≡ definitions_of raw

-- a formula is there and has no fault
abbrev pub IsSoundAcceptance : Option RawAccTree → Type 0
IsSoundAcceptance written = MatchOption written ⊥ (λ formula. fault_of_acc formula ≡ None)

-- the automaton of what was gathered and of the parts made of it
abbrev pub described : Gathered → ℕ → ℕ → AccTree → List State → Description
described gathered states sets acceptance defined = record {
  tool = gathered.tool;
  name = gathered.name;
  states = states;
  starts = gathered.starts.items;
  propositions = unwrap_or gathered.propositions [];
  acc_name = gathered.acc_name;
  sets = sets;
  acceptance = acceptance;
  properties = gathered.properties.items;
  unknown = gathered.unknown.items;
  defined = defined;
}
