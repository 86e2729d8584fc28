-- The outputs of a formula: the names that the system controls. All others are the environment's. A command line lists
-- the outputs, or the inputs, or both, and each name that it lists is one of the formula's.
use Rattle.std.specs.Prelude.{◌≡◌, ◌⊎◌, ◌↔◌, ℕ, true, not, List, [], Contains, Option, None, Some, filter, option_map}
use Rattle.std.specs.List.{list_any}
use Rattle.std.specs.Str.{bytes_eq}
use Rattle.omega_text.specs.Cases.{or_memory}
use Rattle.omega_text.specs.declared.refusal.Refusal.{Refusal}
use Rattle.omega_text.specs.declared.refusal.Refusal.TheVariants.{Memory, Task}
use Rattle.omega_text.specs.declared.refusal.task.TaskFault.TheVariants.{Controllable}
use Rattle.omega_hoa_automaton.specs.Automaton.{Description}
use Rattle.omega_io.specs.Refused.{about, about_none}
use Rattle.omega_io.specs.declared.refused.Refused.{Refused}
use Rattle.omega_io.specs.declared.refused.Which.TheVariants.{File, Input}
use Rattle.omega_ltl_formula.specs.Table.{NumberedFormula}
use Rattle.omega_synth_check.specs.CounterLaws.{AreNumbersOfNames}
use Rattle.omega_synth_check.specs.CounterRefusing.{system_numbers}
use Rattle.omega_synth_controllers.specs.Controllable.{HasControlled, IsControlled, has_item}
use Rattle.omega_answers_synth.specs.declared.given_names.GivenNames.{GivenNames}

-- the list of names that the system controls, and that of names that the environment controls, each if it is given
pub record NameLists : Type 0 where
  pub outs : Option (List (List ℕ))
  pub ins : Option (List (List ℕ))

-- the lists that are lent
abbrev pub lists_of : GivenNames → NameLists
lists_of names = record {
  outs = option_map (λ list. list.now) names.outs;
  ins = option_map (λ list. list.now) names.ins;
}

-- ---- how lists part the names of a formula

-- each of some names is a name of the formula
abbrev pub AreNamed : NumberedFormula → (names : List (List ℕ)) → Type 0
AreNamed formula names = (name : List ℕ) → Contains names name → Contains formula.table.names name

-- each name of the formula is in exactly one of two lists
abbrev pub AreApart : NumberedFormula → (outs ins : List (List ℕ)) → Type 0
AreApart formula outs ins =
    (name : List ℕ) → Contains formula.table.names name → Contains outs name ↔ ¬ Contains ins name

-- the lists that are given part the names: one is given at least, each name that is listed is one of the formula's, and
-- if both are given, each name of the formula is in exactly one of them
abbrev pub ArePartedBy : NumberedFormula → (outs ins : Option (List (List ℕ))) → Type 0
ArePartedBy formula None None = ⊥
ArePartedBy formula (Some outs) None = AreNamed formula outs
ArePartedBy formula None (Some ins) = AreNamed formula ins
ArePartedBy formula (Some outs) (Some ins) =
    AreNamed formula outs × AreNamed formula ins × AreApart formula outs ins

-- those of some names that are not among others
abbrev pub names_without : (others names : List (List ℕ)) → List (List ℕ)
names_without others names = filter (λ name. not (list_any (bytes_eq name) others)) names

-- the outputs: those that are listed, or else the names of the formula that are not listed as inputs
abbrev pub outputs_by : NumberedFormula → (outs ins : Option (List (List ℕ))) → List (List ℕ)
outputs_by formula (Some outs) ins = outs
outputs_by formula None (Some ins) = names_without ins formula.table.names
outputs_by formula None None = []

-- so it is of both lists together
abbrev pub AreParted : NumberedFormula → NameLists → Type 0
AreParted formula lists = ArePartedBy formula lists.outs lists.ins

abbrev pub outputs_in : NumberedFormula → NameLists → List (List ℕ)
outputs_in formula lists = outputs_by formula lists.outs lists.ins

-- the lists part the names of the formula, and these are the outputs
pub record AreListedOutputs (formula : NumberedFormula) (lists : NameLists)
    (outs : List (List ℕ)) : Type 0 where
  pub parted : AreParted formula lists
  pub are : outs ≡ outputs_in formula lists

-- the refusal of lists that do not part them, or want of memory
abbrev pub IsUnparted : NumberedFormula → NameLists → Refusal → Type 0
IsUnparted formula lists =
    or_memory (λ refusal. (refusal ≡ Task Controllable) × ¬ AreParted formula lists)

-- ---- answers and refusals with such lists

-- the lists part the names of the formula, and this holds of the outputs
pub record OfOutputs (formula : NumberedFormula) (lists : NameLists) (Holds : List (List ℕ) → Type 0)
    : Type 0 where
  pub parted : AreParted formula lists
  pub holds : Holds (outputs_in formula lists)

-- the lists do not part the names of the formula, or else it is refused so with the outputs
pub data IsRefusalWithLists (formula : NumberedFormula) (lists : NameLists)
    (Refuses : List (List ℕ) → Refusal → Type 0) (refusal : Refusal) : Type 0 where
  not_parted : ¬ AreParted formula lists → refusal ≡ Task Controllable
      → IsRefusalWithLists formula lists Refuses refusal
  with_outputs : AreParted formula lists → Refuses (outputs_in formula lists) refusal
      → IsRefusalWithLists formula lists Refuses refusal

-- so it is of two texts, where the formula is that of the file; and memory can be wanting
pub data IsRefusedWithLists (formula : NumberedFormula) (lists : NameLists)
    (Refuses : List (List ℕ) → Refused → Type 0) (refused : Refused) : Type 0 where
  no_memory : refused ≡ about_none Memory → IsRefusedWithLists formula lists Refuses refused
  lists_refused : ¬ AreParted formula lists → refused ≡ about File (Task Controllable)
      → IsRefusedWithLists formula lists Refuses refused
  outputs_refused : AreParted formula lists → Refuses (outputs_in formula lists) refused
      → IsRefusedWithLists formula lists Refuses refused

-- ---- outputs and an automaton

-- the numbers of the outputs among the propositions of an automaton
abbrev pub output_numbers : Description → (outs : List (List ℕ)) → List ℕ
output_numbers a outs = system_numbers a.propositions outs

-- the outputs are those of the automaton too: if it has the item `controllable-AP:`, this lists exactly its
-- propositions of these names
pub record AreOutputs (outs : List (List ℕ)) (a : Description) : Type 0 where
  pub listed : List ℕ
  pub item : IsControlled a listed
  pub alike : has_item a ≡ true → AreNumbersOfNames a listed outs

-- why they are not: the item is refused, or it lists other propositions
pub data AreNotOutputs (outs : List (List ℕ)) (a : Description) : Type 0 where
  item_misstated : ¬ HasControlled a → AreNotOutputs outs a
  item_unlike : (listed : List ℕ) → IsControlled a listed → has_item a ≡ true
      → ¬ AreNumbersOfNames a listed outs → AreNotOutputs outs a

-- that is refused, of the automaton of the input, or memory is wanting
abbrev pub AreOutputsRefused : (outs : List (List ℕ)) → Description → Refused → Type 0
AreOutputsRefused outs a refused = (refused ≡ about_none Memory)
    ⊎ (AreNotOutputs outs a × (refused ≡ about Input (Task Controllable)))
