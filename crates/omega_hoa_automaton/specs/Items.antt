-- What the items of a header say, as they are written (HOA v1, header).
use Rattle.std.specs.Prelude.{ℕ, List, [], Option, Some, None, slice_get}
use Rattle.std.specs.List.{filter_map}
use Rattle.omega_hoa_label_text.specs.Expanding.{Defined}
use Rattle.omega_hoa_acceptance.specs.Raw.{RawAccTree}
use Rattle.omega_hoa_acceptance.specs.declared.name.AccName.{AccName}
use Rattle.omega_hoa_syntax.specs.declared.raw_item.RawItem.{RawItem}
use Rattle.omega_hoa_syntax.specs.declared.raw_item.RawItem.TheVariants as item
use Rattle.omega_hoa_automaton.specs.declared.header.Header.{Header}
use Rattle.omega_hoa_automaton.specs.declared.tool.Tool.{Tool}

-- propositions: the count that is stated, and the names
pub record Named : Type 0 where
  pub count : ℕ
  pub names : List (List ℕ)

-- an acceptance: the count of sets, and the formula as it is written
pub record Accepted : Type 0 where
  pub count : ℕ
  pub formula : RawAccTree

-- what an item says: the count of states
abbrev pub states_in : RawItem → Option ℕ
states_in (item.States count) = Some count
states_in other = None

-- the states of a start
abbrev pub start_in : RawItem → Option (List ℕ)
start_in (item.Start states) = Some states
start_in other = None

-- the propositions
abbrev pub propositions_in : RawItem → Option Named
propositions_in (item.Propositions count names) = Some (record { count = count; names = names })
propositions_in other = None

-- an alias
abbrev pub alias_in : RawItem → Option Defined
alias_in (item.Alias name definition) = Some (record { name = name; body = definition })
alias_in other = None

-- the acceptance
abbrev pub acceptance_in : RawItem → Option Accepted
acceptance_in (item.Acceptance count formula) = Some (record { count = count; formula = formula })
acceptance_in other = None

-- the name of the acceptance
abbrev pub acc_name_in : RawItem → Option AccName
acc_name_in (item.AccName name) = Some name
acc_name_in other = None

-- the tool
abbrev pub tool_in : RawItem → Option Tool
tool_in (item.Tool first second) = Some (record { name = first; version = second })
tool_in other = None

-- the name of the automaton
abbrev pub name_in : RawItem → Option (List ℕ)
name_in (item.Name name) = Some name
name_in other = None

-- properties
abbrev pub properties_in : RawItem → List (List ℕ)
properties_in (item.Properties words) = words
properties_in other = []

-- a header that the format leaves open
abbrev pub unknown_in : RawItem → Option Header
unknown_in (item.Unknown name values) = Some (record { name = name; values = values })
unknown_in other = None

-- what the first of the items that say such a thing says, or none if no item does
abbrev pub first_said : {X : Type 0} → (RawItem → Option X) → List RawItem → Option X
first_said says items = slice_get (filter_map says items) 0
