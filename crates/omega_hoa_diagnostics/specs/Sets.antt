-- Sets that are none.
use Rattle.std.specs.Prelude.{ℕ, min, nat_lt, if◌then◌else◌, Option, Some, None}
use Rattle.std.specs.Prelude.{option_and_then, option_map, List, ◌++◌, codes, decimal}
use Rattle.std.specs.List.{list_all}
use Rattle.std.specs.Option.{option_or}
use Rattle.omega_text.specs.Limits.{most_number}
use Rattle.omega_hoa_acceptance.specs.Meaning.{acc_sets}
use Rattle.omega_hoa_acceptance.specs.Raw.{RawAccTree}
use Rattle.omega_hoa_syntax.specs.declared.raw_automaton.RawAutomaton.{RawAutomaton}
use Rattle.omega_hoa_syntax.specs.declared.raw_item.RawItem.{RawItem}
use Rattle.omega_hoa_syntax.specs.declared.raw_state.RawState.{RawState}
use Rattle.omega_hoa_automaton.specs.Faults.{greatest_of, set_count}
use Rattle.omega_hoa_automaton.specs.Items.{acceptance_in}
use Rattle.omega_hoa_automaton.specs.Meaning.{written_marks}
use Rattle.omega_hoa_diagnostics.specs.Finding.{first_beyond, first_found, line_about}
use Rattle.omega_hoa_diagnostics.specs.declared.sets.SetMention.{SetMention}
use Rattle.omega_hoa_diagnostics.specs.declared.sets.SetMention.TheVariants.{Acceptance, Mark}

-- the greatest set of a formula, or 0 without sets; at most the greatest number of a text, which no text exceeds
abbrev pub greatest_set : RawAccTree → ℕ
greatest_set formula = min most_number (greatest_of (λ set. set) (acc_sets formula))

-- the greatest set of a formula, if one is not below a count
abbrev pub formula_set_beyond : ℕ → RawAccTree → Option SetMention
formula_set_beyond count formula =
    if list_all (λ set. nat_lt set count) (acc_sets formula) then None
    else Some (Acceptance (greatest_set formula))

-- the same of an item
abbrev pub item_set_beyond : ℕ → RawItem → Option SetMention
item_set_beyond count item =
    option_and_then (λ accepted. formula_set_beyond count accepted.formula) (acceptance_in item)

-- the first mark of a state or of an edge of it that is not below a count
abbrev pub mark_beyond : (count state : ℕ) → Option (List ℕ) → Option SetMention
mark_beyond count state marks =
    option_map (λ set. Mark state set) (first_beyond count (written_marks marks))

-- the first of the marks of a state of the body and then of its edges that is not below a count
abbrev pub state_set_beyond : ℕ → RawState → Option SetMention
state_set_beyond count state =
    option_or (mark_beyond count state.number state.marks)
    (first_found (λ edge. mark_beyond count state.number edge.marks) state.edges)

-- the first mentioned set that is not below the count of sets; of the acceptance the greatest set is said
abbrev pub first_set_beyond : RawAutomaton → Option SetMention
first_set_beyond raw = option_or (first_found (item_set_beyond (set_count raw)) raw.items)
    (first_found (state_set_beyond (set_count raw)) raw.states)

-- the end of a line about a number that is no set
abbrev pub no_set : (count set : ℕ) → List ℕ
no_set count set = codes ": set "
    ++ (decimal set ++ (codes " is none, there are " ++ (decimal count ++ codes "\n")))

-- the line about a mentioned set that is none
abbrev pub no_set_line : ℕ → SetMention → List ℕ
no_set_line count (Acceptance set) = codes "omega: acceptance" ++ no_set count set
no_set_line count (Mark state set) = codes "omega: state " ++ (decimal state ++ no_set count set)

-- the line about the first mentioned set that is none
abbrev pub set_range_line : RawAutomaton → List ℕ
set_range_line raw = line_about (no_set_line (set_count raw)) (first_set_beyond raw)
