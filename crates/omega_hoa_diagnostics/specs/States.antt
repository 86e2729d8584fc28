-- States that are none, and states that are defined twice.
use Rattle.std.specs.Prelude.{ℕ, nat_eq, nat_le, if◌then◌else◌, Option, Some, option_map}
use Rattle.std.specs.Prelude.{unwrap_or, List, [], ◌++◌, codes, decimal, map}
use Rattle.std.specs.Option.{option_or}
use Rattle.omega_hoa_syntax.specs.declared.raw_automaton.RawAutomaton.{RawAutomaton}
use Rattle.omega_hoa_syntax.specs.declared.raw_edge.RawEdge.{RawEdge}
use Rattle.omega_hoa_syntax.specs.declared.raw_item.RawItem.{RawItem}
use Rattle.omega_hoa_syntax.specs.declared.raw_state.RawState.{RawState}
use Rattle.omega_hoa_automaton.specs.Faults.{state_count}
use Rattle.omega_hoa_automaton.specs.Items.{start_in}
use Rattle.omega_hoa_diagnostics.specs.Finding.{first_beyond, first_found, first_repeat, line_about}
use Rattle.omega_hoa_diagnostics.specs.declared.states.StateMention.{StateMention}
use Rattle.omega_hoa_diagnostics.specs.declared.states.StateMention.TheVariants.{Edge, Number, Start}

-- the first state of a start that is not below a count
abbrev pub start_beyond : ℕ → RawItem → Option StateMention
start_beyond count item =
    option_map (λ state. Start state) (first_beyond count (unwrap_or (start_in item) []))

-- the first state that an edge of a state leads to and that is not below a count
abbrev pub target_beyond : (count source : ℕ) → RawEdge → Option StateMention
target_beyond count source edge =
    option_map (λ target. Edge source target) (first_beyond count edge.targets)

-- the number of a state of the body if it is not below a count, else the first such that its edges lead to
abbrev pub state_beyond : ℕ → RawState → Option StateMention
state_beyond count state =
    if nat_le count state.number then Some (Number state.number)
    else first_found (target_beyond count state.number) state.edges

-- the first mentioned state that is not below the count of states
abbrev pub first_state_beyond : RawAutomaton → Option StateMention
first_state_beyond raw = option_or (first_found (start_beyond (state_count raw)) raw.items)
    (first_found (state_beyond (state_count raw)) raw.states)

-- the end of a line about a number that is no state
abbrev pub no_state : ℕ → List ℕ
no_state count = codes " is no state, there are " ++ (decimal count ++ codes "\n")

-- the line about a mentioned state that is none
abbrev pub no_state_line : ℕ → StateMention → List ℕ
no_state_line count (Start state) = codes "omega: start " ++ (decimal state ++ no_state count)
no_state_line count (Number state) = codes "omega: state " ++ (decimal state ++ no_state count)
no_state_line count (Edge source target) =
    codes "omega: state " ++ (decimal source ++ (codes ": " ++ (decimal target ++ no_state count)))

-- the line about the first mentioned state that is none
abbrev pub state_range_line : RawAutomaton → List ℕ
state_range_line raw = line_about (no_state_line (state_count raw)) (first_state_beyond raw)

-- the first number of a state of the body that a state before it has
abbrev pub first_state_twice : List RawState → Option ℕ
first_state_twice states = first_repeat nat_eq [] (map (λ state. state.number) states)

-- the line about a state that is defined twice
abbrev pub twice_line : ℕ → List ℕ
twice_line state = codes "omega: state " ++ (decimal state ++ codes " is defined twice\n")

-- the line about the first state that is defined twice
abbrev pub state_twice_line : RawAutomaton → List ℕ
state_twice_line raw = line_about twice_line (first_state_twice raw.states)
