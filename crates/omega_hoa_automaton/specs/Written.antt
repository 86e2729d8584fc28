-- An automaton as a text writes it, from its header and its body (HOA v1, header and body).
use Rattle.std.specs.Prelude.{List, codes}
use Rattle.omega_hoa_syntax.specs.declared.raw_automaton.RawAutomaton.{RawAutomaton}
use Rattle.omega_hoa_syntax.specs.declared.raw_item.RawItem.{RawItem}
use Rattle.omega_hoa_syntax.specs.declared.raw_state.RawState.{RawState}

-- an automaton with a header and a body
abbrev pub raw_automaton : List RawItem → List RawState → RawAutomaton
raw_automaton items states = record { version = codes "v1"; items = items; states = states }
