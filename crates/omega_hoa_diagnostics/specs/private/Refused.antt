-- The fault for which a text of one automaton is refused.
use Rattle.std.specs.Prelude.{◌≡◌, ℕ, List, Option, Some, None, Result, Ok, Err}
use Rattle.omega_text.specs.declared.refusal.Refusal.{Refusal}
use Rattle.omega_text.specs.declared.refusal.Refusal.TheVariants.{Automaton, Circuit, Game, Io, Memory, Task, Text}
use Rattle.omega_text.specs.declared.refusal.automaton.AutomatonFault.{AutomatonFault}
use Rattle.omega_hoa_syntax.specs.declared.raw_automaton.RawAutomaton.{RawAutomaton}
use Rattle.omega_hoa_automaton.specs.Faults.{automaton_fault_of}
use Rattle.omega_hoa_diagnostics.specs.AutomatonCauses.{WritesAutomaton}

-- what is written in a text has this fault, or none
abbrev pub HasFault : List ℕ → Option AutomatonFault → Type 0
HasFault text fault =
    (raw : RawAutomaton) → WritesAutomaton text raw → automaton_fault_of raw ≡ fault

-- an automaton is written in a text, and has this fault
pub record IsRefusedFor (text : List ℕ) (fault : AutomatonFault) : Type 0 where
  pub raw : RawAutomaton
  pub writes : WritesAutomaton text raw
  pub has : HasFault text (Some fault)

-- the fault for which a text of one automaton is refused; none if it is not refused, or if no automaton is written
abbrev pub IsFaultOf : List ℕ → Option AutomatonFault → Type 0
IsFaultOf text None = HasFault text None
IsFaultOf text (Some fault) = IsRefusedFor text fault

-- the fault that a refusal of a text of one automaton tells; want of memory tells nothing and is handed on
abbrev pub fault_in : Refusal → Result (Option AutomatonFault) Refusal
fault_in (Text fault) = Ok None
fault_in (Game fault) = Ok None
fault_in (Circuit fault) = Ok None
fault_in (Automaton fault) = Ok (Some fault)
fault_in (Task fault) = Ok None
fault_in Memory = Err Memory
fault_in Io = Ok None
