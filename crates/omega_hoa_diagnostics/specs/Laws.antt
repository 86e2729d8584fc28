-- What the line about an automaton text says of the refusal of the text.
use Rattle.std.specs.Prelude.{◌≡◌, ℕ, Bool, true, false, List, []}
use Rattle.omega_text.specs.declared.refusal.Refusal.TheVariants.{Automaton}
use Rattle.omega_text.specs.declared.refusal.automaton.AutomatonFault.{AutomatonFault}
use Rattle.omega_text.specs.declared.refusal.automaton.AutomatonFault.TheVariants.{Alias, SetRange}
use Rattle.omega_text.specs.declared.refusal.automaton.AutomatonFault.TheVariants.{StateRange, StateTwice}
use Rattle.omega_hoa_syntax.specs.declared.raw_automaton.RawAutomaton.{RawAutomaton}
use Rattle.omega_hoa.specs.Alone.{IsAutomatonRefusal}
use Rattle.omega_hoa_diagnostics.specs.AutomatonCauses.{IsAutomatonCause, WritesAutomaton, fault_line}

-- whether a fault has a line: 24, 25, 27 and 28
abbrev pub has_line : AutomatonFault → Bool
has_line StateRange = true
has_line SetRange = true
has_line Alias = true
has_line StateTwice = true
has_line other = false

-- the line is about this fault of what is written in the text, and there is one if the fault has a line
pub record TellsFault (text line : List ℕ) (fault : AutomatonFault) : Type 0 where
  pub raw : RawAutomaton
  pub writes : WritesAutomaton text raw
  pub about : line ≡ fault_line raw fault
  pub there : has_line fault ≡ true → line ≡ [] → ⊥

-- the line for a text is about the fault for which the text is refused
abbrev pub CausesAreOfRefusals : Type 0
CausesAreOfRefusals =
    (text line : List ℕ) (fault : AutomatonFault) → IsAutomatonRefusal text (Automaton fault)
    → IsAutomatonCause text line → TellsFault text line fault
