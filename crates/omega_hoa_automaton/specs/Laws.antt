-- Laws of faults and meanings, whatever the code does.
use Rattle.std.specs.Prelude.{◌≡◌, ◌<◌, true, false, Some, None}
use Rattle.omega_text.specs.Refusal.{automaton_number}
use Rattle.omega_text.specs.declared.refusal.automaton.AutomatonFault.{AutomatonFault}
use Rattle.omega_hoa_syntax.specs.declared.raw_automaton.RawAutomaton.{RawAutomaton}
use Rattle.omega_hoa_automaton.specs.Automaton.{Description, IsAutomaton}
use Rattle.omega_hoa_automaton.specs.Faults.{applies, automaton_fault_of}
use Rattle.omega_hoa_automaton.specs.Meaning.{Means}

-- the fault of an automaton that is written applies, and none with a lesser number does
abbrev pub FaultsAreLeast : Type 0
FaultsAreLeast = (raw : RawAutomaton) (fault : AutomatonFault) → automaton_fault_of raw ≡ Some fault
    → (applies raw fault ≡ true) × ((other : AutomatonFault)
    → automaton_number other < automaton_number fault → applies raw other ≡ false)

-- if there is no fault, no fault applies
abbrev pub NoFaultIsNone : Type 0
NoFaultIsNone = (raw : RawAutomaton) (fault : AutomatonFault) → automaton_fault_of raw ≡ None
    → applies raw fault ≡ false

-- an automaton that is written means at most one automaton
abbrev pub MeaningsAreOne : Type 0
MeaningsAreOne = (raw : RawAutomaton) (a b : Description) → Means raw a → Means raw b → a ≡ b

-- what means an automaton has no fault
abbrev pub MeaningsHaveNoFault : Type 0
MeaningsHaveNoFault = (raw : RawAutomaton) (a : Description) (fault : AutomatonFault) → Means raw a
    → applies raw fault ≡ false

-- if there is no fault, there is a meaning: an automaton that is written has one fault or means one automaton
abbrev pub MeaningsAreThere : Type 0
MeaningsAreThere = (raw : RawAutomaton) → automaton_fault_of raw ≡ None
    → (a : Description) × Means raw a

-- what an automaton that is written means is an automaton: numbers below their counts, each state defined at most once,
-- and the limits
abbrev pub MeaningsAreAutomata : Type 0
MeaningsAreAutomata = (raw : RawAutomaton) (a : Description) → Means raw a → IsAutomaton a
