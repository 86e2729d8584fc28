-- On which side the names of a circuit stand: its inputs are the environment's propositions, its outputs the system's.
use Rattle.std.specs.Prelude.{◌≡◌, ℕ, List, All, Contains, length}
use Rattle.omega_circuit.specs.Circuit.{CircuitValue}
use Rattle.omega_circuit.specs.declared.symbol.SymbolKind.TheVariants.{Input, Output}
use Rattle.omega_circuit_automaton.specs.CircuitAutomaton.{AcceptsWordsOf, AnswersEachOnce}
use Rattle.omega_circuit_automaton.specs.CircuitAutomaton.{HasCircuitHeader, HasValuations}
use Rattle.omega_circuit_automaton.specs.Names.{AreFit, IsNameRefusal, first_names, proposition_names}
use Rattle.omega_hoa_automaton.specs.Automaton.{Description}
use Rattle.omega_hoa_edges.specs.Determinism.{IsDeterministic}
use Rattle.omega_text.specs.Cases.{never, or_memory}
use Rattle.omega_text.specs.declared.refusal.Refusal.{Refusal}
use Rattle.omega_text.specs.declared.refusal.Refusal.TheVariants.{Task}
use Rattle.omega_text.specs.declared.refusal.task.TaskFault.TheVariants.{Controllable, TooLarge}

-- the names of the inputs, and those of the outputs
abbrev pub input_names : CircuitValue → List (List ℕ)
input_names c = first_names Input (length c.inputs) c.symbols

abbrev pub output_names : CircuitValue → List (List ℕ)
output_names c = first_names Output (length c.outputs) c.symbols

-- of some names, the system controls those that are listed, and the environment all others. No input is named like one
-- of the system, and no output like one of the environment
pub record AreSided (names system inputs outputs : List (List ℕ)) : Type 0 where
  pub inputs_apart : All (λ name. ¬ Contains system name) inputs
  pub outputs_within : All (λ name. Contains names name → Contains system name) outputs

-- the names of a circuit are those of an automaton, and its inputs and outputs stand on these sides
pub record IsSided (names system : List (List ℕ)) (c : CircuitValue) : Type 0 where
  pub fit : AreFit (proposition_names c)
  pub sided : AreSided names system (input_names c) (output_names c)

-- an automaton is that of a circuit, as `circuit_automaton` returns it
pub record IsAutomatonOf (c : CircuitValue) (a : Description) : Type 0 where
  pub words : AcceptsWordsOf c a
  pub answers : AnswersEachOnce c a
  pub deterministic : IsDeterministic a
  pub states : HasValuations c a
  pub header : HasCircuitHeader c a

-- why there is no automaton of a circuit with these sides: its names are not those of an automaton, or else do not
-- stand on these sides, or else it is too large
pub data IsUnsided (names system : List (List ℕ)) (c : CircuitValue) (refusal : Refusal) : Type 0 where
  misnamed : IsNameRefusal (proposition_names c) never refusal → IsUnsided names system c refusal
  not_sided : AreFit (proposition_names c) → ¬ AreSided names system (input_names c) (output_names c)
      → refusal ≡ Task Controllable
      → IsUnsided names system c refusal
  large : IsSided names system c → refusal ≡ Task TooLarge → IsUnsided names system c refusal

-- that, or want of memory
abbrev pub IsSidesRefusal : (names system : List (List ℕ)) → CircuitValue → Refusal → Type 0
IsSidesRefusal names system c = or_memory (IsUnsided names system c)
