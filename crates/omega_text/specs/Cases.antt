-- What is said of a refusal, family by family: a relation over refusals names only the families that it means.
use Rattle.omega_text.specs.declared.refusal.Refusal.{Refusal}
use Rattle.omega_text.specs.declared.refusal.Refusal.TheVariants.{Automaton, Circuit, Game, Io, Memory, Task, Text}
use Rattle.omega_text.specs.declared.refusal.text.TextFault.{TextFault}
use Rattle.omega_text.specs.declared.refusal.game.GameFault.{GameFault}
use Rattle.omega_text.specs.declared.refusal.automaton.AutomatonFault.{AutomatonFault}
use Rattle.omega_text.specs.declared.refusal.task.TaskFault.{TaskFault}
use Rattle.omega_text.specs.declared.refusal.circuit.CircuitFault.{CircuitFault}

-- no refusal
abbrev pub never : Refusal → Type 0
never (Text fault) = ⊥
never (Game fault) = ⊥
never (Automaton fault) = ⊥
never (Task fault) = ⊥
never Memory = ⊥
never Io = ⊥
never (Circuit fault) = ⊥

-- a fault of a text for which this holds, or one of the others
abbrev pub or_text : (TextFault → Type 0) → (Refusal → Type 0) → Refusal → Type 0
or_text holds others (Text fault) = holds fault
or_text holds others refusal = others refusal

-- a fault of specifications of a game for which this holds, or one of the others
abbrev pub or_game : (GameFault → Type 0) → (Refusal → Type 0) → Refusal → Type 0
or_game holds others (Game fault) = holds fault
or_game holds others refusal = others refusal

-- a fault of an automaton for which this holds, or one of the others
abbrev pub or_automaton : (AutomatonFault → Type 0) → (Refusal → Type 0) → Refusal → Type 0
or_automaton holds others (Automaton fault) = holds fault
or_automaton holds others refusal = others refusal

-- a fault of a task for which this holds, or one of the others
abbrev pub or_task : (TaskFault → Type 0) → (Refusal → Type 0) → Refusal → Type 0
or_task holds others (Task fault) = holds fault
or_task holds others refusal = others refusal

-- a fault of a circuit for which this holds, or one of the others
abbrev pub or_circuit : (CircuitFault → Type 0) → (Refusal → Type 0) → Refusal → Type 0
or_circuit holds others (Circuit fault) = holds fault
or_circuit holds others refusal = others refusal

-- want of memory, or one of the others
abbrev pub or_memory : (Refusal → Type 0) → Refusal → Type 0
or_memory others Memory = Unit {0}
or_memory others refusal = others refusal

-- want of memory alone
abbrev pub IsMemory : Refusal → Type 0
IsMemory = or_memory never

-- a failed read or write, or one of the others
abbrev pub or_io : (Refusal → Type 0) → Refusal → Type 0
or_io others Io = Unit {0}
or_io others refusal = others refusal
