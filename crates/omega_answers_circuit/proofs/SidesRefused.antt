-- Why there is no automaton of a circuit with some sides.
use Rattle.std.proofs.Common.{◌≡◌, ℕ, List, refl, ap}
use Rattle.omega_circuit.specs.Circuit.{CircuitValue}
use Rattle.omega_circuit_automaton.specs.Names.{AreFit, IsAutomatonRefusal, IsNameRefusal, proposition_names}
use Rattle.omega_text.specs.Cases.{IsMemory}
use Rattle.omega_text.specs.declared.refusal.Refusal.{Refusal}
use Rattle.omega_text.specs.declared.refusal.Refusal.TheVariants.{Automaton, Circuit, Game, Io, Memory, Task, Text}
use Rattle.omega_text.specs.declared.refusal.task.TaskFault.TheVariants.{Controllable}
use Rattle.omega_answers_circuit.specs.Sides.{AreSided, IsSided, IsSidesRefusal, IsUnsided, input_names, large, misnamed, not_sided, output_names}

module _ (names system : List (List ℕ)) (c : CircuitValue) where
  -- its names are refused
  pub names_refused : (refusal : Refusal) → IsNameRefusal (proposition_names c) IsMemory refusal → IsSidesRefusal names system c refusal
  names_refused (Automaton fault) h = misnamed h
  names_refused (Circuit fault) h = misnamed h
  names_refused Memory h = tt
  names_refused (Text fault) h = absurd h
  names_refused (Game fault) h = absurd h
  names_refused (Task fault) h = absurd h
  names_refused Io h = absurd h

  -- or they stand on other sides
  pub sides_refused : AreFit (proposition_names c) → ¬ AreSided names system (input_names c) (output_names c)
      → IsSidesRefusal names system c (Task Controllable)
  sides_refused fit not = not_sided fit not refl

  -- or it is too large
  pub automaton_refused : IsSided names system c → (refusal : Refusal) → IsAutomatonRefusal c refusal → IsSidesRefusal names system c refusal
  automaton_refused sided (Automaton fault) h = absurd (h.1 sided.fit.apart)
  automaton_refused sided (Circuit fault) h = absurd (h.2 sided.fit.quotable)
  automaton_refused sided (Task fault) h = large sided (ap Task h.0)
  automaton_refused sided Memory h = tt
  automaton_refused sided (Text fault) h = absurd h
  automaton_refused sided (Game fault) h = absurd h
  automaton_refused sided Io h = absurd h

  -- no read fails
  pub sides_are_read : ¬ IsUnsided names system c Io
  sides_are_read (misnamed h) = h
  sides_are_read (not_sided fit not e) = let no : Io ≡ Task Controllable = e in cc
  sides_are_read (large sided e) = cc
