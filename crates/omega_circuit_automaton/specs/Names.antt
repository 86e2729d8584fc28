-- The names of a circuit's inputs and outputs as propositions, and when they are refused.
use Rattle.std.specs.Prelude.{◌≡◌, ◌≤◌, ◌++◌, ℕ, false, List, All, length, map}
use Rattle.std.specs.List.{range_with_len}
use Rattle.std.specs.Str.{bytes_eq}
use Rattle.omega_text.specs.Cases.{never, or_automaton, or_circuit, or_memory, or_task}
use Rattle.omega_text.specs.hoa.Forms.{IsQuotable}
use Rattle.omega_text.specs.declared.refusal.Refusal.{Refusal}
use Rattle.omega_text.specs.declared.refusal.automaton.AutomatonFault.TheVariants.{Proposition}
use Rattle.omega_text.specs.declared.refusal.circuit.CircuitFault.TheVariants.{Name}
use Rattle.omega_text.specs.declared.refusal.task.TaskFault.TheVariants.{TooLarge}
use Rattle.omega_hoa_automaton.specs.Automaton.{has_repeat}
use Rattle.omega_hoa_automaton.specs.Limits.{most_propositions}
use Rattle.omega_circuit.specs.Circuit.{CircuitValue}
use Rattle.omega_circuit.specs.Rounds.{name_of}
use Rattle.omega_circuit.specs.declared.symbol.Symbol.{Symbol}
use Rattle.omega_circuit.specs.declared.symbol.SymbolKind.{SymbolKind}
use Rattle.omega_circuit.specs.declared.symbol.SymbolKind.TheVariants.{Input, Output}

-- the names of the first positions of a kind
abbrev pub first_names : SymbolKind → ℕ → List Symbol → List (List ℕ)
first_names kind count symbols = map (λ position. name_of kind position symbols) (range_with_len 0 count)

-- the names of the inputs, and then those of the outputs
abbrev pub proposition_names : CircuitValue → List (List ℕ)
proposition_names c = first_names Input (length c.inputs) c.symbols
    ++ first_names Output (length c.outputs) c.symbols

-- names of propositions of an automaton: not too many, and each another
pub record AreApart (names : List (List ℕ)) : Type 0 where
  pub few : length names ≤ most_propositions
  pub unlike : has_repeat bytes_eq names ≡ false

-- the names are those of an automaton, and the Hanoi format can write them
pub record AreFit (names : List (List ℕ)) : Type 0 where
  pub apart : AreApart names
  pub quotable : All IsQuotable names

-- a refusal by names: 26 if they are too many or alike, else 78 if the Hanoi format cannot write one
abbrev pub IsNameRefusal : List (List ℕ) → (Refusal → Type 0) → Refusal → Type 0
IsNameRefusal names others = or_automaton (λ fault. (fault ≡ Proposition) × (AreApart names → ⊥))
    (or_circuit (λ fault. (fault ≡ Name) × AreApart names × (All IsQuotable names → ⊥)) others)

-- the refusals of the automaton of a circuit: by names, or because a limit is passed, or for want of memory
abbrev pub IsAutomatonRefusal : CircuitValue → Refusal → Type 0
IsAutomatonRefusal c = IsNameRefusal (proposition_names c)
    (or_task (λ fault. (fault ≡ TooLarge) × AreFit (proposition_names c)) (or_memory never))
