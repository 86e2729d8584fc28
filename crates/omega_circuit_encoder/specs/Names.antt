-- The inputs and outputs of the circuit of a controller, and their names.
use Rattle.std.specs.Prelude.{◌≡◌, ◌==◌, ◌<◌, ◌+◌, ℕ, Bool, true, false, not, List, [], ◌∷◌, ◌++◌}
use Rattle.std.specs.Prelude.{filter, length, map, slice_index_or, if◌then◌else◌}
use Rattle.std.specs.List.{list_any, range_with_len}
use Rattle.omega_circuit.specs.Circuit.{CircuitValue}
use Rattle.omega_circuit.specs.declared.symbol.Symbol.{Symbol}
use Rattle.omega_circuit.specs.declared.symbol.SymbolKind.{SymbolKind}
use Rattle.omega_circuit.specs.declared.symbol.SymbolKind.TheVariants.{Input, Output}

-- a proposition is the system's, if it controls these
abbrev pub is_controlled : List ℕ → ℕ → Bool
is_controlled controlled p = list_any (λ other. other == p) controlled

-- those of the first propositions that are the system's, or, without `system`, the environment's
abbrev pub propositions_of : (system : Bool) → ℕ → List ℕ → List ℕ
propositions_of system count controlled =
    filter (λ p. if system then is_controlled controlled p else not (is_controlled controlled p))
    (range_with_len 0 count)

-- the names of the system's propositions in order, or of the environment's
abbrev pub names_of : (system : Bool) → List (List ℕ) → List ℕ → List (List ℕ)
names_of system names controlled =
    map (λ p. slice_index_or names p []) (propositions_of system (length names) controlled)

-- the symbols that give these names to the positions of a kind, from one on
abbrev pub symbols_from : SymbolKind → ℕ → List (List ℕ) → List Symbol
symbols_from kind position [] = []
symbols_from kind position (name ∷ names) =
    record { kind = kind; position = position; name = name } ∷ symbols_from kind (position + 1) names

-- the inputs of a circuit are the environment's propositions, and its outputs are the system's, in order and by name
pub record HasNamesOf (names : List (List ℕ)) (controlled : List ℕ) (c : CircuitValue) : Type 0 where
  pub inputs : length c.inputs ≡ length (names_of false names controlled)
  pub outputs : length c.outputs ≡ length (names_of true names controlled)
  pub symbols : c.symbols ≡ symbols_from Input 0 (names_of false names controlled)
      ++ symbols_from Output 0 (names_of true names controlled)

-- a name that a symbol can have: not empty, and without a line feed
pub record IsSymbolName (name : List ℕ) : Type 0 where
  pub some : 0 < length name
  pub plain : list_any (λ byte. byte == 10) name ≡ false
