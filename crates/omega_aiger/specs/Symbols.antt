-- Layouts of symbols and of the comment after them.
use Rattle.std.specs.Prelude.{ℕ, zero, suc, List, [], ◌∷◌, ◌++◌}
use Rattle.omega_aiger.specs.Layout.{Layout, byte, either, finish, line, number, rest}
use Rattle.omega_circuit.specs.declared.parts.CircuitParts.{CircuitParts}
use Rattle.omega_circuit.specs.declared.symbol.Symbol.{Symbol}
use Rattle.omega_circuit.specs.declared.symbol.SymbolKind.{SymbolKind}
use Rattle.omega_circuit.specs.declared.symbol.SymbolKind.TheVariants.{Bad, Constraint, Fairness, Input}
use Rattle.omega_circuit.specs.declared.symbol.SymbolKind.TheVariants.{Justice, Latch, Output}

-- a symbol
abbrev pub symbol_of : SymbolKind → ℕ → List ℕ → Symbol
symbol_of kind position name = record { kind = kind; position = position; name = name }

-- a symbol after its letter: a position, a space, a name, and a line feed
abbrev pub symbol_end : SymbolKind → (Symbol → Layout) → Layout
symbol_end kind next = number (λ position. byte 32 (line (λ name. next (symbol_of kind position name))))

-- the end of a text: nothing more; or a symbol after its letter and then more; or a `c`, a line feed and any bytes
abbrev pub ending : (Symbol → Layout) → CircuitParts → Layout
ending next parts = either 105 (symbol_end Input next) (either 108 (symbol_end Latch next)
    (either 111 (symbol_end Output next) (either 98 (symbol_end Bad next)
    (either 99 (either 10 (rest parts) (symbol_end Constraint next))
    (either 106 (symbol_end Justice next) (either 102 (symbol_end Fairness next) (finish parts)))))))

-- at most so many symbols, and perhaps a comment
abbrev pub symbols_then : ℕ → List Symbol → (List Symbol → CircuitParts) → Layout
symbols_then zero read made = finish (made read)
symbols_then (suc most) read made =
    ending (λ symbol. symbols_then most (read ++ symbol ∷ []) made) (made read)
