-- The letters of symbols.
use Rattle.std.specs.Prelude.{ℕ}
use Rattle.omega_circuit.specs.declared.symbol.SymbolKind.{SymbolKind}
use Rattle.omega_circuit.specs.declared.symbol.SymbolKind.TheVariants.{Bad, Constraint, Fairness, Input}
use Rattle.omega_circuit.specs.declared.symbol.SymbolKind.TheVariants.{Justice, Latch, Output}

-- the letter with which symbols of a kind begin
abbrev pub kind_letter : SymbolKind → ℕ
kind_letter Input = 105
kind_letter Latch = 108
kind_letter Output = 111
kind_letter Bad = 98
kind_letter Constraint = 99
kind_letter Justice = 106
kind_letter Fairness = 102
