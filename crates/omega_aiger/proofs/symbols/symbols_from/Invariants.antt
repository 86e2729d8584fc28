-- The symbols so far, and how many there may be yet.
use Rattle.std.proofs.Common.{◌-◌, ◌≤◌, List, [], length}
use Rattle.omega_aiger.specs.Forms.{most_symbols}
use Rattle.omega_aiger.specs.Symbols.{symbols_then}
use Rattle.omega_aiger.specs.private.Outcome.{GoesOn}
use Rattle.omega_circuit.specs.declared.parts.CircuitParts.{CircuitParts}
use Rattle.omega_circuit.specs.declared.symbol.Symbol.{Symbol}
use Rattle.omega_aiger.proofs.symbols.symbols_from.Given as goal

abbrev pub invariant-loop-symbols : goal.invariant-loop-symbols
invariant-loop-symbols l = record {
  within : l.end ≤ length l.text;
  room : length l.symbols.items ≤ l.end;
  read : (made : List Symbol → CircuitParts) → GoesOn l.text l.at (symbols_then most_symbols [] made) l.end (symbols_then (most_symbols - length l.symbols.items) l.symbols.items made);
}

abbrev pub decreases-loop-symbols : goal.decreases-loop-symbols
decreases-loop-symbols l = length l.text - l.end
