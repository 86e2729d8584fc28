-- The layout of texts of circuits is proper.
use Rattle.std.proofs.Common.{◌≡◌, ℕ, zero, suc, ◌+◌, List, [], ◌∷◌, ◌++◌, true, false, refl, arith}
use Rattle.std.specs.Prelude.{codes, slice_index, sum}
use Rattle.std.proofs.lemmas.Bool.{ne_eqb}
use Rattle.omega_aiger.specs.Deltas.{literal_of}
use Rattle.omega_aiger.specs.Forms.{Counts, ascii_body, binary_body, circuit_layout, counts_end, counts_of, counts_then, form_layout, most_symbols, properties_then}
use Rattle.omega_aiger.specs.Layout.{Layout}
use Rattle.omega_aiger.specs.Lines.{bytes_then, gate_by, gate_deltas, gate_lines, gate_of, latch_lines, latch_of, next_lines, number_lines, reset_end}
use Rattle.omega_aiger.specs.Symbols.{ending, symbol_end, symbol_of, symbols_then}
use Rattle.omega_aiger.proofs.Proper.{Avoids, IsProper, is_byte}
use Rattle.omega_text.specs.Bytes.{is_digit}
use Rattle.omega_text.proofs.pg_texts.Classes.{digit_range}
use Rattle.omega_circuit.specs.declared.gate.Gate.{Gate}
use Rattle.omega_circuit.specs.declared.latch.Latch.{Latch}
use Rattle.omega_circuit.specs.declared.parts.CircuitParts.{CircuitParts}
use Rattle.omega_circuit.specs.declared.properties.Properties.{Properties}
use Rattle.omega_circuit.specs.declared.symbol.Symbol.{Symbol}
use Rattle.omega_circuit.specs.declared.symbol.SymbolKind.{SymbolKind}
use Rattle.omega_circuit.specs.declared.symbol.SymbolKind.TheVariants.{Bad, Constraint, Fairness, Input, Justice, Latch as OfLatch, Output}

pub bytes_proper : (bytes : List ℕ) (next : Layout) → IsProper next → IsProper (bytes_then bytes next)
bytes_proper [] next proper = proper
bytes_proper (b ∷ bytes) next proper = bytes_proper bytes next proper

numbers_proper : (count : ℕ) (read : List ℕ) (next : List ℕ → Layout) → ((read : List ℕ) → IsProper (next read)) → IsProper (number_lines count read next)
numbers_proper zero read next proper = proper read
numbers_proper (suc count) read next proper = λ n. (numbers_proper count (read ++ n ∷ []) next proper, refl)

reset_proper : (next : ℕ → Layout) → ((reset : ℕ) → IsProper (next reset)) → IsProper (reset_end next)
reset_proper next proper = (λ reset. (proper reset, refl), proper 0, refl)

latches_proper : (count : ℕ) (read : List Latch) (next : List Latch → Layout) → ((read : List Latch) → IsProper (next read)) → IsProper (latch_lines count read next)
latches_proper zero read next proper = proper read
latches_proper (suc count) read next proper = λ literal. (
  λ following. (
    reset_proper (λ reset. latch_lines count (read ++ latch_of literal following reset ∷ []) next)
        (λ reset. latches_proper count (read ++ latch_of literal following reset ∷ []) next proper),
    (refl, refl),
  ),
  refl,
)

gates_proper : (count : ℕ) (read : List Gate) (next : List Gate → Layout) → ((read : List Gate) → IsProper (next read)) → IsProper (gate_lines count read next)
gates_proper zero read next proper = proper read
gates_proper (suc count) read next proper = λ literal. (λ left. (λ right. (gates_proper count (read ++ gate_of literal left right ∷ []) next proper, refl), refl), refl)

nexts_proper : (variable count : ℕ) (read : List Latch) (next : List Latch → Layout) → ((read : List Latch) → IsProper (next read)) → IsProper (next_lines variable count read next)
nexts_proper variable zero read next proper = proper read
nexts_proper variable (suc count) read next proper = λ following. (
  reset_proper (λ reset. next_lines (variable + 1) count (read ++ latch_of (literal_of variable) following reset ∷ []) next)
      (λ reset. nexts_proper (variable + 1) count (read ++ latch_of (literal_of variable) following reset ∷ []) next proper),
  (refl, refl),
)

deltas_proper : (variable count : ℕ) (read : List Gate) (next : List Gate → Layout) → ((read : List Gate) → IsProper (next read)) → IsProper (gate_deltas variable count read next)
deltas_proper variable zero read next proper = proper read
deltas_proper variable (suc count) read next proper = λ first second. deltas_proper (variable + 1) count (read ++ gate_by (literal_of variable) first second ∷ []) next proper

symbol_proper : (kind : SymbolKind) (next : Symbol → Layout) → ((symbol : Symbol) → IsProper (next symbol)) → IsProper (symbol_end kind next)
symbol_proper kind next proper = λ position. (λ name. proper (symbol_of kind position name), refl)

-- a digit is no line feed
no_feed : (b : ℕ) → is_digit b ≡ true → is_byte 10 b ≡ false
no_feed b digit = ne_eqb b 10 (λ is. let r = digit_range b digit in omega (arith, r, is))

ending_proper : (next : Symbol → Layout) (parts : CircuitParts) → ((symbol : Symbol) → IsProper (next symbol)) → IsProper (ending next parts)
ending_proper next parts proper = (
  symbol_proper Input next proper,
  (
    symbol_proper OfLatch next proper,
    (
      symbol_proper Output next proper,
      (
        symbol_proper Bad next proper,
        (
          (tt, symbol_proper Constraint next proper, no_feed),
          (
            symbol_proper Justice next proper,
            (symbol_proper Fairness next proper, tt, tt),
            (refl, tt),
          ),
          (refl, (refl, tt)),
        ),
        (refl, (refl, (refl, tt))),
      ),
      (refl, (refl, (refl, (refl, tt)))),
    ),
    (refl, (refl, (refl, (refl, (refl, tt))))),
  ),
  (refl, (refl, (refl, (refl, (refl, (refl, tt)))))),
)

symbols_proper : (most : ℕ) (read : List Symbol) (made : List Symbol → CircuitParts) → IsProper (symbols_then most read made)
symbols_proper zero read made = tt
symbols_proper (suc most) read made =
    ending_proper (λ symbol. symbols_then most (read ++ symbol ∷ []) made) (made read) (λ symbol. symbols_proper most (read ++ symbol ∷ []) made)

properties_proper : (counts : List ℕ) (next : Properties → Layout) → ((properties : Properties) → IsProper (next properties)) → IsProper (properties_then counts next)
unfolding properties_then
properties_proper counts next proper =
    numbers_proper (slice_index counts 0) [] _ (λ bad. numbers_proper (slice_index counts 1) [] _ (λ constraints. numbers_proper (slice_index counts 2) [] _ (λ sizes.
    numbers_proper (sum sizes) [] _ (λ justice. numbers_proper (slice_index counts 3) [] _ (λ fairness. proper _)))))

counts_end_avoids : (most : ℕ) (read : List ℕ) (next : List ℕ → Layout) → Avoids is_digit (counts_end most read next)
counts_end_avoids zero read next = refl
counts_end_avoids (suc most) read next = (refl, refl)

counts_end_proper : (most : ℕ) (read : List ℕ) (next : List ℕ → Layout) → ((read : List ℕ) → IsProper (next read)) → IsProper (counts_end most read next)
counts_end_proper zero read next proper = proper read
counts_end_proper (suc most) read next proper =
    (λ n. (counts_end_proper most (read ++ n ∷ []) next proper, counts_end_avoids most (read ++ n ∷ []) next), proper read, refl)

counts_proper : (next : Counts → Layout) → ((counts : Counts) → IsProper (next counts)) → IsProper (counts_then next)
unfolding counts_then
counts_proper next proper = λ most. (
  λ inputs. (
    λ latches. (
      λ outputs. (
        λ gates. (
          counts_end_proper 4 [] (λ properties. next (counts_of most inputs latches outputs gates properties)) (λ properties. proper (counts_of most inputs latches outputs gates properties)),
          (refl, refl),
        ),
        refl,
      ),
      refl,
    ),
    refl,
  ),
  refl,
)

ascii_proper : (counts : Counts) → IsProper (ascii_body counts)
unfolding ascii_body
ascii_proper counts =
    numbers_proper counts.inputs [] _ (λ inputs. latches_proper counts.latches [] _ (λ latches. numbers_proper counts.outputs [] _ (λ outputs.
    properties_proper counts.properties _ (λ properties. gates_proper counts.gates [] _ (λ gates. symbols_proper most_symbols [] _)))))

binary_proper : (counts : Counts) → IsProper (binary_body counts)
unfolding binary_body
binary_proper counts =
    nexts_proper (counts.inputs + 1) counts.latches [] _ (λ latches. numbers_proper counts.outputs [] _ (λ outputs.
    properties_proper counts.properties _ (λ properties. deltas_proper (counts.inputs + counts.latches + 1) counts.gates [] _ (λ gates. symbols_proper most_symbols [] _))))

form_proper : IsProper form_layout
unfolding form_layout
form_proper = (counts_proper binary_body binary_proper, bytes_proper (codes "ag") (counts_then ascii_body) (counts_proper ascii_body ascii_proper), refl)

pub circuit_proper : IsProper circuit_layout
unfolding circuit_layout form_layout
circuit_proper = (bytes_proper (codes "EALIZABLE\n") form_layout form_proper, form_proper, refl)
