-- The ASCII form and the binary form of circuits (the AIGER format, version 1.9, of 2011).
use Rattle.std.specs.Prelude.{◌+◌, ◌^◌, ℕ, zero, suc, true, false, List, [], ◌∷◌, ◌++◌, codes, map}
use Rattle.std.specs.Prelude.{slice_index, sum}
use Rattle.std.specs.List.{range_with_len}
use Rattle.omega_aiger.specs.Deltas.{literal_of}
use Rattle.omega_aiger.specs.Layout.{Layout, byte, either, number}
use Rattle.omega_aiger.specs.Lines.{bytes_then, gate_deltas, gate_lines, latch_lines, next_lines}
use Rattle.omega_aiger.specs.Lines.{number_lines}
use Rattle.omega_aiger.specs.Symbols.{symbols_then}
use Rattle.omega_circuit.specs.declared.properties.Properties.{Properties}

-- the counts of a header; those of bad states, constraints, justice and fairness may be fewer
pub record Counts : Type 0 where
  pub most_variable : ℕ
  pub inputs : ℕ
  pub latches : ℕ
  pub outputs : ℕ
  pub gates : ℕ
  pub properties : List ℕ

-- at most so many further counts with a space before each, and a line feed
abbrev pub counts_end : ℕ → List ℕ → (List ℕ → Layout) → Layout
counts_end zero read next = byte 10 (next read)
counts_end (suc most) read next =
    either 32 (number (λ n. counts_end most (read ++ n ∷ []) next)) (byte 10 (next read))

-- a space and a count
abbrev pub count_then : (ℕ → Layout) → Layout
count_then next = byte 32 (number next)

-- the counts of a header
abbrev pub counts_of : (most inputs latches outputs gates : ℕ) → List ℕ → Counts
counts_of most inputs latches outputs gates properties = record {
  most_variable = most;
  inputs = inputs;
  latches = latches;
  outputs = outputs;
  gates = gates;
  properties = properties;
}

-- the rest of the first line: five counts, and perhaps up to four more
unfoldable pub counts_then : (Counts → Layout) → Layout
counts_then next = count_then (λ most. count_then (λ inputs. count_then (λ latches. count_then (λ outputs.
    count_then (λ gates. counts_end 4 [] (λ properties.
    next (counts_of most inputs latches outputs gates properties)))))))

-- lines of properties, of which the header has these counts: bad states, constraints, sizes of justice, the literals
-- of all justice, and fairness
unfoldable pub properties_then : List ℕ → (Properties → Layout) → Layout
properties_then counts next = number_lines (slice_index counts 0) [] (λ bad.
    number_lines (slice_index counts 1) [] (λ constraints.
    number_lines (slice_index counts 2) [] (λ sizes.
    number_lines (sum sizes) [] (λ justice.
    number_lines (slice_index counts 3) [] (λ fairness. next (record {
      bad = bad;
      constraints = constraints;
      justice_sizes = sizes;
      justice = justice;
      fairness = fairness;
    }))))))

-- more symbols than a text can have
unfoldable pub most_symbols : ℕ
most_symbols = 2 ^ 24 + 1

-- the body of the ASCII form
unfoldable pub ascii_body : Counts → Layout
ascii_body counts = number_lines counts.inputs [] (λ inputs. latch_lines counts.latches [] (λ latches.
    number_lines counts.outputs [] (λ outputs. properties_then counts.properties (λ properties.
    gate_lines counts.gates [] (λ gates. symbols_then most_symbols [] (λ symbols. record {
      most_variable = counts.most_variable;
      is_dense = false;
      inputs = inputs;
      latches = latches;
      outputs = outputs;
      gates = gates;
      symbols = symbols;
      properties = properties;
    }))))))

-- the literals of the first variables, which are the inputs of the binary form
abbrev pub first_literals : ℕ → List ℕ
first_literals count = map literal_of (range_with_len 1 count)

-- the body of the binary form: inputs, latches and gates have the variables in order
unfoldable pub binary_body : Counts → Layout
binary_body counts = next_lines (counts.inputs + 1) counts.latches [] (λ latches.
    number_lines counts.outputs [] (λ outputs. properties_then counts.properties (λ properties.
    gate_deltas (counts.inputs + counts.latches + 1) counts.gates [] (λ gates.
    symbols_then most_symbols [] (λ symbols. record {
      most_variable = counts.most_variable;
      is_dense = true;
      inputs = first_literals counts.inputs;
      latches = latches;
      outputs = outputs;
      gates = gates;
      symbols = symbols;
      properties = properties;
    })))))

-- `aag` or `aig`, the counts and the body
unfoldable pub form_layout : Layout
form_layout = byte 97 (either 105 (byte 103 (counts_then binary_body))
    (bytes_then (codes "ag") (counts_then ascii_body)))

-- a text of a circuit; a line `REALIZABLE` may stand before it
unfoldable pub circuit_layout : Layout
circuit_layout = either 82 (bytes_then (codes "EALIZABLE\n") form_layout) form_layout
