-- Layouts of lines, one after the other. What was read before stands in front of what is read.
use Rattle.std.specs.Prelude.{◌+◌, ℕ, zero, suc, List, [], ◌∷◌, ◌++◌}
use Rattle.omega_aiger.specs.Deltas.{left_operand, literal_of, right_operand}
use Rattle.omega_aiger.specs.Layout.{Layout, byte, delta, either, number}
use Rattle.omega_circuit.specs.declared.gate.Gate.{Gate}
use Rattle.omega_circuit.specs.declared.latch.Latch.{Latch}

-- these bytes
abbrev pub bytes_then : List ℕ → Layout → Layout
bytes_then [] next = next
bytes_then (b ∷ bytes) next = byte b (bytes_then bytes next)

-- lines of one number each
abbrev pub number_lines : ℕ → List ℕ → (List ℕ → Layout) → Layout
number_lines zero read next = next read
number_lines (suc count) read next = number (λ n. byte 10 (number_lines count (read ++ n ∷ []) next))

-- the end of a latch's line: a space and a reset, or nothing for 0, and a line feed
abbrev pub reset_end : (ℕ → Layout) → Layout
reset_end next = either 32 (number (λ reset. byte 10 (next reset))) (byte 10 (next 0))

-- a latch
abbrev pub latch_of : (literal next reset : ℕ) → Latch
latch_of literal next reset = record { literal = literal; next = next; reset = reset }

-- a gate
abbrev pub gate_of : (literal left right : ℕ) → Gate
gate_of literal left right = record { literal = literal; left = left; right = right }

-- the line of a latch after its literal: the next literal, and the reset
abbrev pub next_line : (ℕ → ℕ → Layout) → Layout
next_line next = number (λ following. reset_end (λ reset. next following reset))

-- the line of a latch: its literal, and then that
abbrev pub latch_line : (Latch → Layout) → Layout
latch_line next = number (λ literal. byte 32 (next_line (λ following reset.
    next (latch_of literal following reset))))

-- lines of latches
abbrev pub latch_lines : ℕ → List Latch → (List Latch → Layout) → Layout
latch_lines zero read next = next read
latch_lines (suc count) read next = latch_line (λ latch. latch_lines count (read ++ latch ∷ []) next)

-- the line of a gate: its literal and its operands
abbrev pub gate_line : (Gate → Layout) → Layout
gate_line next = number (λ literal. byte 32 (number (λ left. byte 32 (number (λ right.
    byte 10 (next (gate_of literal left right)))))))

-- lines of gates
abbrev pub gate_lines : ℕ → List Gate → (List Gate → Layout) → Layout
gate_lines zero read next = next read
gate_lines (suc count) read next = gate_line (λ gate. gate_lines count (read ++ gate ∷ []) next)

-- lines of latches that have the variables from this one on: the next literal alone, and the reset
abbrev pub next_lines : ℕ → ℕ → List Latch → (List Latch → Layout) → Layout
next_lines variable zero read next = next read
next_lines variable (suc count) read next = next_line (λ following reset.
    next_lines (variable + 1) count (read ++ latch_of (literal_of variable) following reset ∷ []) next)

-- the gate with this literal and these deltas
abbrev pub gate_by : (literal first second : ℕ) → Gate
gate_by literal first second = gate_of literal (left_operand literal first)
    (right_operand (left_operand literal first) second)

-- the two deltas of a gate with this literal
abbrev pub two_deltas : ℕ → (Gate → Layout) → Layout
two_deltas literal next = delta (λ first. delta (λ second. next (gate_by literal first second)))

-- deltas of gates that have the variables from this one on
abbrev pub gate_deltas : ℕ → ℕ → List Gate → (List Gate → Layout) → Layout
gate_deltas variable zero read next = next read
gate_deltas variable (suc count) read next = two_deltas (literal_of variable) (λ gate.
    gate_deltas (variable + 1) count (read ++ gate ∷ []) next)
