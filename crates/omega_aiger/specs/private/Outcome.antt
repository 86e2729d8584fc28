-- How a text is read along a layout: what it makes, or the fault and its place. The bytes begin at a place of a text.
use Rattle.std.specs.Prelude.{◌≡◌, ◌+◌, ◌==◌, ◌&&◌, ◌^◌, not, ℕ, Bool, List, [], ◌∷◌, Result, Ok, Err}
use Rattle.std.specs.Prelude.{drop, length, nat_le, nat_lt, slice_index, take, if◌then◌else◌}
use Rattle.std.specs.List.{prefix_len}
use Rattle.std.specs.Str.Parse.{digits_value}
use Rattle.omega_aiger.specs.Deltas.{delta_front, delta_value, is_high}
use Rattle.omega_aiger.specs.Layout.{Layout, byte, delta, either, finish, line, number, rest}
use Rattle.omega_circuit.specs.declared.parts.CircuitParts.{CircuitParts}
use Rattle.omega_text.specs.Bytes.{is_digit}
use Rattle.omega_circuit.specs.Faults.{IsFirstFault}
use Rattle.omega_text.specs.Cases.{never, or_circuit, or_memory, or_text}
use Rattle.omega_text.specs.Limits.{most_number}
use Rattle.omega_text.specs.declared.refusal.Refusal.{Refusal}
use Rattle.omega_text.specs.declared.refusal.text.TextFault.{TextFault}
use Rattle.omega_text.specs.declared.refusal.text.TextFault.TheVariants.{Number, Syntax}

-- digits without a needless zero, with a value within the limit
abbrev pub is_number : List ℕ → Bool
is_number digits = not (slice_index digits 0 == 48 && nat_lt 1 (length digits))
    && nat_le (digits_value 10 digits) most_number

-- no line feed
abbrev pub is_in_line : ℕ → Bool
is_in_line b = not (b == 10)

-- what reading makes
abbrev pub outcome : Layout → ℕ → List ℕ → Result CircuitParts TextFault
outcome (finish parts) at [] = Ok parts
outcome (finish parts) at (b ∷ back) = Err (Syntax at)
outcome (rest parts) at text = Ok parts
outcome (byte b next) at [] = Err (Syntax at)
outcome (byte b next) at (c ∷ back) = if c == b then outcome next (at + 1) back else Err (Syntax at)
outcome (either b first other) at [] = outcome other at []
outcome (either b first other) at (c ∷ back) =
    if c == b then outcome first (at + 1) back else outcome other at (c ∷ back)
outcome (number next) at text =
    if prefix_len is_digit text == 0 then Err (Syntax at)
    else if is_number (take (prefix_len is_digit text) text)
    then outcome (next (digits_value 10 (take (prefix_len is_digit text) text)))
    (at + prefix_len is_digit text) (drop (prefix_len is_digit text) text)
    else Err (Number at)
outcome (delta next) at text =
    if nat_le 5 (prefix_len is_high text) then Err (Number at)
    else if nat_le (length text) (prefix_len is_high text) then Err (Syntax (at + length text))
    else if nat_lt (delta_value (delta_front text)) (2 ^ 32)
    then outcome (next (delta_value (delta_front text)))
    (at + (prefix_len is_high text + 1)) (drop (prefix_len is_high text + 1) text)
    else Err (Number at)
outcome (line next) at text =
    if nat_le (length text) (prefix_len is_in_line text) then Err (Syntax (at + length text))
    else outcome (next (take (prefix_len is_in_line text) text))
    (at + (prefix_len is_in_line text + 1)) (drop (prefix_len is_in_line text + 1) text)

-- from one place of a text, reading along a layout goes on at another along another
abbrev pub GoesOn : List ℕ → ℕ → Layout → ℕ → Layout → Type 0
GoesOn text from layout to next = outcome layout from (drop from text) ≡ outcome next to (drop to text)

-- from a place of a text, reading along a layout ends with the refusal, or memory did
abbrev pub Stops : List ℕ → ℕ → Layout → Refusal → Type 0
Stops text from layout =
    or_memory (or_text (λ fault. outcome layout from (drop from text) ≡ Err fault) never)

-- the same, or it ends with parts that have this fault first
abbrev pub Fails : List ℕ → ℕ → Layout → Refusal → Type 0
Fails text from layout =
    or_memory (or_text (λ fault. outcome layout from (drop from text) ≡ Err fault)
    (or_circuit (λ fault. (parts : CircuitParts) × (outcome layout from (drop from text) ≡ Ok parts)
    × IsFirstFault parts fault) never))
