-- Numbers of the binary form: seven bits a byte, the lowest first, all but the last byte with the high bit set.
use Rattle.std.specs.Prelude.{◌≡◌, ◌≤◌, ◌<◌, ◌⊎◌, ◌+◌, ◌*◌, ◌-◌, ◌^◌, ◌%◌, ◌==◌, ◌||◌, ℕ, Bool, List, [], ◌∷◌}
use Rattle.std.specs.Prelude.{length, min, nat_le, nat_lt, take, if◌then◌else◌}
use Rattle.std.specs.List.{prefix_len}

-- a byte after which the delta goes on
abbrev pub is_high : ℕ → Bool
is_high b = nat_le 128 b

-- the value of bytes
abbrev pub delta_value : List ℕ → ℕ
delta_value [] = 0
delta_value (b ∷ bytes) = b % 128 + 128 * delta_value bytes

-- the bytes of a delta: the last alone has no high bit; they are at most five, and the value is below 2 to the 32
pub record IsDelta (bytes : List ℕ) : Type 0 where
  pub high : prefix_len is_high bytes + 1 ≡ length bytes
  pub short : length bytes ≤ 5
  pub small : delta_value bytes < 2 ^ 32

-- the bytes at the front up to the first without the high bit
abbrev pub delta_front : List ℕ → List ℕ
delta_front text = take (prefix_len is_high text + 1) text

-- where a delta is due, five bytes have the high bit, or there is one with too great a value
abbrev pub IsNoDelta : List ℕ → Type 0
IsNoDelta text = (5 ≤ prefix_len is_high text)
    ⊎ ((prefix_len is_high text < length text) × (2 ^ 32 ≤ delta_value (delta_front text)))

-- a literal that no circuit has, and that stands for all greater ones
abbrev pub no_literal : ℕ
no_literal = 2 ^ 32 - 1

-- the literal of a variable
abbrev pub literal_of : ℕ → ℕ
literal_of variable = min (2 * variable) no_literal

-- the left operand of a gate: less by the first delta, which is neither 0 nor over the gate's literal
abbrev pub left_operand : (literal delta : ℕ) → ℕ
left_operand literal delta = if delta == 0 || nat_lt literal delta then no_literal else literal - delta

-- the right operand: less by the second delta, which is not over the left operand
abbrev pub right_operand : (left delta : ℕ) → ℕ
right_operand left delta = if nat_lt left delta then no_literal else left - delta
