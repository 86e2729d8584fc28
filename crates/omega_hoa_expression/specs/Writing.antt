-- How expressions are written (docs/formats.md, labels and acceptance formulas): no spaces, and parentheses only if an
-- operator needs them.
use Rattle.std.specs.Prelude.{ℕ, Bool, nat_le, nat_lt, if◌then◌else◌, List, [], ◌∷◌, ◌++◌, codes, decimal}

-- the bytes of an expression, and how tightly its top operator binds: 1 for `|`, 2 for `&`, 3 for the rest
pub record Text : Type 0 where
  pub rank : ℕ
  pub bytes : List ℕ

-- bytes in parentheses or not
abbrev pub bracketed : Bool → List ℕ → List ℕ
bracketed within bytes = if within then 40 ∷ (bytes ++ 41 ∷ []) else bytes

-- an atom
abbrev pub atom_text : List ℕ → Text
atom_text bytes = record { rank = 3; bytes = bytes }

-- `!` and its part, in parentheses if that is an `&` or a `|`
abbrev pub negated_text : Text → Text
negated_text part = record { rank = 3; bytes = 33 ∷ bracketed (nat_lt part.rank 3) part.bytes }

-- two parts and their operator: the left one in parentheses if it binds less tightly,
-- the right one also if it binds as tightly
abbrev pub joined_text : ℕ → ℕ → Text → Text → Text
joined_text rank sign left right = record {
  rank = rank;
  bytes = bracketed (nat_lt left.rank rank) left.bytes
      ++ sign ∷ bracketed (nat_le right.rank rank) right.bytes;
}

-- `t` or `f`
abbrev pub truth_text : Bool → List ℕ
truth_text value = if value then codes "t" else codes "f"

-- a set in parentheses, with `!` before it or without
abbrev pub set_text : Bool → ℕ → List ℕ
set_text negated set = if negated then codes "(!" ++ decimal set ++ codes ")"
    else codes "(" ++ decimal set ++ codes ")"
