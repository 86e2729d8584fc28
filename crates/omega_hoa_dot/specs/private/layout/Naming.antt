-- The names of propositions put in place of their numbers, in one pass over the text of a label.
use Rattle.std.specs.Prelude.{◌≡◌, ℕ, ◌+◌, ◌*◌, ◌-◌, ◌==◌, if◌then◌else◌, Option}
use Rattle.std.specs.Prelude.{Some, None, List, [], ◌∷◌, ◌++◌, codes, min, unwrap_or}
use Rattle.omega_hoa_automaton.specs.Limits.{most_propositions}
use Rattle.omega_text.specs.Bytes.{is_digit}
use Rattle.omega_hoa_dot.specs.Names.{drawn_name, name_at}

-- the number whose digits have been passed, if there are any, with one digit more; it is at most the limit of
-- propositions
abbrev pub with_digit : Option ℕ → ℕ → ℕ
with_digit number byte = min (unwrap_or number 0 * 10 + (byte - 48)) most_propositions

-- the name of the proposition whose number has been passed, if there is one
abbrev pub pending_name : List (List ℕ) → Option ℕ → List ℕ
pending_name names None = []
pending_name names (Some number) = drawn_name (name_at names number)

-- a sign of a label
abbrev pub sign_text : ℕ → List ℕ
sign_text byte = if byte == 38 then codes " & " else if byte == 124 then codes " | " else byte ∷ []

-- the text that is written of the bytes that are left
abbrev pub with_names : List (List ℕ) → Option ℕ → List ℕ → List ℕ
with_names names number [] = pending_name names number
with_names names number (byte ∷ bytes) =
    if is_digit byte then with_names names (Some (with_digit number byte)) bytes
    else pending_name names number ++ (sign_text byte ++ with_names names None bytes)

-- a byte was passed: what is written, and what is to be written of any bytes after it, is the same in all
abbrev pub AreOwed : List (List ℕ) → List ℕ → List ℕ → Option ℕ → ℕ → Option ℕ → Type 0
AreOwed names before after number byte next = (bytes : List ℕ)
    → after ++ with_names names next bytes ≡ before ++ with_names names number (byte ∷ bytes)
