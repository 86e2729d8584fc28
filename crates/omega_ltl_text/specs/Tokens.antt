-- The tokens of formulas, as Spot spells them (tl.pdf, syntax). White space stands between them where it is needed.
use Rattle.std.specs.Prelude.{ℕ, suc, ◌==◌, ◌&&◌, ◌||◌, Bool, false, true, not, if◌then◌else◌}
use Rattle.std.specs.Prelude.{List, [], ◌∷◌, Option, None, Some, codes, drop, length, option_map, slice_index}
use Rattle.std.specs.Prelude.{take}
use Rattle.std.specs.Option.{option_or}
use Rattle.std.specs.List.{prefix_len}
use Rattle.std.specs.Str.{bytes_eq, str_eq_ignore_ascii_case}
use Rattle.omega_text.specs.Bytes.{is_digit, is_letter}
use Rattle.omega_ltl_formula.specs.declared.operators.BinaryOperator.TheVariants.{And, Iff, Implies, Or}
use Rattle.omega_ltl_formula.specs.declared.operators.BinaryOperator.TheVariants.{Release}
use Rattle.omega_ltl_formula.specs.declared.operators.BinaryOperator.TheVariants.{StrongRelease, Until}
use Rattle.omega_ltl_formula.specs.declared.operators.BinaryOperator.TheVariants.{WeakUntil, Xor}
use Rattle.omega_ltl_formula.specs.declared.operators.UnaryOperator.{UnaryOperator}
use Rattle.omega_ltl_formula.specs.declared.operators.UnaryOperator.TheVariants.{Finally, Globally, Next, Not}
use Rattle.omega_ltl_text.specs.declared.kind.FormulaKind.{FormulaKind}
use Rattle.omega_ltl_text.specs.declared.kind.FormulaKind.TheVariants.{Binary, CloseParenthesis, Constant}
use Rattle.omega_ltl_text.specs.declared.kind.FormulaKind.TheVariants.{Name}
use Rattle.omega_ltl_text.specs.declared.kind.FormulaKind.TheVariants.{OpenParenthesis, QuotedName, Unary}

-- a token at the front of bytes: its kind, and how many bytes it has
pub record Front : Type 0 where
  pub kind : FormulaKind
  pub count : ℕ

-- the token of this kind with this number of bytes
abbrev pub front : FormulaKind → ℕ → Front
front kind count = record { kind = kind; count = count }

-- one of two spellings
abbrev pub is_either : List ℕ → (one other : List ℕ) → Bool
is_either text one other = bytes_eq text one || bytes_eq text other

-- the kind of a sign of one operand, of a parenthesis or of a digit
abbrev pub outer_sign : List ℕ → Option FormulaKind
outer_sign text =
    if bytes_eq text (codes "(") then Some OpenParenthesis
    else if bytes_eq text (codes ")") then Some CloseParenthesis
    else if is_either text (codes "!") (codes "~") then Some (Unary Not)
    else if bytes_eq text (codes "[]") then Some (Unary Globally)
    else if bytes_eq text (codes "<>") then Some (Unary Finally)
    else if bytes_eq text (codes "()") then Some (Unary Next)
    else if bytes_eq text (codes "1") then Some (Constant true)
    else if bytes_eq text (codes "0") then Some (Constant false)
    else None

-- the kind of a sign of two operands
abbrev pub inner_sign : List ℕ → Option FormulaKind
inner_sign text =
    if is_either text (codes "&") (codes "&&") || bytes_eq text (codes "/\\") then Some (Binary And)
    else if is_either text (codes "|") (codes "||") || bytes_eq text (codes "\\/") then Some (Binary Or)
    else if bytes_eq text (codes "^") then Some (Binary Xor)
    else if is_either text (codes "->") (codes "=>") then Some (Binary Implies)
    else if is_either text (codes "<->") (codes "<=>") then Some (Binary Iff)
    else None

-- the sign that a text is
abbrev pub sign_in : List ℕ → Option Front
sign_in text = option_map (λ kind. front kind (length text)) (option_or (outer_sign text) (inner_sign text))

-- the longest sign at the front
abbrev pub front_sign : List ℕ → Option Front
front_sign bytes =
    option_or (sign_in (take 3 bytes)) (option_or (sign_in (take 2 bytes)) (sign_in (take 1 bytes)))

-- a letter, a digit or an underscore, which may go on in a word
abbrev pub goes_on : ℕ → Bool
goes_on byte = is_letter byte || is_digit byte

-- the kind of a word: an operator, a constant in letters of either case, or else a name
abbrev pub word_kind : List ℕ → FormulaKind
word_kind text =
    if bytes_eq text (codes "U") then Binary Until
    else if is_either text (codes "R") (codes "V") then Binary Release
    else if bytes_eq text (codes "W") then Binary WeakUntil
    else if bytes_eq text (codes "M") then Binary StrongRelease
    else if bytes_eq text (codes "xor") then Binary Xor
    else if str_eq_ignore_ascii_case text (codes "true") then Constant true
    else if str_eq_ignore_ascii_case text (codes "false") then Constant false
    else Name

-- the operator that a letter is: F (70), G (71) or X (88)
abbrev pub letter_operator : ℕ → Option UnaryOperator
letter_operator byte =
    if byte == 70 then Some Finally
    else if byte == 71 then Some Globally
    else if byte == 88 then Some Next
    else None

-- `F`, `G` or `X` that no digit follows: the operator, or the constant `FALSE` in letters of either case
abbrev pub front_operator : List ℕ → Option Front
front_operator bytes =
    if is_digit (slice_index bytes 1) then None
    else option_map (λ operator. if str_eq_ignore_ascii_case (take 5 bytes) (codes "false")
    then front (Constant false) 5 else front (Unary operator) 1) (letter_operator (slice_index bytes 0))

-- the word at the front
abbrev pub front_word : List ℕ → Front
front_word bytes =
    front (word_kind (take (prefix_len goes_on bytes) bytes)) (prefix_len goes_on bytes)

-- how many bytes there are up to the quote (34) that closes, and with it; a backslash (92) takes the next byte with it
abbrev pub quoted_count : Bool → List ℕ → Option ℕ
quoted_count escaped [] = None
quoted_count escaped (byte ∷ rest) =
    if not escaped && byte == 34 then Some 1
    else option_map suc (quoted_count (not escaped && byte == 92) rest)

-- the name in quotes at the front
abbrev pub front_quoted : List ℕ → Option Front
front_quoted bytes = option_map (λ count. front QuotedName (suc count)) (quoted_count false (drop 1 bytes))

-- the token at the front of bytes: an operator of one letter, the longest word or sign, or a name in quotes (34)
abbrev pub front_token : List ℕ → Option Front
front_token bytes =
    if is_letter (slice_index bytes 0) then option_or (front_operator bytes) (Some (front_word bytes))
    else if slice_index bytes 0 == 34 then front_quoted bytes
    else front_sign bytes
