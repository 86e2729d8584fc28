-- The canonical text of a formula.
use Rattle.std.specs.Prelude.{◌≡◌, ℕ, suc, ◌&&◌, Bool, false, true, not, if◌then◌else◌}
use Rattle.std.specs.Prelude.{List, [], ◌∷◌, ◌++◌, Some, codes, length, slice_index}
use Rattle.std.specs.List.{AllByRecursion, list_all}
use Rattle.std.specs.Option.{is_some}
use Rattle.omega_text.specs.Bytes.{is_digit, is_letter}
use Rattle.omega_ltl_formula.specs.Formula.{FormulaTree, binary, constant, name, names_in, unary}
use Rattle.omega_ltl_formula.specs.declared.operators.BinaryOperator.{BinaryOperator}
use Rattle.omega_ltl_formula.specs.declared.operators.BinaryOperator.TheVariants.{And, Iff, Implies, Or}
use Rattle.omega_ltl_formula.specs.declared.operators.BinaryOperator.TheVariants.{Release}
use Rattle.omega_ltl_formula.specs.declared.operators.BinaryOperator.TheVariants.{StrongRelease, Until}
use Rattle.omega_ltl_formula.specs.declared.operators.BinaryOperator.TheVariants.{WeakUntil, Xor}
use Rattle.omega_ltl_formula.specs.declared.operators.UnaryOperator.{UnaryOperator}
use Rattle.omega_ltl_formula.specs.declared.operators.UnaryOperator.TheVariants.{Finally, Globally, Next, Not}
use Rattle.omega_ltl_text.specs.Tokens.{goes_on, letter_operator, quoted_count, word_kind}
use Rattle.omega_ltl_text.specs.declared.kind.FormulaKind.{FormulaKind}
use Rattle.omega_ltl_text.specs.declared.kind.FormulaKind.TheVariants.{Name}

-- how an operator of one operand is written
abbrev pub unary_text : UnaryOperator → List ℕ
unary_text Not = codes "!"
unary_text Next = codes "X"
unary_text Finally = codes "F"
unary_text Globally = codes "G"

-- how an operator of two operands is written
abbrev pub binary_text : BinaryOperator → List ℕ
binary_text And = codes "&"
binary_text Or = codes "|"
binary_text Xor = codes "xor"
binary_text Implies = codes "->"
binary_text Iff = codes "<->"
binary_text Until = codes "U"
binary_text Release = codes "R"
binary_text WeakUntil = codes "W"
binary_text StrongRelease = codes "M"

-- whether a word is a name
abbrev pub is_name : FormulaKind → Bool
is_name Name = true
is_name other = false

-- whether `F`, `G` or `X` would be read as an operator there
abbrev pub begins_with_operator : List ℕ → Bool
begins_with_operator bytes =
    is_some (letter_operator (slice_index bytes 0)) && not (is_digit (slice_index bytes 1))

-- whether a name stands without quotes
abbrev pub stands_bare : List ℕ → Bool
stands_bare bytes =
    ((is_letter (slice_index bytes 0) && list_all goes_on bytes) && not (begins_with_operator bytes))
    && is_name (word_kind bytes)

-- a name, in quotes unless it stands without
abbrev pub name_text : List ℕ → List ℕ
name_text bytes = if stands_bare bytes then bytes else codes "\"" ++ (bytes ++ codes "\"")

-- whether a formula has two operands
abbrev pub is_binary : FormulaTree → Bool
is_binary (binary op left right) = true
is_binary other = false

-- the text of an operand: one with two operands stands in parentheses
abbrev pub enclosed : Bool → List ℕ → List ℕ
enclosed within text = if within then codes "(" ++ (text ++ codes ")") else text

-- what stands between an operator and its operand: nothing after `!` and before a parenthesis
abbrev pub space_after : UnaryOperator → Bool → List ℕ
space_after Not within = []
space_after op within = if within then [] else codes " "

-- the canonical text
abbrev pub formula_text : FormulaTree → List ℕ
formula_text (constant value) = if value then codes "1" else codes "0"
formula_text (name bytes) = name_text bytes
formula_text (unary op part) =
    unary_text op ++ (space_after op (is_binary part) ++ enclosed (is_binary part) (formula_text part))
formula_text (binary op left right) = enclosed (is_binary left) (formula_text left)
    ++ (codes " " ++ (binary_text op ++ (codes " " ++ enclosed (is_binary right) (formula_text right))))

-- a name can stand between quotes: a backslash takes the next byte with it, and no other quote is in it
abbrev pub IsQuotable : List ℕ → Type 0
IsQuotable bytes = quoted_count false (bytes ++ 34 ∷ []) ≡ Some (suc (length bytes))

-- so can each name of a formula
abbrev pub HasQuotableNames : FormulaTree → Type 0
HasQuotableNames tree = AllByRecursion IsQuotable (names_in tree)
