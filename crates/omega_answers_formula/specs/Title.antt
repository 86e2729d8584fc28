-- The name of the automaton of a formula: the formula's text, as a string of the Hanoi format has it.
use Rattle.std.specs.Prelude.{ℕ, ◌==◌, ◌||◌, Bool, if◌then◌else◌, List, [], ◌∷◌}
use Rattle.std.specs.List.{flat_map}
use Rattle.omega_ltl_formula.specs.Formula.{FormulaTree}
use Rattle.omega_ltl_text.specs.Written.{formula_text}
use Rattle.omega_ltl_translation.specs.Translation.{asked_tree}

-- a byte in a string: 34 is the quote and 92 the backslash, and a backslash stands before each
abbrev pub string_byte : ℕ → List ℕ
string_byte byte = if byte == 34 || byte == 92 then 92 ∷ byte ∷ [] else byte ∷ []

-- bytes in a string
abbrev pub string_of : List ℕ → List ℕ
string_of bytes = flat_map string_byte bytes

-- the canonical text of a formula, or of its negation, in a string
abbrev pub title_of : (negated : Bool) → FormulaTree → List ℕ
title_of negated formula = string_of (formula_text (asked_tree negated formula))
