-- The parts of lines in the canonical text of an automaton (HOA v1; docs/formats.md, the
-- canonical text of an automaton).
use Rattle.std.specs.Prelude.{ℕ, Option, Some, None, List, [], ◌∷◌, ◌++◌, codes, decimal}
use Rattle.std.specs.List.{flat_map}
use Rattle.omega_hoa_label.specs.Label.{LabelTree}
use Rattle.omega_hoa_label.specs.Writing.{label_text}

-- bytes between quotes
abbrev pub quoted_string : List ℕ → List ℕ
quoted_string bytes = codes "\"" ++ (bytes ++ codes "\"")

-- a space and a part
abbrev pub spaced : List ℕ → List ℕ
spaced part = codes " " ++ part

-- strings, a space before each
abbrev pub strings : List (List ℕ) → List ℕ
strings texts = flat_map (λ bytes. spaced (quoted_string bytes)) texts

-- identifiers, a space before each
abbrev pub words : List (List ℕ) → List ℕ
words texts = flat_map spaced texts

-- numbers with a sign before each
abbrev pub numbers_after : List ℕ → List ℕ → List ℕ
numbers_after sign numbers = flat_map (λ number. sign ++ decimal number) numbers

-- numbers with a sign between each two
abbrev pub numbers_joined : List ℕ → List ℕ → List ℕ
numbers_joined sign [] = []
numbers_joined sign (first ∷ others) = decimal first ++ numbers_after sign others

-- states that a start or an edge lists, joined by `&`
abbrev pub conjunction : List ℕ → List ℕ
conjunction states = numbers_joined (codes "&") states

-- a space and the sets in braces, a space between each two; nothing for no sets
abbrev pub marks_part : List ℕ → List ℕ
marks_part [] = []
marks_part (first ∷ others) =
    codes " {" ++ (numbers_joined (codes " ") (first ∷ others) ++ codes "}")

-- a label in brackets and a space, if there is one
abbrev pub label_part : Option LabelTree → List ℕ
label_part None = []
label_part (Some label) = codes "[" ++ ((label_text label).bytes ++ codes "] ")

-- a space and a string, if there is one
abbrev pub string_part : Option (List ℕ) → List ℕ
string_part None = []
string_part (Some bytes) = spaced (quoted_string bytes)
