-- The grammar of words: letters with `;` after each, and letters with `;` between them in `cycle{..}`. A letter is a
-- label expression (HOA v1).
use Rattle.std.specs.Prelude.{◌≡◌, ℕ, ◌<◌, List, [], ◌∷◌, ◌++◌, length, map}
use Rattle.std.specs.List.{AllByRecursion, flat_map}
use Rattle.omega_hoa_expression.specs.Symbols.{ExpressionSymbol, disjunctive, expression_symbol_of, sign}
use Rattle.omega_hoa_label.specs.Raw.{RawLabelTree}
use Rattle.omega_hoa_label_text.specs.Reading.{IsOf, label_symbols}
use Rattle.omega_text.specs.Lexeme.{Lexeme}
use Rattle.omega_text.specs.declared.hoa.kind.HoaKind.{HoaKind}
use Rattle.omega_text.specs.declared.hoa.kind.HoaKind.TheVariants.{CloseBrace, OpenBrace}
use Rattle.omega_lang_word_text.specs.Reading.{cycle, semicolon}

-- the symbols of the letters of a stem, `;` after each
abbrev pub stem_symbols : List RawLabelTree → List ExpressionSymbol
stem_symbols letters = flat_map (λ letter. label_symbols letter ++ sign semicolon ∷ []) letters

-- the symbols of the other letters of a cycle, `;` before each
abbrev pub other_symbols : List RawLabelTree → List ExpressionSymbol
other_symbols letters = flat_map (λ letter. sign semicolon ∷ label_symbols letter) letters

-- the symbols of the letters of a cycle, `;` between each two
abbrev pub cycle_symbols : List RawLabelTree → List ExpressionSymbol
cycle_symbols [] = []
cycle_symbols (first ∷ others) = label_symbols first ++ other_symbols others

-- the symbols of a word
abbrev pub word_symbols : (stem around : List RawLabelTree) → List ExpressionSymbol
word_symbols stem around = stem_symbols stem
    ++ (sign cycle ∷ sign OpenBrace ∷ (cycle_symbols around ++ sign CloseBrace ∷ []))

-- the tokens are those of a word with these letters
pub record ReadsWord (tokens : List (Lexeme HoaKind)) (stem around : List RawLabelTree) : Type 0 where
  pub spells : map expression_symbol_of tokens ≡ word_symbols stem around
  pub stem_is : AllByRecursion (IsOf disjunctive) stem
  pub cycle_is : AllByRecursion (IsOf disjunctive) around
  pub longer : 0 < length around

-- the tokens are no word
abbrev pub ReadsNoWord : List (Lexeme HoaKind) → Type 0
ReadsNoWord tokens = (stem around : List RawLabelTree) → ReadsWord tokens stem around → ⊥

-- a word begins with the tokens: they and some more are one
abbrev pub BeginsWord : List (Lexeme HoaKind) → Type 0
BeginsWord tokens = (more : List (Lexeme HoaKind)) × (stem around : List RawLabelTree)
    × ReadsWord (tokens ++ more) stem around
