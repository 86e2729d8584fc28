-- Parts of a word: what follows `cycle`, what follows `{`, and what follows a letter of the cycle.
use Rattle.std.specs.Prelude.{◌≡◌, ◌≢◌, ℕ, ◌<◌, List, [], ◌∷◌, ◌++◌, length, map, slice_index}
use Rattle.std.specs.List.{AllByRecursion}
use Rattle.omega_hoa_expression.specs.Symbols.{disjunctive, expression_symbol_of, sign}
use Rattle.omega_hoa_label.specs.Raw.{RawLabelTree}
use Rattle.omega_hoa_label_text.specs.Reading.{IsOf}
use Rattle.omega_text.specs.Lexeme.{Lexeme}
use Rattle.omega_text.specs.declared.hoa.kind.HoaKind.{HoaKind}
use Rattle.omega_text.specs.declared.hoa.kind.HoaKind.TheVariants.{CloseBrace, OpenBrace}
use Rattle.omega_lang_word_text.specs.Grammar.{cycle_symbols, other_symbols}

-- the tokens are the letters of a cycle, `;` between each two, and `}`
pub record ReadsCycle (tokens : List (Lexeme HoaKind)) (around : List RawLabelTree) : Type 0 where
  pub spells : map expression_symbol_of tokens ≡ cycle_symbols around ++ sign CloseBrace ∷ []
  pub is : AllByRecursion (IsOf disjunctive) around
  pub longer : 0 < length around

-- the tokens are `{`, the letters of a cycle and `}`
pub record ReadsBraced (tokens : List (Lexeme HoaKind)) (around : List RawLabelTree) : Type 0 where
  pub spells : map expression_symbol_of tokens
      ≡ sign OpenBrace ∷ (cycle_symbols around ++ sign CloseBrace ∷ [])
  pub is : AllByRecursion (IsOf disjunctive) around
  pub longer : 0 < length around

-- the tokens are further letters of a cycle, `;` before each, and `}`
pub record ReadsOthers (tokens : List (Lexeme HoaKind)) (others : List RawLabelTree) : Type 0 where
  pub spells : map expression_symbol_of tokens ≡ other_symbols others ++ sign CloseBrace ∷ []
  pub is : AllByRecursion (IsOf disjunctive) others

-- the tokens are none of these
abbrev pub ReadsNo : (List (Lexeme HoaKind) → List RawLabelTree → Type 0)
    → List (Lexeme HoaKind) → Type 0
ReadsNo Part tokens = (letters : List RawLabelTree) → Part tokens letters → ⊥

-- one of these begins with the tokens
abbrev pub BeginsPart : (List (Lexeme HoaKind) → List RawLabelTree → Type 0)
    → List (Lexeme HoaKind) → Type 0
BeginsPart Part tokens = (more : List (Lexeme HoaKind)) × (letters : List RawLabelTree)
    × Part (tokens ++ more) letters

-- a semicolon is at the place
abbrev pub IsSemicolonAt : List ℕ → ℕ → Type 0
IsSemicolonAt source place = (place < length source) × (slice_index source place ≡ 59)
