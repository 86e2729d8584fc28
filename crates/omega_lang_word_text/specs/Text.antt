-- Which word a text says, and which refusal a text has that says none: `TooLong`, then `Lex` or `Number` at the least
-- place, then `Syntax` at the first token with which no word goes on.
use Rattle.std.specs.Prelude.{◌≡◌, ℕ, ◌<◌, ◌≤◌, List, ◌∷◌, length}
use Rattle.std.specs.List.{AllZip}
use Rattle.omega_hoa_expression.specs.Unread.{IsFirstUnread}
use Rattle.omega_lang_lasso_word.specs.declared.symbolic_word.SymbolicWord.{SymbolicWord}
use Rattle.omega_text.specs.Cases.{never, or_memory, or_text}
use Rattle.omega_text.specs.Cut.{IsCut, IsFault}
use Rattle.omega_text.specs.Lexeme.{Lexeme}
use Rattle.omega_text.specs.Limits.{most_text}
use Rattle.omega_text.specs.declared.hoa.kind.HoaKind.{HoaKind}
use Rattle.omega_text.specs.declared.refusal.Refusal.{Refusal}
use Rattle.omega_text.specs.declared.refusal.text.TextFault.{TextFault}
use Rattle.omega_text.specs.declared.refusal.text.TextFault.TheVariants.{Lex, Number, Syntax, TooLong}
use Rattle.omega_lang_word_text.specs.Cut.{word_format}
use Rattle.omega_lang_word_text.specs.Grammar.{BeginsWord, ReadsNoWord, ReadsWord}
use Rattle.omega_lang_word_text.specs.Reading.{IsReadAs, names_of}

-- the text is cut into tokens, which have these names and are read as other tokens
pub record IsReadText (source : List ℕ) (names : List (List ℕ))
    (read : List (Lexeme HoaKind)) : Type 0 where
  pub own : List (Lexeme HoaKind)
  pub cut : IsCut word_format source own
  pub names_are : names ≡ names_of own
  pub as_read : AllZip (IsReadAs names) own read

-- the text is within the limit and says the word
pub record IsWordText (source : List ℕ) (word : SymbolicWord) : Type 0 where
  pub short : length source ≤ most_text
  pub tokens : List (Lexeme HoaKind)
  pub read : IsReadText source word.names tokens
  pub reads : ReadsWord tokens word.stem (word.first ∷ word.others)

-- the first token with which no word goes on is at this place; at the length of the text, words go on with all
pub record IsMisplaced (source : List ℕ) (place : ℕ) : Type 0 where
  pub names : List (List ℕ)
  pub tokens : List (Lexeme HoaKind)
  pub read : IsReadText source names tokens
  pub unread : IsFirstUnread ReadsNoWord BeginsWord tokens (length source) place

-- the fault of the text
abbrev pub IsWordFault : List ℕ → TextFault → Type 0
IsWordFault source (Lex at) = (length source ≤ most_text) × IsFault word_format source (Lex at)
IsWordFault source (Number at) = (length source ≤ most_text) × IsFault word_format source (Number at)
IsWordFault source (Syntax at) = (length source ≤ most_text) × IsMisplaced source at
IsWordFault source TooLong = most_text < length source

-- the refusal of the text
abbrev pub IsWordRefusal : List ℕ → Refusal → Type 0
IsWordRefusal source = or_text (IsWordFault source) never

-- the refusals of a call that reads: that of the text, or `Memory`
abbrev pub IsReadWordRefusal : List ℕ → Refusal → Type 0
IsReadWordRefusal source = or_memory (IsWordRefusal source)
