-- What the tokens of a word are read as: tokens of label expressions of the Hanoi format, and what stands between them.
-- The reader of labels knows the kinds of that format alone. So `;`, `cycle` and what no word has are read as three of
-- them that no label has.
use Rattle.std.specs.Prelude.{◌≡◌, ℕ, ◌==◌, Bool, if◌then◌else◌, List}
use Rattle.std.specs.Prelude.{[], Option, None, Some, codes, slice_get}
use Rattle.std.specs.List.{filter_map}
use Rattle.std.specs.Str.{bytes_eq}
use Rattle.indexmap.specs.IndexSet.{insert_all}
use Rattle.omega_lang_lasso_word.specs.Names.{stands_bare}
use Rattle.omega_text.specs.Forms.{between_quotes}
use Rattle.omega_text.specs.Lexeme.{Lexeme}
use Rattle.omega_text.specs.declared.hoa.kind.HoaKind.{HoaKind}
use Rattle.omega_text.specs.declared.hoa.kind.HoaKind.TheVariants as kind

-- the name that a token is: an identifier that Spot reads as a name, or what stands between quotes
abbrev pub name_in : HoaKind → List ℕ → Option (List ℕ)
name_in kind.Identifier text = if stands_bare text then Some text else None
name_in kind.String text = Some (between_quotes text)
name_in other text = None

-- the name that a token is
abbrev pub name_of : Lexeme HoaKind → Option (List ℕ)
name_of lexeme = name_in lexeme.kind lexeme.text

-- the names of tokens, each once, in the order of their first occurrences
abbrev pub names_of : List (Lexeme HoaKind) → List (List ℕ)
names_of lexemes = insert_all bytes_eq [] (filter_map name_of lexemes)

-- the kind that ends a letter, `;`
abbrev pub semicolon : HoaKind
semicolon = kind.End

-- the kind that begins the cycle, `cycle`
abbrev pub cycle : HoaKind
cycle = kind.Body

-- the kind of what no word has
abbrev pub foreign : HoaKind
foreign = kind.Abort

-- the kind that an identifier without a name is read as
abbrev pub word_as : List ℕ → HoaKind
word_as text = if bytes_eq text (codes ";") then semicolon
    else (if bytes_eq text (codes "cycle") then cycle else foreign)

-- the kind that a number is read as: `0` is `f`, and `1` is `t`
abbrev pub number_as : ℕ → HoaKind
number_as value = if value == 0 then kind.False else (if value == 1 then kind.True else foreign)

-- the kind that a token without a name is read as: signs stay
abbrev pub kind_as : HoaKind → ℕ → List ℕ → HoaKind
kind_as kind.Identifier value text = word_as text
kind_as kind.Int value text = number_as value
kind_as kind.Not value text = kind.Not
kind_as kind.And value text = kind.And
kind_as kind.Or value text = kind.Or
kind_as kind.OpenParenthesis value text = kind.OpenParenthesis
kind_as kind.CloseParenthesis value text = kind.CloseParenthesis
kind_as kind.OpenBrace value text = kind.OpenBrace
kind_as kind.CloseBrace value text = kind.CloseBrace
kind_as other value text = foreign

-- a token is read as one of this kind and value: a name as the number of its proposition, and others by their kind
abbrev pub StandsFor : List (List ℕ) → Option (List ℕ) → (own read : Lexeme HoaKind) → Type 0
StandsFor names (Some name) own read =
    (read.kind ≡ kind.Int) × (slice_get names read.value ≡ Some name)
StandsFor names None own read = read.kind ≡ kind_as own.kind own.value own.text

-- a token is read as another one at the same place
pub record IsReadAs (names : List (List ℕ)) (own read : Lexeme HoaKind) : Type 0 where
  pub place : read.span ≡ own.span
  pub stands : StandsFor names (name_of own) own read
