-- Parameters and values of headers, which are one token each.
use Rattle.std.proofs.Common.{◌≡◌, true, false, List, refl, sym, ap, ◌∙◌}
use Rattle.omega_hoa_acceptance.specs.declared.name.Parameter.{Parameter}
use Rattle.omega_hoa_acceptance.specs.declared.name.Parameter.TheVariants as parameter
use Rattle.omega_hoa_syntax.specs.Grammar.{parameter_row, value_row}
use Rattle.omega_hoa_syntax.specs.Symbols.{AutomatonSymbol, IsNext, ReadsSymbols, Shows, Splits, Tokens, number, sign, text, word}
use Rattle.omega_hoa_syntax.specs.declared.header_value.HeaderValue.{HeaderValue}
use Rattle.omega_hoa_syntax.specs.declared.header_value.HeaderValue.TheVariants as value
use Rattle.omega_text.specs.Forms.{between_quotes}
use Rattle.omega_text.specs.Lexeme.{Lexeme}
use Rattle.omega_text.specs.declared.hoa.kind.HoaKind.{HoaKind}
use Rattle.omega_text.specs.declared.hoa.kind.HoaKind.TheVariants as kind

-- the symbol of a parameter
abbrev pub parameter_symbol : Parameter → AutomatonSymbol
parameter_symbol (parameter.Boolean true) = sign kind.True
parameter_symbol (parameter.Boolean false) = sign kind.False
parameter_symbol (parameter.Number n) = number n
parameter_symbol (parameter.Word bytes) = word bytes

pub parameter_begins : (wanted : Parameter) (others : List AutomatonSymbol) (rest tokens : Tokens) → ReadsSymbols tokens (parameter_row wanted others) rest
    → Splits (λ middle. IsNext (parameter_symbol wanted) tokens middle) (λ middle. ReadsSymbols middle others rest)
parameter_begins (parameter.Boolean true) others rest tokens spells = spells
parameter_begins (parameter.Boolean false) others rest tokens spells = spells
parameter_begins (parameter.Number n) others rest tokens spells = spells
parameter_begins (parameter.Word bytes) others rest tokens spells = spells

-- a token of a kind shows the value of that kind alone
pub parameter_true : (lexeme : Lexeme HoaKind) → lexeme.kind ≡ kind.True → (wanted : Parameter) → Shows (parameter_symbol wanted) lexeme → parameter.Boolean true ≡ wanted
parameter_true lexeme is (parameter.Boolean true) shows = refl
parameter_true lexeme is (parameter.Boolean false) shows = let e : kind.True ≡ kind.False = sym is ∙ shows in cc
parameter_true lexeme is (parameter.Number n) shows = let e : kind.True ≡ kind.Int = sym is ∙ shows.0 in cc
parameter_true lexeme is (parameter.Word bytes) shows = let e : kind.True ≡ kind.Identifier = sym is ∙ shows.0 in cc

pub parameter_false : (lexeme : Lexeme HoaKind) → lexeme.kind ≡ kind.False → (wanted : Parameter) → Shows (parameter_symbol wanted) lexeme → parameter.Boolean false ≡ wanted
parameter_false lexeme is (parameter.Boolean true) shows = let e : kind.False ≡ kind.True = sym is ∙ shows in cc
parameter_false lexeme is (parameter.Boolean false) shows = refl
parameter_false lexeme is (parameter.Number n) shows = let e : kind.False ≡ kind.Int = sym is ∙ shows.0 in cc
parameter_false lexeme is (parameter.Word bytes) shows = let e : kind.False ≡ kind.Identifier = sym is ∙ shows.0 in cc

pub parameter_number : (lexeme : Lexeme HoaKind) → lexeme.kind ≡ kind.Int → (wanted : Parameter) → Shows (parameter_symbol wanted) lexeme → parameter.Number lexeme.value ≡ wanted
parameter_number lexeme is (parameter.Boolean true) shows = let e : kind.Int ≡ kind.True = sym is ∙ shows in cc
parameter_number lexeme is (parameter.Boolean false) shows = let e : kind.Int ≡ kind.False = sym is ∙ shows in cc
parameter_number lexeme is (parameter.Number n) shows = ap parameter.Number shows.1
parameter_number lexeme is (parameter.Word bytes) shows = let e : kind.Int ≡ kind.Identifier = sym is ∙ shows.0 in cc

pub parameter_word : (lexeme : Lexeme HoaKind) → lexeme.kind ≡ kind.Identifier → (wanted : Parameter) → Shows (parameter_symbol wanted) lexeme → parameter.Word lexeme.text ≡ wanted
parameter_word lexeme is (parameter.Boolean true) shows = let e : kind.Identifier ≡ kind.True = sym is ∙ shows in cc
parameter_word lexeme is (parameter.Boolean false) shows = let e : kind.Identifier ≡ kind.False = sym is ∙ shows in cc
parameter_word lexeme is (parameter.Number n) shows = let e : kind.Identifier ≡ kind.Int = sym is ∙ shows.0 in cc
parameter_word lexeme is (parameter.Word bytes) shows = ap parameter.Word shows.1

-- a token of no such kind shows none
pub parameter_unshown : (lexeme : Lexeme HoaKind) → (lexeme.kind ≡ kind.True → ⊥) → (lexeme.kind ≡ kind.False → ⊥) → (lexeme.kind ≡ kind.Int → ⊥) → (lexeme.kind ≡ kind.Identifier → ⊥) → (wanted : Parameter) → Shows (parameter_symbol wanted) lexeme → ⊥
parameter_unshown lexeme a b c d (parameter.Boolean true) shows = a (shows)
parameter_unshown lexeme a b c d (parameter.Boolean false) shows = b (shows)
parameter_unshown lexeme a b c d (parameter.Number n) shows = c (shows.0)
parameter_unshown lexeme a b c d (parameter.Word bytes) shows = d (shows.0)

-- the symbol of a value
abbrev pub value_symbol : HeaderValue → AutomatonSymbol
value_symbol (value.Boolean true) = sign kind.True
value_symbol (value.Boolean false) = sign kind.False
value_symbol (value.Number n) = number n
value_symbol (value.Text bytes) = text bytes
value_symbol (value.Word bytes) = word bytes

pub value_begins : (wanted : HeaderValue) (others : List AutomatonSymbol) (rest tokens : Tokens) → ReadsSymbols tokens (value_row wanted others) rest
    → Splits (λ middle. IsNext (value_symbol wanted) tokens middle) (λ middle. ReadsSymbols middle others rest)
value_begins (value.Boolean true) others rest tokens spells = spells
value_begins (value.Boolean false) others rest tokens spells = spells
value_begins (value.Number n) others rest tokens spells = spells
value_begins (value.Text bytes) others rest tokens spells = spells
value_begins (value.Word bytes) others rest tokens spells = spells

-- a token of a kind shows the value of that kind alone
pub value_true : (lexeme : Lexeme HoaKind) → lexeme.kind ≡ kind.True → (wanted : HeaderValue) → Shows (value_symbol wanted) lexeme → value.Boolean true ≡ wanted
value_true lexeme is (value.Boolean true) shows = refl
value_true lexeme is (value.Boolean false) shows = let e : kind.True ≡ kind.False = sym is ∙ shows in cc
value_true lexeme is (value.Number n) shows = let e : kind.True ≡ kind.Int = sym is ∙ shows.0 in cc
value_true lexeme is (value.Text bytes) shows = let e : kind.True ≡ kind.String = sym is ∙ shows.0 in cc
value_true lexeme is (value.Word bytes) shows = let e : kind.True ≡ kind.Identifier = sym is ∙ shows.0 in cc

pub value_false : (lexeme : Lexeme HoaKind) → lexeme.kind ≡ kind.False → (wanted : HeaderValue) → Shows (value_symbol wanted) lexeme → value.Boolean false ≡ wanted
value_false lexeme is (value.Boolean true) shows = let e : kind.False ≡ kind.True = sym is ∙ shows in cc
value_false lexeme is (value.Boolean false) shows = refl
value_false lexeme is (value.Number n) shows = let e : kind.False ≡ kind.Int = sym is ∙ shows.0 in cc
value_false lexeme is (value.Text bytes) shows = let e : kind.False ≡ kind.String = sym is ∙ shows.0 in cc
value_false lexeme is (value.Word bytes) shows = let e : kind.False ≡ kind.Identifier = sym is ∙ shows.0 in cc

pub value_number : (lexeme : Lexeme HoaKind) → lexeme.kind ≡ kind.Int → (wanted : HeaderValue) → Shows (value_symbol wanted) lexeme → value.Number lexeme.value ≡ wanted
value_number lexeme is (value.Boolean true) shows = let e : kind.Int ≡ kind.True = sym is ∙ shows in cc
value_number lexeme is (value.Boolean false) shows = let e : kind.Int ≡ kind.False = sym is ∙ shows in cc
value_number lexeme is (value.Number n) shows = ap value.Number shows.1
value_number lexeme is (value.Text bytes) shows = let e : kind.Int ≡ kind.String = sym is ∙ shows.0 in cc
value_number lexeme is (value.Word bytes) shows = let e : kind.Int ≡ kind.Identifier = sym is ∙ shows.0 in cc

pub value_text : (lexeme : Lexeme HoaKind) → lexeme.kind ≡ kind.String → (wanted : HeaderValue) → Shows (value_symbol wanted) lexeme → value.Text (between_quotes lexeme.text) ≡ wanted
value_text lexeme is (value.Boolean true) shows = let e : kind.String ≡ kind.True = sym is ∙ shows in cc
value_text lexeme is (value.Boolean false) shows = let e : kind.String ≡ kind.False = sym is ∙ shows in cc
value_text lexeme is (value.Number n) shows = let e : kind.String ≡ kind.Int = sym is ∙ shows.0 in cc
value_text lexeme is (value.Text bytes) shows = ap value.Text shows.1
value_text lexeme is (value.Word bytes) shows = let e : kind.String ≡ kind.Identifier = sym is ∙ shows.0 in cc

pub value_word : (lexeme : Lexeme HoaKind) → lexeme.kind ≡ kind.Identifier → (wanted : HeaderValue) → Shows (value_symbol wanted) lexeme → value.Word lexeme.text ≡ wanted
value_word lexeme is (value.Boolean true) shows = let e : kind.Identifier ≡ kind.True = sym is ∙ shows in cc
value_word lexeme is (value.Boolean false) shows = let e : kind.Identifier ≡ kind.False = sym is ∙ shows in cc
value_word lexeme is (value.Number n) shows = let e : kind.Identifier ≡ kind.Int = sym is ∙ shows.0 in cc
value_word lexeme is (value.Text bytes) shows = let e : kind.Identifier ≡ kind.String = sym is ∙ shows.0 in cc
value_word lexeme is (value.Word bytes) shows = ap value.Word shows.1

-- a token of no such kind shows none
pub value_unshown : (lexeme : Lexeme HoaKind) → (lexeme.kind ≡ kind.True → ⊥) → (lexeme.kind ≡ kind.False → ⊥) → (lexeme.kind ≡ kind.Int → ⊥) → (lexeme.kind ≡ kind.String → ⊥) → (lexeme.kind ≡ kind.Identifier → ⊥) → (wanted : HeaderValue) → Shows (value_symbol wanted) lexeme → ⊥
value_unshown lexeme a b c d e (value.Boolean true) shows = a (shows)
value_unshown lexeme a b c d e (value.Boolean false) shows = b (shows)
value_unshown lexeme a b c d e (value.Number n) shows = c (shows.0)
value_unshown lexeme a b c d e (value.Text bytes) shows = d (shows.0)
value_unshown lexeme a b c d e (value.Word bytes) shows = e (shows.0)
