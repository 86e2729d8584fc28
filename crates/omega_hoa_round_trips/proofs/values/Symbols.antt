-- What the symbols of tokens say: numbers that fit, words, strings that can be put between quotes, expressions.
use Rattle.std.proofs.Common.{◌≡◌, ℕ, List, [], ◌∷◌, ◌++◌, length-append, ap, sym, ◌∙◌, subst, arith}
use Rattle.std.specs.List.{AllByRecursion}
use Rattle.std.proofs.lemmas.List.{take_at}
use Rattle.omega_text.specs.Forms.{IsWord, between_quotes}
use Rattle.omega_text.specs.Lexeme.{Lexeme}
use Rattle.omega_text.specs.declared.hoa.kind.HoaKind.{HoaKind}
use Rattle.omega_text.specs.declared.hoa.kind.HoaKind.TheVariants as kind
use Rattle.omega_text.specs.hoa.Forms.{IsForm, IsQuotable}
use Rattle.omega_text.specs.hoa.Forms as forms
use Rattle.omega_hoa_acceptance.specs.Reading.{IsAccOf}
use Rattle.omega_hoa_label_text.specs.Reading.{IsOf}
use Rattle.omega_hoa_expression.specs.Symbols.{disjunctive}
use Rattle.omega_hoa_syntax.specs.Symbols.{IsNext, Shows, ReadsSymbols, AutomatonSymbol, Tokens, alias, formula, header, label, number, sign, text, without_last, word}
use Rattle.omega_hoa_round_trips.specs.Writable.{IsWritableNumber, IsIdentifier}

-- the token has the form of its kind and value
abbrev pub IsFormed : Lexeme HoaKind → Type 0
IsFormed lexeme = forms.Spells lexeme.kind lexeme.value lexeme.text

-- what a symbol says that tokens can show
abbrev pub IsSaid : AutomatonSymbol → Type 0
IsSaid (number n) = IsWritableNumber n
IsSaid (word bytes) = IsIdentifier bytes
IsSaid (header bytes) = IsWord bytes
IsSaid (alias bytes) = Unit {0}
IsSaid (text bytes) = IsQuotable bytes
IsSaid (sign kind) = Unit {0}
IsSaid (label tree) = IsOf disjunctive tree
IsSaid (formula tree) = IsAccOf disjunctive tree

-- bytes without their last are the word before a colon
header-said : (bytes name : List ℕ) → without_last bytes ≡ name → IsForm kind.HeaderName bytes → IsWord name
header-said bytes name is form =
    let front : List ℕ = form.0 in
    let bare : without_last (front ++ 58 ∷ []) ≡ front = take_at front (58 ∷ []) _ (omega (arith, length-append front (58 ∷ []))) in
    subst IsWord (sym bare ∙ (sym (ap without_last form.1) ∙ is)) form.2

-- bytes between quotes are those of a string
text-said : (bytes inside : List ℕ) → between_quotes bytes ≡ inside → IsForm kind.String bytes → IsQuotable inside
text-said bytes inside is form =
    let front : List ℕ = form.0 in
    let bare : between_quotes (34 ∷ (front ++ 34 ∷ [])) ≡ front = take_at front (34 ∷ []) _ (omega (arith, length-append front (34 ∷ []))) in
    subst IsQuotable (sym bare ∙ (sym (ap between_quotes form.1) ∙ is)) form.2

-- a formed token as one of its kind
formed-as : (lexeme : Lexeme HoaKind) (sort : HoaKind) → lexeme.kind ≡ sort → IsFormed lexeme → forms.Spells sort lexeme.value lexeme.text
formed-as lexeme sort is formed = subst (λ other. forms.Spells other lexeme.value lexeme.text) is formed

number-shown : (n : ℕ) (lexeme : Lexeme HoaKind) → Shows (number n) lexeme → IsFormed lexeme → IsWritableNumber n
number-shown n lexeme shows formed = subst IsWritableNumber shows.1 (formed-as lexeme kind.Int shows.0 formed).0

word-shown : (bytes : List ℕ) (lexeme : Lexeme HoaKind) → Shows (word bytes) lexeme → IsFormed lexeme → IsIdentifier bytes
word-shown bytes lexeme shows formed = subst IsIdentifier shows.1 (formed-as lexeme kind.Identifier shows.0 formed).1

header-shown : (bytes : List ℕ) (lexeme : Lexeme HoaKind) → Shows (header bytes) lexeme → IsFormed lexeme → IsWord bytes
header-shown bytes lexeme shows formed = header-said lexeme.text bytes shows.1 (formed-as lexeme kind.HeaderName shows.0 formed).1

text-shown : (bytes : List ℕ) (lexeme : Lexeme HoaKind) → Shows (text bytes) lexeme → IsFormed lexeme → IsQuotable bytes
text-shown bytes lexeme shows formed = text-said lexeme.text bytes shows.1 (formed-as lexeme kind.String shows.0 formed).1

-- what holds of the next token and of those after it
next-formed : (symbol : AutomatonSymbol) (tokens middle : Tokens) → AllByRecursion IsFormed tokens → (next : IsNext symbol tokens middle)
    → IsFormed next.lexeme × AllByRecursion IsFormed middle
next-formed symbol tokens middle all next = subst (AllByRecursion IsFormed) next.next all

-- what holds of tokens holds of those after some of them
all-following : (front following : Tokens) → AllByRecursion IsFormed (front ++ following) → AllByRecursion IsFormed following
all-following [] following all = all
all-following (lexeme ∷ front) following all = all-following front following all.1

-- the symbols of formed tokens can be shown by tokens
pub said : (symbols : List AutomatonSymbol) (tokens rest : Tokens) → AllByRecursion IsFormed tokens → ReadsSymbols tokens symbols rest → AllByRecursion IsSaid symbols
said [] tokens rest all spells = tt
said (number n ∷ others) tokens rest all spells =
    let formed = next-formed (number n) tokens spells.middle all spells.front in
    (number-shown n spells.front.lexeme spells.front.shows formed.0, said others spells.middle rest formed.1 spells.back)
said (word bytes ∷ others) tokens rest all spells =
    let formed = next-formed (word bytes) tokens spells.middle all spells.front in
    (word-shown bytes spells.front.lexeme spells.front.shows formed.0, said others spells.middle rest formed.1 spells.back)
said (header bytes ∷ others) tokens rest all spells =
    let formed = next-formed (header bytes) tokens spells.middle all spells.front in
    (header-shown bytes spells.front.lexeme spells.front.shows formed.0, said others spells.middle rest formed.1 spells.back)
said (alias bytes ∷ others) tokens rest all spells =
    let formed = next-formed (alias bytes) tokens spells.middle all spells.front in
    (tt, said others spells.middle rest formed.1 spells.back)
said (text bytes ∷ others) tokens rest all spells =
    let formed = next-formed (text bytes) tokens spells.middle all spells.front in
    (text-shown bytes spells.front.lexeme spells.front.shows formed.0, said others spells.middle rest formed.1 spells.back)
said (sign kind ∷ others) tokens rest all spells =
    let formed = next-formed (sign kind) tokens spells.middle all spells.front in
    (tt, said others spells.middle rest formed.1 spells.back)
said (label tree ∷ others) tokens rest all spells = (
  spells.front.is,
  said others spells.middle rest
      (all-following spells.front.front spells.middle (subst (AllByRecursion IsFormed) spells.front.split all)) spells.back,
)
said (formula tree ∷ others) tokens rest all spells = (
  spells.front.is,
  said others spells.middle rest
      (all-following spells.front.front spells.middle (subst (AllByRecursion IsFormed) spells.front.split all)) spells.back,
)
