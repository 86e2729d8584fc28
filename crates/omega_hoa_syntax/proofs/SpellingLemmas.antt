-- What symbols say of the tokens that they spell.
use Rattle.std.proofs.Common.{◌≡◌, ◌<◌, ◌≤◌, Bool, true, false, List, [], ◌∷◌, length, length-append, sym, ◌∙◌, subst, arith}
use Rattle.omega_hoa_acceptance.specs.Reading.{ReadsAcc}
use Rattle.omega_hoa_acceptance.specs.Raw.{RawAccTree}
use Rattle.omega_hoa_label_text.specs.Reading.{Reads}
use Rattle.omega_hoa_label.specs.Raw.{RawLabelTree}
use Rattle.omega_hoa_expression.specs.Passing.{NextIsNot}
use Rattle.omega_hoa_syntax.specs.private.steps.Reading.{NextIs, NextMayBe}
use Rattle.omega_hoa_syntax.specs.Symbols.{IsNext, Shows, ReadsSymbols, Splits, AutomatonSymbol, Tokens, alias, formula, header, label, number, sign, text, word}
use Rattle.omega_hoa_syntax.specs.First.{FirstIs}
use Rattle.omega_text.specs.Lexeme.{Lexeme}
use Rattle.omega_text.specs.declared.hoa.kind.HoaKind.{HoaKind}
use Rattle.omega_text.specs.declared.hoa.kind.HoaKind.TheVariants as kind

-- the token that is taken shows the symbol, and those that are left spell the others
pub token_taken : (symbol : AutomatonSymbol) (others : List AutomatonSymbol) (rest old new : Tokens) (lexeme : Lexeme HoaKind) → old ≡ lexeme ∷ new
    → Splits (λ middle. IsNext symbol old middle) (λ middle. ReadsSymbols middle others rest) → Shows symbol lexeme × ReadsSymbols new others rest
token_taken symbol others rest old new lexeme took splits =
    let e : splits.front.lexeme ∷ splits.middle ≡ lexeme ∷ new = sym splits.front.next ∙ took in
    let one : splits.front.lexeme ≡ lexeme = cc in
    let left : splits.middle ≡ new = cc in
    (subst (Shows symbol) one splits.front.shows, subst (λ tokens. ReadsSymbols tokens others rest) left splits.back)

-- a token of a kind that is not there shows nothing
pub token_missing : (symbol : AutomatonSymbol) (old middle : Tokens) (kind : HoaKind) → NextIsNot kind old → IsNext symbol old middle
    → ((lexeme : Lexeme HoaKind) → Shows symbol lexeme → lexeme.kind ≡ kind) → ⊥
token_missing symbol [] middle kind missing next shown = let e : [] ≡ next.lexeme ∷ middle = next.next in cc
token_missing symbol (lexeme ∷ tokens) middle kind missing next shown =
    let e : lexeme ∷ tokens ≡ next.lexeme ∷ middle = next.next in
    let one : next.lexeme ≡ lexeme = cc in
    missing (shown lexeme (subst (Shows symbol) one next.shows))

-- what holds of the kind of a token holds of the next one
next_of : (Holds : HoaKind → Type 0) (symbol : AutomatonSymbol) (tokens middle : Tokens) (kind : HoaKind) → Holds kind → IsNext symbol tokens middle
    → ((lexeme : Lexeme HoaKind) → Shows symbol lexeme → lexeme.kind ≡ kind) → NextIs Holds tokens
next_of Holds symbol tokens middle kind holds next shown =
    subst (NextIs Holds) (sym next.next) (subst Holds (sym (shown next.lexeme next.shows)) holds)

-- the first symbol says of which kind the next token is
pub next_is : (Holds : HoaKind → Type 0) (symbols : List AutomatonSymbol) (tokens rest : Tokens) → FirstIs Holds symbols → ReadsSymbols tokens symbols rest → NextIs Holds tokens
next_is Holds [] tokens rest first spells = absurd first
next_is Holds (number n ∷ others) tokens rest first spells = next_of Holds (number n) tokens spells.middle kind.Int first spells.front (λ lexeme shows. shows.0)
next_is Holds (word bytes ∷ others) tokens rest first spells = next_of Holds (word bytes) tokens spells.middle kind.Identifier first spells.front (λ lexeme shows. shows.0)
next_is Holds (header bytes ∷ others) tokens rest first spells = next_of Holds (header bytes) tokens spells.middle kind.HeaderName first spells.front (λ lexeme shows. shows.0)
next_is Holds (alias bytes ∷ others) tokens rest first spells = next_of Holds (alias bytes) tokens spells.middle kind.AliasName first spells.front (λ lexeme shows. shows.0)
next_is Holds (text bytes ∷ others) tokens rest first spells = next_of Holds (text bytes) tokens spells.middle kind.String first spells.front (λ lexeme shows. shows.0)
next_is Holds (sign kind ∷ others) tokens rest first spells = next_of Holds (sign kind) tokens spells.middle kind first spells.front (λ lexeme shows. shows)
next_is Holds (label tree ∷ others) tokens rest first spells = absurd first
next_is Holds (formula tree ∷ others) tokens rest first spells = absurd first

-- what is said of the first symbol's kind may be weakened
pub first_then : (Holds More : HoaKind → Type 0) (symbols : List AutomatonSymbol) → ((kind : HoaKind) → Holds kind → More kind) → FirstIs Holds symbols → FirstIs More symbols
first_then Holds More [] then first = absurd first
first_then Holds More (number n ∷ others) then first = then kind.Int first
first_then Holds More (word bytes ∷ others) then first = then kind.Identifier first
first_then Holds More (header bytes ∷ others) then first = then kind.HeaderName first
first_then Holds More (alias bytes ∷ others) then first = then kind.AliasName first
first_then Holds More (text bytes ∷ others) then first = then kind.String first
first_then Holds More (sign kind ∷ others) then first = then kind first
first_then Holds More (label tree ∷ others) then first = absurd first
first_then Holds More (formula tree ∷ others) then first = absurd first

-- the next token is of a kind and of no such kind
pub next_clash : (begins : HoaKind → Bool) (tokens : Tokens) → NextIs (λ kind. begins kind ≡ true) tokens → NextMayBe (λ kind. begins kind ≡ false) tokens → ⊥
next_clash begins [] is may = absurd is
next_clash begins (lexeme ∷ tokens) is may = let e : true ≡ false = sym is ∙ may in cc

-- a next token of a kind may be of it
pub next_may : (Holds : HoaKind → Type 0) (tokens : Tokens) → NextIs Holds tokens → NextMayBe Holds tokens
next_may Holds [] is = absurd is
next_may Holds (lexeme ∷ tokens) is = is

-- no more tokens are left than there were
shorter_next : (symbol : AutomatonSymbol) (tokens rest : Tokens) → IsNext symbol tokens rest → length rest < length tokens
shorter_next symbol tokens rest next = subst (λ all. length rest < length all) (sym next.next) (omega arith)

shorter_label : (tree : RawLabelTree) (tokens rest : Tokens) → Reads tokens tree rest → length rest ≤ length tokens
shorter_label tree tokens rest reads = subst (λ all. length rest ≤ length all) (sym reads.split) (omega (arith, length-append reads.front rest))

shorter_formula : (tree : RawAccTree) (tokens rest : Tokens) → ReadsAcc tokens tree rest → length rest ≤ length tokens
shorter_formula tree tokens rest reads = subst (λ all. length rest ≤ length all) (sym reads.split) (omega (arith, length-append reads.front rest))

pub no_longer : (symbols : List AutomatonSymbol) (tokens rest : Tokens) → ReadsSymbols tokens symbols rest → length rest ≤ length tokens
no_longer [] tokens rest spells = subst (λ all. length rest ≤ length all) (sym spells) (omega arith)
no_longer (number n ∷ others) tokens rest spells = let a = shorter_next _ tokens spells.middle spells.front in let b = no_longer others spells.middle rest spells.back in omega (arith, a, b)
no_longer (word bytes ∷ others) tokens rest spells = let a = shorter_next _ tokens spells.middle spells.front in let b = no_longer others spells.middle rest spells.back in omega (arith, a, b)
no_longer (header bytes ∷ others) tokens rest spells = let a = shorter_next _ tokens spells.middle spells.front in let b = no_longer others spells.middle rest spells.back in omega (arith, a, b)
no_longer (alias bytes ∷ others) tokens rest spells = let a = shorter_next _ tokens spells.middle spells.front in let b = no_longer others spells.middle rest spells.back in omega (arith, a, b)
no_longer (text bytes ∷ others) tokens rest spells = let a = shorter_next _ tokens spells.middle spells.front in let b = no_longer others spells.middle rest spells.back in omega (arith, a, b)
no_longer (sign kind ∷ others) tokens rest spells = let a = shorter_next _ tokens spells.middle spells.front in let b = no_longer others spells.middle rest spells.back in omega (arith, a, b)
no_longer (label tree ∷ others) tokens rest spells = let a = shorter_label tree tokens spells.middle spells.front in let b = no_longer others spells.middle rest spells.back in omega (arith, a, b)
no_longer (formula tree ∷ others) tokens rest spells = let a = shorter_formula tree tokens spells.middle spells.front in let b = no_longer others spells.middle rest spells.back in omega (arith, a, b)

-- if the first symbol is a token, fewer are left
pub shorter : (Holds : HoaKind → Type 0) (symbols : List AutomatonSymbol) (tokens rest : Tokens) → FirstIs Holds symbols → ReadsSymbols tokens symbols rest → length rest < length tokens
shorter Holds [] tokens rest first spells = absurd first
shorter Holds (number n ∷ others) tokens rest first spells = let a = shorter_next _ tokens spells.middle spells.front in let b = no_longer others spells.middle rest spells.back in omega (arith, a, b)
shorter Holds (word bytes ∷ others) tokens rest first spells = let a = shorter_next _ tokens spells.middle spells.front in let b = no_longer others spells.middle rest spells.back in omega (arith, a, b)
shorter Holds (header bytes ∷ others) tokens rest first spells = let a = shorter_next _ tokens spells.middle spells.front in let b = no_longer others spells.middle rest spells.back in omega (arith, a, b)
shorter Holds (alias bytes ∷ others) tokens rest first spells = let a = shorter_next _ tokens spells.middle spells.front in let b = no_longer others spells.middle rest spells.back in omega (arith, a, b)
shorter Holds (text bytes ∷ others) tokens rest first spells = let a = shorter_next _ tokens spells.middle spells.front in let b = no_longer others spells.middle rest spells.back in omega (arith, a, b)
shorter Holds (sign kind ∷ others) tokens rest first spells = let a = shorter_next _ tokens spells.middle spells.front in let b = no_longer others spells.middle rest spells.back in omega (arith, a, b)
shorter Holds (label tree ∷ others) tokens rest first spells = absurd first
shorter Holds (formula tree ∷ others) tokens rest first spells = absurd first

-- where a token of a kind is missing, no symbol of that kind was written
pub missing_symbol : (symbol : AutomatonSymbol) (kind : HoaKind) → ((lexeme : Lexeme HoaKind) → Shows symbol lexeme → lexeme.kind ≡ kind)
    → (tokens : Tokens) → NextIsNot kind tokens → (Back : Tokens → Type 0) → Splits (λ middle. IsNext symbol tokens middle) Back → ⊥
missing_symbol symbol kind shown tokens missing Back splits = token_missing symbol tokens splits.middle kind missing splits.front shown
