-- Symbols of the grammar that no token which ends a segment is written as.
use Rattle.std.proofs.Common.{◌≡◌, ℕ, true, false, List, [], ◌∷◌, ◌++◌, map, refl, sym, ap, subst, ◌∙◌}
use Rattle.omega_text.specs.Lexeme.{Lexeme}
use Rattle.omega_text.specs.declared.hoa.kind.HoaKind.{HoaKind}
use Rattle.omega_text.specs.declared.hoa.kind.HoaKind.TheVariants as kind
use Rattle.std.specs.List.{AllByRecursion}
use Rattle.omega_hoa_acceptance.specs.Reading.{formula_symbols}
use Rattle.omega_hoa_acceptance.specs.Raw.{RawAccTree}
use Rattle.omega_hoa_acceptance.specs.Raw as acc
use Rattle.omega_hoa_label.specs.Raw.{RawLabelTree}
use Rattle.omega_hoa_label.specs.Raw as tree
use Rattle.omega_hoa_label_text.specs.Reading.{label_symbols}
use Rattle.omega_hoa_expression.specs.Symbols as seen
use Rattle.omega_hoa_syntax.specs.Symbols.{ReadsSymbol, AutomatonSymbol, alias, formula, header, label, number, sign, text, word}
use Rattle.omega_hoa.specs.Stream.{NoneEnds, is_end}

-- what a grammar sees of a token is no mark that ends a segment
abbrev IsUnended : seen.ExpressionSymbol → Type 0
IsUnended (seen.sign kind) = is_end kind ≡ false
IsUnended symbol = Unit {0}

-- a token that is seen so ends none
kind_unended : (kind : HoaKind) (value : ℕ) (bytes : List ℕ) → IsUnended (seen.seen_as kind value bytes) → is_end kind ≡ false
kind_unended kind.End value bytes unended = unended
kind_unended kind.Abort value bytes unended = unended
kind_unended kind value bytes unended = refl

-- nor do tokens that are seen as such symbols
tokens_unended : (tokens : List (Lexeme HoaKind)) → AllByRecursion IsUnended (map seen.expression_symbol_of tokens) → NoneEnds tokens
tokens_unended [] all = tt
tokens_unended (lexeme ∷ tokens) all = (kind_unended lexeme.kind lexeme.value lexeme.text all.0, tokens_unended tokens all.1)

-- both parts of symbols
joined : (front back : List seen.ExpressionSymbol) → AllByRecursion IsUnended front → AllByRecursion IsUnended back → AllByRecursion IsUnended (front ++ back)
joined [] back all more = more
joined (symbol ∷ front) back all more = (all.0, joined front back all.1 more)

-- a label has no such mark
label_unended : (it : RawLabelTree) → AllByRecursion IsUnended (label_symbols it)
label_unended (tree.constant true) = (refl, tt)
label_unended (tree.constant false) = (refl, tt)
label_unended (tree.proposition value) = (tt, tt)
label_unended (tree.alias bytes) = (tt, tt)
label_unended (tree.negation part) = (refl, label_unended part)
label_unended (tree.conjunction left right) = joined (label_symbols left) (seen.sign kind.And ∷ label_symbols right) (label_unended left) (refl, label_unended right)
label_unended (tree.disjunction left right) = joined (label_symbols left) (seen.sign kind.Or ∷ label_symbols right) (label_unended left) (refl, label_unended right)
label_unended (tree.group part) = (refl, joined (label_symbols part) (seen.sign kind.CloseParenthesis ∷ []) (label_unended part) (refl, tt))

-- nor has an acceptance formula
formula_unended : (it : RawAccTree) → AllByRecursion IsUnended (formula_symbols it)
formula_unended (acc.constant true) = (refl, tt)
formula_unended (acc.constant false) = (refl, tt)
formula_unended (acc.atom name true set) = (tt, (refl, (refl, (tt, (refl, tt)))))
formula_unended (acc.atom name false set) = (tt, (refl, (tt, (refl, tt))))
formula_unended (acc.conjunction left right) = joined (formula_symbols left) (seen.sign kind.And ∷ formula_symbols right) (formula_unended left) (refl, formula_unended right)
formula_unended (acc.disjunction left right) = joined (formula_symbols left) (seen.sign kind.Or ∷ formula_symbols right) (formula_unended left) (refl, formula_unended right)
formula_unended (acc.group part) = (refl, joined (formula_symbols part) (seen.sign kind.CloseParenthesis ∷ []) (formula_unended part) (refl, tt))

-- a symbol of the grammar is no such mark
abbrev pub MarksNone : AutomatonSymbol → Type 0
MarksNone (sign kind) = is_end kind ≡ false
MarksNone symbol = Unit {0}

-- tokens that end no segment are in front of those that are left
abbrev pub StandsBefore : List (Lexeme HoaKind) → List (Lexeme HoaKind) → Type 0
StandsBefore tokens rest = (front : List (Lexeme HoaKind)) × (tokens ≡ front ++ rest) × NoneEnds front

one_before : (tokens rest : List (Lexeme HoaKind)) (lexeme : Lexeme HoaKind) (kind : HoaKind) → tokens ≡ lexeme ∷ rest → lexeme.kind ≡ kind → is_end kind ≡ false → StandsBefore tokens rest
one_before tokens rest lexeme kind is same none = (lexeme ∷ [], is, (ap is_end same ∙ none, tt))

-- such a symbol's tokens do
pub stands_before : (symbol : AutomatonSymbol) (tokens rest : List (Lexeme HoaKind)) → MarksNone symbol → ReadsSymbol symbol tokens rest → StandsBefore tokens rest
stands_before (number n) tokens rest none begins = one_before tokens rest begins.lexeme kind.Int begins.next begins.shows.0 refl
stands_before (word bytes) tokens rest none begins = one_before tokens rest begins.lexeme kind.Identifier begins.next begins.shows.0 refl
stands_before (header bytes) tokens rest none begins = one_before tokens rest begins.lexeme kind.HeaderName begins.next begins.shows.0 refl
stands_before (alias bytes) tokens rest none begins = one_before tokens rest begins.lexeme kind.AliasName begins.next begins.shows.0 refl
stands_before (text bytes) tokens rest none begins = one_before tokens rest begins.lexeme kind.String begins.next begins.shows.0 refl
stands_before (sign kind) tokens rest none begins = one_before tokens rest begins.lexeme kind begins.next begins.shows none
stands_before (label it) tokens rest none begins =
    (begins.front, begins.split, tokens_unended begins.front (subst (AllByRecursion IsUnended) (sym begins.spells) (label_unended it)))
stands_before (formula it) tokens rest none begins =
    (begins.front, begins.split, tokens_unended begins.front (subst (AllByRecursion IsUnended) (sym begins.spells) (formula_unended it)))
