-- What is read of the tokens of an expression: the aliases of a label, and nothing of a formula.
use Rattle.std.proofs.Common.{◌≡◌, ℕ, true, false, append-nil, append_assoc, List, [], ◌∷◌, ◌++◌, map, refl, ap, sym, ◌∙◌, subst}
use Rattle.std.specs.List.{AllByRecursion}
use Rattle.std.proofs.lemmas.List.Sums.{fold-append}
use Rattle.omega_hoa_expression.specs.Symbols.{ExpressionSymbol, expression_symbol_of, header, name, number, quoted, seen_as, sign, word}
use Rattle.omega_hoa_acceptance.specs.Raw.{RawAccTree}
use Rattle.omega_hoa_acceptance.specs.Raw as formula
use Rattle.omega_hoa_acceptance.specs.Reading.{ReadsAcc, formula_symbols}
use Rattle.omega_hoa_label.specs.Raw.{RawLabelTree, alias, conjunction, constant, disjunction, group, negation, proposition}
use Rattle.omega_hoa_label_text.specs.Reading.{Reads, label_symbols}
use Rattle.omega_text.specs.Lexeme.{Lexeme}
use Rattle.omega_text.specs.declared.hoa.kind.HoaKind.{HoaKind}
use Rattle.omega_text.specs.declared.hoa.kind.HoaKind.TheVariants as kind
use Rattle.omega_hoa_diagnostics.specs.Aliases.{label_aliases, used}
use Rattle.omega_hoa_diagnostics.specs.private.AliasReading.{OpenPart, Reading, after_name, after_token, definition, name_next, other, run, step}

-- what was read, with the uses of more names
abbrev pub with_uses : Reading → List (List ℕ) → Reading
with_uses reading [] = reading
with_uses reading (text ∷ more) = with_uses (record reading { said = reading.said ++ used text ∷ [] }) more

-- the next alias name is a use
abbrev pub IsQuiet : OpenPart → Type 0
IsQuiet other = Unit {0}
IsQuiet name_next = ⊥
IsQuiet (definition text) = Unit {0}

-- uses of some names and then of others
pub uses-append : (reading : Reading) (front back : List (List ℕ)) → with_uses reading (front ++ back) ≡ with_uses (with_uses reading front) back
uses-append reading [] back = refl
uses-append reading (text ∷ front) back = uses-append (record reading { said = reading.said ++ used text ∷ [] }) front back

-- uses leave the part open that was
pub uses-open : (reading : Reading) (names : List (List ℕ)) → (with_uses reading names).open_part ≡ reading.open_part
uses-open reading [] = refl
uses-open reading (text ∷ names) = uses-open (record reading { said = reading.said ++ used text ∷ [] }) names

-- what is said of uses
pub uses-said : (reading : Reading) (names : List (List ℕ)) → (with_uses reading names).said ≡ reading.said ++ map used names
uses-said reading [] = sym (append-nil reading.said)
uses-said reading (text ∷ names) =
    uses-said (record reading { said = reading.said ++ used text ∷ [] }) names ∙ append_assoc reading.said (used text ∷ []) (map used names)

-- a symbol of expressions: its token begins no part of a text
abbrev IsInside : ExpressionSymbol → Type 0
IsInside (number n) = Unit {0}
IsInside (name text) = Unit {0}
IsInside (word text) = Unit {0}
IsInside (header text) = ⊥
IsInside (quoted text) = Unit {0}
IsInside (sign kind.Body) = ⊥
IsInside (sign kind.AliasName) = ⊥
IsInside (sign kind.HeaderName) = ⊥
IsInside (sign kind) = Unit {0}

-- the alias that a symbol names
abbrev names_in : ExpressionSymbol → List (List ℕ)
names_in (name text) = text ∷ []
names_in symbol = []

-- the aliases that symbols name
abbrev all_names : List ExpressionSymbol → List (List ℕ)
all_names [] = []
all_names (symbol ∷ symbols) = names_in symbol ++ all_names symbols

-- a use where no name is next
name_step : (reading : Reading) (part : OpenPart) (text : List ℕ) → IsQuiet part
    → after_name reading part text ≡ record reading { said = reading.said ++ used text ∷ [] }
name_step reading other text quiet = refl
name_step reading name_next text quiet = absurd quiet
name_step reading (definition bytes) text quiet = refl

-- one token of an expression
kind_step : (reading : Reading) (kind : HoaKind) (value : ℕ) (text : List ℕ) → IsQuiet reading.open_part → IsInside (seen_as kind value text)
    → after_token reading kind text ≡ with_uses reading (names_in (seen_as kind value text))
kind_step reading kind.Identifier value text quiet inside = refl
kind_step reading kind.HeaderName value text quiet inside = absurd inside
kind_step reading kind.AliasName value text quiet inside = name_step reading reading.open_part text quiet
kind_step reading kind.True value text quiet inside = refl
kind_step reading kind.False value text quiet inside = refl
kind_step reading kind.Int value text quiet inside = refl
kind_step reading kind.String value text quiet inside = refl
kind_step reading kind.Body value text quiet inside = absurd inside
kind_step reading kind.End value text quiet inside = refl
kind_step reading kind.Abort value text quiet inside = refl
kind_step reading kind.Not value text quiet inside = refl
kind_step reading kind.And value text quiet inside = refl
kind_step reading kind.Or value text quiet inside = refl
kind_step reading kind.OpenParenthesis value text quiet inside = refl
kind_step reading kind.CloseParenthesis value text quiet inside = refl
kind_step reading kind.OpenBracket value text quiet inside = refl
kind_step reading kind.CloseBracket value text quiet inside = refl
kind_step reading kind.OpenBrace value text quiet inside = refl
kind_step reading kind.CloseBrace value text quiet inside = refl

-- the tokens of an expression
front_run : (reading : Reading) (front : List (Lexeme HoaKind)) → IsQuiet reading.open_part
    → AllByRecursion IsInside (map expression_symbol_of front)
    → run reading front ≡ with_uses reading (all_names (map expression_symbol_of front))
front_run reading [] quiet inside = refl
front_run reading (lexeme ∷ front) quiet inside =
    let first = names_in (expression_symbol_of lexeme) in
    let still : IsQuiet (with_uses reading first).open_part = subst IsQuiet (sym (uses-open reading first)) quiet in
    ap (λ next. run next front) (kind_step reading lexeme.kind lexeme.value lexeme.text quiet inside.0)
    ∙ front_run (with_uses reading first) front still inside.1
    ∙ sym (uses-append reading first (all_names (map expression_symbol_of front)))

-- two lists of symbols
inside-append : (xs ys : List ExpressionSymbol) → AllByRecursion IsInside xs → AllByRecursion IsInside ys → AllByRecursion IsInside (xs ++ ys)
inside-append [] ys front back = back
inside-append (x ∷ xs) ys front back = (front.0, inside-append xs ys front.1 back)

names-append : (xs ys : List ExpressionSymbol) → all_names (xs ++ ys) ≡ all_names xs ++ all_names ys
names-append [] ys = refl
names-append (x ∷ xs) ys =
    ap (λ more. names_in x ++ more) (names-append xs ys) ∙ sym (append_assoc (names_in x) (all_names xs) (all_names ys))

-- the symbols of a label are inside
label_inside : (tree : RawLabelTree) → AllByRecursion IsInside (label_symbols tree)
label_inside (constant true) = (tt, tt)
label_inside (constant false) = (tt, tt)
label_inside (proposition n) = (tt, tt)
label_inside (alias text) = (tt, tt)
label_inside (negation part) = (tt, label_inside part)
label_inside (conjunction left right) = inside-append (label_symbols left) (sign kind.And ∷ label_symbols right) (label_inside left) (tt, label_inside right)
label_inside (disjunction left right) = inside-append (label_symbols left) (sign kind.Or ∷ label_symbols right) (label_inside left) (tt, label_inside right)
label_inside (group part) = (tt, inside-append (label_symbols part) (sign kind.CloseParenthesis ∷ []) (label_inside part) (tt, tt))

-- they name the label's aliases
label_names : (tree : RawLabelTree) → all_names (label_symbols tree) ≡ label_aliases tree
label_names (constant true) = refl
label_names (constant false) = refl
label_names (proposition n) = refl
label_names (alias text) = refl
label_names (negation part) = label_names part
label_names (conjunction left right) =
    names-append (label_symbols left) (sign kind.And ∷ label_symbols right)
    ∙ ap (λ names. names ++ all_names (label_symbols right)) (label_names left)
    ∙ ap (λ names. label_aliases left ++ names) (label_names right)
label_names (disjunction left right) =
    names-append (label_symbols left) (sign kind.Or ∷ label_symbols right)
    ∙ ap (λ names. names ++ all_names (label_symbols right)) (label_names left)
    ∙ ap (λ names. label_aliases left ++ names) (label_names right)
label_names (group part) =
    names-append (label_symbols part) (sign kind.CloseParenthesis ∷ []) ∙ append-nil (all_names (label_symbols part)) ∙ label_names part

-- the symbols of a formula are inside
formula_inside : (tree : RawAccTree) → AllByRecursion IsInside (formula_symbols tree)
formula_inside (formula.constant true) = (tt, tt)
formula_inside (formula.constant false) = (tt, tt)
formula_inside (formula.atom text true set) = (tt, (tt, (tt, (tt, (tt, tt)))))
formula_inside (formula.atom text false set) = (tt, (tt, (tt, (tt, tt))))
formula_inside (formula.conjunction left right) = inside-append (formula_symbols left) (sign kind.And ∷ formula_symbols right) (formula_inside left) (tt, formula_inside right)
formula_inside (formula.disjunction left right) = inside-append (formula_symbols left) (sign kind.Or ∷ formula_symbols right) (formula_inside left) (tt, formula_inside right)
formula_inside (formula.group part) = (tt, inside-append (formula_symbols part) (sign kind.CloseParenthesis ∷ []) (formula_inside part) (tt, tt))

-- they name no alias
formula_names : (tree : RawAccTree) → all_names (formula_symbols tree) ≡ []
formula_names (formula.constant true) = refl
formula_names (formula.constant false) = refl
formula_names (formula.atom text true set) = refl
formula_names (formula.atom text false set) = refl
formula_names (formula.conjunction left right) =
    names-append (formula_symbols left) (sign kind.And ∷ formula_symbols right)
    ∙ ap (λ names. names ++ all_names (formula_symbols right)) (formula_names left) ∙ formula_names right
formula_names (formula.disjunction left right) =
    names-append (formula_symbols left) (sign kind.Or ∷ formula_symbols right)
    ∙ ap (λ names. names ++ all_names (formula_symbols right)) (formula_names left) ∙ formula_names right
formula_names (formula.group part) =
    names-append (formula_symbols part) (sign kind.CloseParenthesis ∷ []) ∙ append-nil (all_names (formula_symbols part)) ∙ formula_names part

-- the tokens of a label, and then others
pub label_run : (reading : Reading) (tokens rest : List (Lexeme HoaKind)) (tree : RawLabelTree) → IsQuiet reading.open_part
    → Reads tokens tree rest → run reading tokens ≡ run (with_uses reading (label_aliases tree)) rest
label_run reading tokens rest tree quiet reads =
    ap (run reading) reads.split ∙ fold-append step reading reads.front rest
    ∙ ap (λ next. run next rest)
    (front_run reading reads.front quiet (subst (AllByRecursion IsInside) (sym reads.spells) (label_inside tree))
    ∙ ap (with_uses reading) (ap all_names reads.spells ∙ label_names tree))

-- the tokens of a formula, and then others
pub formula_run : (reading : Reading) (tokens rest : List (Lexeme HoaKind)) (tree : RawAccTree) → IsQuiet reading.open_part
    → ReadsAcc tokens tree rest → run reading tokens ≡ run reading rest
formula_run reading tokens rest tree quiet reads =
    ap (run reading) reads.split ∙ fold-append step reading reads.front rest
    ∙ ap (λ next. run next rest)
    (front_run reading reads.front quiet (subst (AllByRecursion IsInside) (sym reads.spells) (formula_inside tree))
    ∙ ap (with_uses reading) (ap all_names reads.spells ∙ formula_names tree))
