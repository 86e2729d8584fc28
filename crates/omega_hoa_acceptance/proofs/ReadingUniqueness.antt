-- At most one acceptance formula is read: the tokens determine what stands before each part.
use Rattle.std.proofs.Common.{◌≡◌, ℕ, Bool, true, false, List, [], ◌∷◌, ◌++◌, map, length, drop, ap, refl, sym, ◌∙◌}
use Rattle.std.proofs.lemmas.List.{map-append, length-map}
use Rattle.std.proofs.Math.Seq.{drop-append_seam}
use Rattle.omega_hoa_acceptance.specs.Raw.{RawAccTree, atom, conjunction, constant, disjunction, group}
use Rattle.omega_hoa_acceptance.specs.Reading.{IsAccOf, ReadsAcc, formula_symbols}
use Rattle.omega_hoa_expression.specs.Symbols.{EndsThere, IsNoOperator, ExpressionSymbol, conjunctive, disjunctive, number, seen_as, sign, expression_symbol_of, unary, word}
use Rattle.omega_hoa_acceptance.specs.private.layout.Building.{Before, FitsAfter, anded, opened, ored, start}
use Rattle.omega_text.specs.Lexeme.{Lexeme}
use Rattle.omega_text.specs.declared.hoa.kind.HoaKind.{HoaKind}
use Rattle.omega_text.specs.declared.hoa.kind.HoaKind.TheVariants as kind

-- what has been read: what stands before the part that is wanted, or that and as much of an atom, or that and the part,
-- or the whole
pub data Stage : Type 0 where
  wanted : Before → Stage
  named : Before → List ℕ → Stage
  entered : Before → List ℕ → Stage
  barred : Before → List ℕ → Stage
  numbered : Before → List ℕ → Bool → ℕ → Stage
  had : Before → RawAccTree → Stage
  whole : RawAccTree → Stage
  failed : Stage

-- a part with each `!` and the `&` before it
abbrev bound : Before → RawAccTree → Stage
bound start part = had start part
bound (opened before) part = had (opened before) part
bound (anded before left) part = had before (conjunction left part)
bound (ored before left) part = had (ored before left) part

-- what stands before a part with the `|` before it
abbrev outside : Before → Before
outside (ored before left) = before
outside before = before

-- a part with the `|` before it
abbrev joined : Before → RawAccTree → RawAccTree
joined (ored before left) part = disjunction left part
joined before part = part

-- a part in parentheses
abbrev closed : Before → RawAccTree → Stage
closed (opened before) part = bound before (group part)
closed start part = whole part
closed before part = failed

-- the formula after which other tokens stand
abbrev finished : Before → RawAccTree → Stage
finished start part = whole part
finished before part = failed

abbrev step : Stage → ExpressionSymbol → Stage
step (wanted before) (word text) = named before text
step (wanted before) (sign kind.True) = bound before (constant true)
step (wanted before) (sign kind.False) = bound before (constant false)
step (wanted before) (sign kind.OpenParenthesis) = wanted (opened before)
step (wanted before) other = failed
step (named before text) (sign kind.OpenParenthesis) = entered before text
step (named before text) other = failed
step (entered before text) (sign kind.Not) = barred before text
step (entered before text) (number set) = numbered before text false set
step (entered before text) other = failed
step (barred before text) (number set) = numbered before text true set
step (barred before text) other = failed
step (numbered before text negated set) (sign kind.CloseParenthesis) = bound before (atom text negated set)
step (numbered before text negated set) other = failed
step (had before part) (sign kind.And) = wanted (anded before part)
step (had before part) (sign kind.Or) = wanted (ored (outside before) (joined before part))
step (had before part) (sign kind.CloseParenthesis) = closed (outside before) (joined before part)
step (had before part) other = finished (outside before) (joined before part)
step (whole part) other = whole part
step failed other = failed

abbrev steps : Stage → List ExpressionSymbol → Stage
steps stage [] = stage
steps stage (symbol ∷ symbols) = steps (step stage symbol) symbols

steps-append : (stage : Stage) (symbols more : List ExpressionSymbol) → steps stage (symbols ++ more) ≡ steps (steps stage symbols) more
steps-append stage [] more = refl
steps-append stage (symbol ∷ symbols) more = steps-append (step stage symbol) symbols more

steps-whole : (part : RawAccTree) (symbols : List ExpressionSymbol) → steps (whole part) symbols ≡ whole part
steps-whole part [] = refl
steps-whole part (symbol ∷ symbols) = steps-whole part symbols

-- a unary part is read as far as it is bound
bound-fits : (before : Before) (part : RawAccTree) → FitsAfter conjunctive before → bound before part ≡ had before part
bound-fits start part fits = refl
bound-fits (opened before) part fits = refl
bound-fits (anded before left) part fits = absurd fits
bound-fits (ored before left) part fits = refl

fits-outside : (before : Before) → FitsAfter disjunctive before → outside before ≡ before
fits-outside start fits = refl
fits-outside (opened before) fits = refl
fits-outside (anded before left) fits = absurd fits
fits-outside (ored before left) fits = absurd fits

fits-joined : (before : Before) (part : RawAccTree) → FitsAfter disjunctive before → joined before part ≡ part
fits-joined start part fits = refl
fits-joined (opened before) part fits = refl
fits-joined (anded before left) part fits = absurd fits
fits-joined (ored before left) part fits = absurd fits

fits-more : (before : Before) → FitsAfter disjunctive before → FitsAfter conjunctive before
fits-more start fits = tt
fits-more (opened before) fits = tt
fits-more (anded before left) fits = fits
fits-more (ored before left) fits = absurd fits

-- an or-expression is read: what stands last of it, after what stands before that
pub record IsReadAfter (before : Before) (part : RawAccTree) (stage : Stage) : Type 0 where
  pub inner : Before
  pub last : RawAccTree
  pub is : stage ≡ had inner last
  pub around : outside inner ≡ before
  pub all : joined inner last ≡ part

following-alone : (before : Before) (part : RawAccTree) (stage : Stage) → FitsAfter disjunctive before → stage ≡ had before part → IsReadAfter before part stage
following-alone before part stage fits is = record {
  inner = before;
  last = part;
  is = is;
  around = fits-outside before fits;
  all = fits-joined before part fits;
}

-- a unary formula, an and-expression and an or-expression are read
mutual
  steps-unary : (part : RawAccTree) (before : Before) → IsAccOf unary part → steps (wanted before) (formula_symbols part) ≡ bound before part
  steps-unary (constant true) before is = refl
  steps-unary (constant false) before is = refl
  steps-unary (atom text true set) before is = refl
  steps-unary (atom text false set) before is = refl
  steps-unary (conjunction left right) before is = absurd is.0
  steps-unary (disjunction left right) before is = absurd is.0
  steps-unary (group part) before is =
      let read = steps-disjunctive part (opened before) is tt in
      steps-append (wanted (opened before)) (formula_symbols part) (sign kind.CloseParenthesis ∷ [])
      ∙ (ap (λ stage. step stage (sign kind.CloseParenthesis)) read.is
      ∙ (ap (λ outer. closed outer (joined read.inner read.last)) read.around ∙ ap (λ more. bound before (group more)) read.all))

  steps-conjunctive : (part : RawAccTree) (before : Before) → IsAccOf conjunctive part → FitsAfter conjunctive before → steps (wanted before) (formula_symbols part) ≡ had before part
  steps-conjunctive (constant true) before is fits = bound-fits before _ fits
  steps-conjunctive (constant false) before is fits = bound-fits before _ fits
  steps-conjunctive (atom text true set) before is fits = bound-fits before _ fits
  steps-conjunctive (atom text false set) before is fits = bound-fits before _ fits
  steps-conjunctive (conjunction left right) before is fits =
      steps-append (wanted before) (formula_symbols left) (sign kind.And ∷ formula_symbols right)
      ∙ (ap (λ stage. steps stage (sign kind.And ∷ formula_symbols right)) (steps-conjunctive left before is.1.0 fits) ∙ steps-unary right (anded before left) is.1.1)
  steps-conjunctive (disjunction left right) before is fits = absurd is.0
  steps-conjunctive (group part) before is fits =
      let read = steps-disjunctive part (opened before) is tt in
      steps-append (wanted (opened before)) (formula_symbols part) (sign kind.CloseParenthesis ∷ [])
      ∙ (ap (λ stage. step stage (sign kind.CloseParenthesis)) read.is
      ∙ (ap (λ outer. closed outer (joined read.inner read.last)) read.around ∙ (ap (λ more. bound before (group more)) read.all ∙ bound-fits before (group part) fits)))

  steps-disjunctive : (part : RawAccTree) (before : Before) → IsAccOf disjunctive part → FitsAfter disjunctive before → IsReadAfter before part (steps (wanted before) (formula_symbols part))
  steps-disjunctive (constant true) before is fits = following-alone before _ _ fits (bound-fits before _ (fits-more before fits))
  steps-disjunctive (constant false) before is fits = following-alone before _ _ fits (bound-fits before _ (fits-more before fits))
  steps-disjunctive (atom text true set) before is fits = following-alone before _ _ fits (bound-fits before _ (fits-more before fits))
  steps-disjunctive (atom text false set) before is fits = following-alone before _ _ fits (bound-fits before _ (fits-more before fits))
  steps-disjunctive (conjunction left right) before is fits =
      following-alone before _ _ fits
      (steps-append (wanted before) (formula_symbols left) (sign kind.And ∷ formula_symbols right)
      ∙ (ap (λ stage. steps stage (sign kind.And ∷ formula_symbols right)) (steps-conjunctive left before is.1.0 (fits-more before fits)) ∙ steps-unary right (anded before left) is.1.1))
  steps-disjunctive (group part) before is fits =
      let read = steps-disjunctive part (opened before) is tt in
      following-alone before _ _ fits
      (steps-append (wanted (opened before)) (formula_symbols part) (sign kind.CloseParenthesis ∷ [])
      ∙ (ap (λ stage. step stage (sign kind.CloseParenthesis)) read.is
      ∙ (ap (λ outer. closed outer (joined read.inner read.last)) read.around ∙ (ap (λ more. bound before (group more)) read.all ∙ bound-fits before (group part) (fits-more before fits)))))
  steps-disjunctive (disjunction left right) before is fits =
      let read = steps-disjunctive left before is.1.0 fits in record {
        inner = ored before left;
        last = right;
        is = steps-append (wanted before) (formula_symbols left) (sign kind.Or ∷ formula_symbols right)
            ∙ (ap (λ stage. steps stage (sign kind.Or ∷ formula_symbols right)) read.is
            ∙ (ap (λ outer. steps (wanted (ored outer (joined read.inner read.last))) (formula_symbols right)) read.around
            ∙ (ap (λ more. steps (wanted (ored before more)) (formula_symbols right)) read.all ∙ steps-conjunctive right (ored before left) is.1.1 tt)));
        around = refl;
        all = refl;
      }

-- the formula of a stage, or a constant where there is none
abbrev formula_of : Stage → RawAccTree
formula_of (wanted before) = constant true
formula_of (named before text) = constant true
formula_of (entered before text) = constant true
formula_of (barred before text) = constant true
formula_of (numbered before text negated set) = constant true
formula_of (had before part) = joined before part
formula_of (whole part) = part
formula_of failed = constant true

step-ends : (sort : HoaKind) (value : ℕ) (text : List ℕ) (inner : Before) (last : RawAccTree) → IsNoOperator sort → outside inner ≡ start
    → step (had inner last) (seen_as sort value text) ≡ whole (joined inner last)
step-ends kind.And value text inner last none around = absurd none
step-ends kind.Or value text inner last none around = absurd none
step-ends kind.CloseParenthesis value text inner last none around = ap (λ outer. closed outer (joined inner last)) around
step-ends other value text inner last none around = ap (λ outer. finished outer (joined inner last)) around

rest-ends : (rest : List (Lexeme HoaKind)) (inner : Before) (last : RawAccTree) → EndsThere rest → outside inner ≡ start
    → formula_of (steps (had inner last) (map expression_symbol_of rest)) ≡ joined inner last
rest-ends [] inner last ends around = refl
rest-ends (lexeme ∷ rest) inner last ends around =
    ap formula_of
    (ap (λ stage. steps stage (map expression_symbol_of rest)) (step-ends lexeme.kind lexeme.value lexeme.text inner last ends around) ∙ steps-whole (joined inner last) (map expression_symbol_of rest))

-- what is read is what the steps read
reads-is : (tokens : List (Lexeme HoaKind)) (tree : RawAccTree) (rest : List (Lexeme HoaKind)) → ReadsAcc tokens tree rest
    → formula_of (steps (wanted start) (map expression_symbol_of tokens)) ≡ tree
reads-is tokens tree rest reads =
    let read = steps-disjunctive tree start reads.is tt in
    ap (λ all. formula_of (steps (wanted start) (map expression_symbol_of all))) reads.split
    ∙ (ap (λ all. formula_of (steps (wanted start) all)) (map-append expression_symbol_of reads.front rest)
    ∙ (ap formula_of (steps-append (wanted start) (map expression_symbol_of reads.front) (map expression_symbol_of rest))
    ∙ (ap (λ front. formula_of (steps (steps (wanted start) front) (map expression_symbol_of rest))) reads.spells
    ∙ (ap (λ stage. formula_of (steps stage (map expression_symbol_of rest))) read.is
    ∙ (rest-ends rest read.inner read.last reads.ends read.around ∙ read.all)))))

rest-is : (tokens : List (Lexeme HoaKind)) (tree : RawAccTree) (rest : List (Lexeme HoaKind)) → ReadsAcc tokens tree rest
    → rest ≡ drop (length (formula_symbols tree)) tokens
rest-is tokens tree rest reads =
    sym (ap (drop (length (formula_symbols tree))) reads.split
    ∙ (ap (λ count. drop count (reads.front ++ rest)) (sym (sym (length-map reads.front expression_symbol_of) ∙ ap length reads.spells)) ∙ drop-append_seam reads.front rest))

-- the formula and the rest are one
pub formulas-one : (tokens : List (Lexeme HoaKind)) (one other : RawAccTree) (rest left : List (Lexeme HoaKind))
    → ReadsAcc tokens one rest → ReadsAcc tokens other left → (one ≡ other) × (rest ≡ left)
formulas-one tokens one other rest left reads again =
    let same : one ≡ other = sym (reads-is tokens one rest reads) ∙ reads-is tokens other left again in
    (same, rest-is tokens one rest reads ∙ (ap (λ tree. drop (length (formula_symbols tree)) tokens) same ∙ sym (rest-is tokens other left again)))
