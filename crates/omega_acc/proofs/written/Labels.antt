-- The canonical text of a label is that of the label as it is written, and its tokens are that label's.
use Rattle.std.proofs.Common.{◌≡◌, ℕ, ◌+◌, ◌≤◌, Bool, true, false, List, [], ◌∷◌, ◌++◌, Option, Some, option_map, codes, decimal, drop, length, nat_le, nat_lt, slice_index, ap, refl, sym, ◌∙◌, subst, arith, lit<}
use Rattle.std.proofs.lemmas.List.Sums.{AllPass-from_list_all}
use Rattle.omega_hoa_label_text.specs.Expanding.{Entry, Meaning, both, in_parentheses, negated, replaced}
use Rattle.omega_hoa_label.specs.Label.{LabelTree, conjunction, constant, disjunction, negation, proposition}
use Rattle.omega_hoa_label.specs.Label as label
use Rattle.omega_hoa_label.specs.Raw.{RawLabelTree, raw_depth}
use Rattle.omega_hoa_label.specs.Raw as raw
use Rattle.omega_hoa_label_text.specs.Reading.{IsOf, label_symbols}
use Rattle.omega_hoa_expression.specs.Symbols.{conjunctive, disjunctive, number, sign, truth_kind, unary}
use Rattle.omega_hoa_expression.specs.Writing.{bracketed, truth_text}
use Rattle.omega_hoa_label.specs.Writing.{label_text}
use Rattle.omega_hoa_label.specs.Writing.{NumbersFit, grouped, label_written}
use Rattle.omega_acc.specs.WritingLaws.{AreThere, MeansItself, StandsApart}
use Rattle.omega_acc.proofs.written.TokenLemmas.{Tokens, no-digit, there-then, there-token}
use Rattle.omega_text.specs.Limits.{most_number}
use Rattle.omega_text.specs.Bytes.{is_word_byte}
use Rattle.omega_text.specs.declared.hoa.kind.HoaKind.TheVariants as kind

-- the text of a label as it is written
abbrev raw_text : RawLabelTree → List ℕ
raw_text (raw.constant value) = truth_text value
raw_text (raw.proposition value) = decimal value
raw_text (raw.alias name) = name
raw_text (raw.negation part) = 33 ∷ raw_text part
raw_text (raw.conjunction left right) = raw_text left ++ 38 ∷ raw_text right
raw_text (raw.disjunction left right) = raw_text left ++ 124 ∷ raw_text right
raw_text (raw.group part) = 40 ∷ (raw_text part ++ 41 ∷ [])

-- it can be written: no alias, and no number is too large
abbrev IsWritable : RawLabelTree → Type 0
IsWritable (raw.constant value) = Unit {0}
IsWritable (raw.proposition value) = value ≤ most_number
IsWritable (raw.alias name) = ⊥
IsWritable (raw.negation part) = IsWritable part
IsWritable (raw.conjunction left right) = IsWritable left × IsWritable right
IsWritable (raw.disjunction left right) = IsWritable left × IsWritable right
IsWritable (raw.group part) = IsWritable part

text-grouped : (within : Bool) (bytes : List ℕ) (part : RawLabelTree) → bytes ≡ raw_text part → bracketed within bytes ≡ raw_text (grouped within part)
text-grouped true bytes part is = ap (λ inside. 40 ∷ (inside ++ 41 ∷ [])) is
text-grouped false bytes part is = is

writable-grouped : (within : Bool) (part : RawLabelTree) → IsWritable part → IsWritable (grouped within part)
writable-grouped true part is = is
writable-grouped false part is = is

-- the canonical text is the text as it is written
text-written : (tree : LabelTree) → (label_text tree).bytes ≡ raw_text (label_written tree)
text-written (constant value) = refl
text-written (proposition value) = refl
text-written (negation part) = ap (λ inside. 33 ∷ inside) (text-grouped (nat_lt (label_text part).rank 3) _ _ (text-written part))
text-written (conjunction left right) =
    ap (λ front. front ++ 38 ∷ bracketed (nat_le (label_text right).rank 2) (label_text right).bytes) (text-grouped (nat_lt (label_text left).rank 2) _ _ (text-written left))
    ∙ ap (λ back. raw_text (grouped (nat_lt (label_text left).rank 2) (label_written left)) ++ 38 ∷ back) (text-grouped (nat_le (label_text right).rank 2) _ _ (text-written right))
text-written (disjunction left right) =
    ap (λ front. front ++ 124 ∷ bracketed (nat_le (label_text right).rank 1) (label_text right).bytes) (text-grouped (nat_lt (label_text left).rank 1) _ _ (text-written left))
    ∙ ap (λ back. raw_text (grouped (nat_lt (label_text left).rank 1) (label_written left)) ++ 124 ∷ back) (text-grouped (nat_le (label_text right).rank 1) _ _ (text-written right))

writable-written : (tree : LabelTree) → NumbersFit tree → IsWritable (label_written tree)
writable-written (constant value) fit = tt
writable-written (proposition value) fit = fit
writable-written (negation part) fit = writable-grouped (nat_lt (label_text part).rank 3) _ (writable-written part fit)
writable-written (conjunction left right) fit =
    (writable-grouped (nat_lt (label_text left).rank 2) _ (writable-written left fit.0), writable-grouped (nat_le (label_text right).rank 2) _ (writable-written right fit.1))
writable-written (disjunction left right) fit =
    (writable-grouped (nat_lt (label_text left).rank 1) _ (writable-written left fit.0), writable-grouped (nat_le (label_text right).rank 1) _ (writable-written right fit.1))

-- a sign stands apart from what it follows
pub apart-sign : (byte : ℕ) (rest : List ℕ) → StandsApart (byte ∷ []) → StandsApart (byte ∷ rest)
apart-sign byte rest apart = record { ends = apart.ends; closes = apart.closes }

pub apart-and : StandsApart (38 ∷ [])
apart-and = record { ends = refl; closes = λ is. omega (arith, is) }

pub apart-or : StandsApart (124 ∷ [])
apart-or = record { ends = refl; closes = λ is. omega (arith, is) }

pub apart-close : StandsApart (41 ∷ [])
apart-close = record { ends = refl; closes = λ is. omega (arith, is) }

-- `t` or `f`
pub there-truth : Tokens → (value : Bool) (source following : List ℕ) (from : ℕ) → StandsApart following
    → drop from source ≡ truth_text value ++ following → AreThere source from (from + length (truth_text value)) (sign (truth_kind value) ∷ [])
there-truth laws true source following from apart stands =
    there-token source following (codes "t") from 0 kind.True stands (refl, refl) (laws.words (codes "t") following (lit< tt, refl, AllPass-from_list_all is_word_byte (codes "t") refl) apart.ends apart.closes)
there-truth laws false source following from apart stands =
    there-token source following (codes "f") from 0 kind.False stands (refl, refl) (laws.words (codes "f") following (lit< tt, refl, AllPass-from_list_all is_word_byte (codes "f") refl) apart.ends apart.closes)

-- a number
pub there-number : Tokens → (value : ℕ) (source following : List ℕ) (from : ℕ) → value ≤ most_number → StandsApart following
    → drop from source ≡ decimal value ++ following → AreThere source from (from + length (decimal value)) (number value ∷ [])
there-number laws value source following from fits apart stands =
    there-token source following (decimal value) from value kind.Int stands (fits, refl)
    (laws.numbers (decimal value) following ((laws.plain (decimal value) value).0 (fits, refl)).0 (no-digit (slice_index following 0) apart.ends))

-- the tokens of a label as it is written
there-raw : Tokens → (part : RawLabelTree) (source following : List ℕ) (from : ℕ) → IsWritable part → StandsApart following
    → drop from source ≡ raw_text part ++ following → AreThere source from (from + length (raw_text part)) (label_symbols part)
there-raw laws (raw.constant value) source following from fit apart stands = there-truth laws value source following from apart stands
there-raw laws (raw.proposition value) source following from fit apart stands = there-number laws value source following from fit apart stands
there-raw laws (raw.alias name) source following from fit apart stands = absurd fit
there-raw laws (raw.negation part) source following from fit apart stands =
    there-then laws source (33 ∷ []) (raw_text part) following from (sign kind.Not ∷ []) (label_symbols part) stands
    (λ here. there-token source _ (33 ∷ []) from 0 kind.Not here (refl, refl) (laws.closed kind.Not (33 ∷ []) _ refl refl))
    (λ place here. there-raw laws part source following place fit apart here)
there-raw laws (raw.conjunction left right) source following from fit apart stands =
    there-then laws source (raw_text left) (38 ∷ raw_text right) following from (label_symbols left) (sign kind.And ∷ label_symbols right) stands
    (λ here. there-raw laws left source _ from fit.0 (apart-sign 38 (raw_text right ++ following) apart-and) here)
    (λ place here. there-then laws source (38 ∷ []) (raw_text right) following place (sign kind.And ∷ []) (label_symbols right) here
    (λ there. there-token source _ (38 ∷ []) place 0 kind.And there (refl, refl) (laws.closed kind.And (38 ∷ []) _ refl refl))
    (λ next there. there-raw laws right source following next fit.1 apart there))
there-raw laws (raw.disjunction left right) source following from fit apart stands =
    there-then laws source (raw_text left) (124 ∷ raw_text right) following from (label_symbols left) (sign kind.Or ∷ label_symbols right) stands
    (λ here. there-raw laws left source _ from fit.0 (apart-sign 124 (raw_text right ++ following) apart-or) here)
    (λ place here. there-then laws source (124 ∷ []) (raw_text right) following place (sign kind.Or ∷ []) (label_symbols right) here
    (λ there. there-token source _ (124 ∷ []) place 0 kind.Or there (refl, refl) (laws.closed kind.Or (124 ∷ []) _ refl refl))
    (λ next there. there-raw laws right source following next fit.1 apart there))
there-raw laws (raw.group part) source following from fit apart stands =
    there-then laws source (40 ∷ []) (raw_text part ++ 41 ∷ []) following from (sign kind.OpenParenthesis ∷ []) (label_symbols part ++ sign kind.CloseParenthesis ∷ []) stands
    (λ here. there-token source _ (40 ∷ []) from 0 kind.OpenParenthesis here (refl, refl) (laws.closed kind.OpenParenthesis (40 ∷ []) _ refl refl))
    (λ place here. there-then laws source (raw_text part) (41 ∷ []) following place (label_symbols part) (sign kind.CloseParenthesis ∷ []) here
    (λ there. there-raw laws part source _ place fit (apart-sign 41 following apart-close) there)
    (λ next there. there-token source _ (41 ∷ []) next 0 kind.CloseParenthesis there (refl, refl) (laws.closed kind.CloseParenthesis (41 ∷ []) _ refl refl)))

-- the tokens of the canonical text
pub there-label : Tokens → (tree : LabelTree) (source following : List ℕ) (from : ℕ) → NumbersFit tree → StandsApart following
    → drop from source ≡ (label_text tree).bytes ++ following → AreThere source from (from + length (label_text tree).bytes) (label_symbols (label_written tree))
there-label laws tree source following from fit apart stands =
    let same = text-written tree in
    subst (λ bytes. AreThere source from (from + length bytes) (label_symbols (label_written tree))) (sym same)
    (there-raw laws (label_written tree) source following from (writable-written tree fit) apart (stands ∙ ap (λ bytes. bytes ++ following) same))

-- ---- the cases of the grammar

-- the part of `!`
unary-grouped : (part : LabelTree) → IsOf disjunctive (label_written part) → IsOf unary (grouped (nat_lt (label_text part).rank 3) (label_written part))
unary-grouped (constant value) is = tt
unary-grouped (proposition value) is = tt
unary-grouped (negation part) is = is
unary-grouped (conjunction left right) is = is
unary-grouped (disjunction left right) is = is

-- the left part of `&`
left-grouped : (part : LabelTree) → IsOf disjunctive (label_written part) → IsOf conjunctive (grouped (nat_lt (label_text part).rank 2) (label_written part))
left-grouped (constant value) is = tt
left-grouped (proposition value) is = tt
left-grouped (negation part) is = is
left-grouped (conjunction left right) is = is
left-grouped (disjunction left right) is = is

-- the right part of `&`
right-grouped : (part : LabelTree) → IsOf disjunctive (label_written part) → IsOf unary (grouped (nat_le (label_text part).rank 2) (label_written part))
right-grouped (constant value) is = tt
right-grouped (proposition value) is = tt
right-grouped (negation part) is = is
right-grouped (conjunction left right) is = is
right-grouped (disjunction left right) is = is

-- the left part of `|`
first-grouped : (part : LabelTree) → IsOf disjunctive (label_written part) → IsOf disjunctive (grouped (nat_lt (label_text part).rank 1) (label_written part))
first-grouped (constant value) is = tt
first-grouped (proposition value) is = tt
first-grouped (negation part) is = is
first-grouped (conjunction left right) is = is
first-grouped (disjunction left right) is = is

-- the right part of `|`
second-grouped : (part : LabelTree) → IsOf disjunctive (label_written part) → IsOf conjunctive (grouped (nat_le (label_text part).rank 1) (label_written part))
second-grouped (constant value) is = tt
second-grouped (proposition value) is = tt
second-grouped (negation part) is = is
second-grouped (conjunction left right) is = is
second-grouped (disjunction left right) is = is

written-is : (tree : LabelTree) → IsOf disjunctive (label_written tree)
written-is (constant value) = tt
written-is (proposition value) = tt
written-is (negation part) = unary-grouped part (written-is part)
written-is (conjunction left right) = (tt, (left-grouped left (written-is left), right-grouped right (written-is right)))
written-is (disjunction left right) = (tt, (first-grouped left (written-is left), second-grouped right (written-is right)))

-- a tree with the depth that it is written with
abbrev of_depth : LabelTree → ℕ → Option Meaning
of_depth tree depth = Some (record { tree = tree; depth = depth })

means-grouped : (entries : List Entry) (within : Bool) (tree : LabelTree) (part : RawLabelTree)
    → replaced entries part ≡ of_depth tree (raw_depth part) → replaced entries (grouped within part) ≡ of_depth tree (raw_depth (grouped within part))
means-grouped entries true tree part is = ap (option_map in_parentheses) is
means-grouped entries false tree part is = is

written-means : (entries : List Entry) (tree : LabelTree) → replaced entries (label_written tree) ≡ of_depth tree (raw_depth (label_written tree))
written-means entries (constant value) = refl
written-means entries (proposition value) = refl
written-means entries (negation part) = ap (option_map negated) (means-grouped entries (nat_lt (label_text part).rank 3) part _ (written-means entries part))
written-means entries (conjunction left right) =
    ap (λ one. both label.conjunction one (replaced entries (grouped (nat_le (label_text right).rank 2) (label_written right)))) (means-grouped entries (nat_lt (label_text left).rank 2) left _ (written-means entries left))
    ∙ ap (both label.conjunction (of_depth left (raw_depth (grouped (nat_lt (label_text left).rank 2) (label_written left))))) (means-grouped entries (nat_le (label_text right).rank 2) right _ (written-means entries right))
written-means entries (disjunction left right) =
    ap (λ one. both label.disjunction one (replaced entries (grouped (nat_le (label_text right).rank 1) (label_written right)))) (means-grouped entries (nat_lt (label_text left).rank 1) left _ (written-means entries left))
    ∙ ap (both label.disjunction (of_depth left (raw_depth (grouped (nat_lt (label_text left).rank 1) (label_written left))))) (means-grouped entries (nat_le (label_text right).rank 1) right _ (written-means entries right))

-- a label as it is written means itself
pub means-itself : (entries : List Entry) (tree : LabelTree) → MeansItself entries tree
means-itself entries tree = record { is = written-is tree; means = written-means entries tree }
