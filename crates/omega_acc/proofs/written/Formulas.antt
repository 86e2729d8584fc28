-- The canonical text of an acceptance formula is that of the formula as it is written,
-- and its tokens are that formula's.
use Rattle.std.proofs.Common.{◌≡◌, ◌≢◌, ℕ, ◌+◌, ◌≤◌, Bool, true, false, List, [], ◌∷◌, ◌++◌, Some, codes, decimal, drop, length, nat_le, nat_lt, ap, refl, sym, ◌∙◌, subst, arith, lit<}
use Rattle.std.proofs.lemmas.List.Sums.{AllPass-from_list_all}
use Rattle.omega_hoa_acceptance.specs.Meaning.{acc_meant, both_meant}
use Rattle.omega_hoa_acceptance.specs.Reading.{IsAccOf, formula_symbols, mark_symbols}
use Rattle.omega_hoa_acceptance.specs.Acceptance.{AccTree, conjunction, constant, disjunction, fin, inf}
use Rattle.omega_hoa_acceptance.specs.Acceptance as acc
use Rattle.omega_hoa_acceptance.specs.Raw.{RawAccTree}
use Rattle.omega_hoa_acceptance.specs.Raw as raw
use Rattle.omega_hoa_expression.specs.Symbols.{conjunctive, disjunctive, number, sign, unary, word}
use Rattle.omega_hoa_expression.specs.Writing.{bracketed, set_text, truth_text}
use Rattle.omega_hoa_acceptance.specs.Writing.{acc_text}
use Rattle.omega_hoa_acceptance.specs.Writing.{SetsFit, acc_grouped, acc_written}
use Rattle.omega_acc.specs.WritingLaws.{AccMeansItself, AreThere, StandsApart}
use Rattle.omega_acc.proofs.written.TokenLemmas.{Tokens, there-then, there-token}
use Rattle.omega_acc.proofs.written.Labels.{apart-and, apart-close, apart-or, apart-sign, there-number, there-truth}
use Rattle.omega_text.specs.Limits.{most_number}
use Rattle.omega_text.specs.Bytes.{is_word_byte}
use Rattle.omega_text.specs.hoa.Forms.{IsForm}
use Rattle.omega_text.specs.declared.hoa.kind.HoaKind.TheVariants as kind

-- the text of a formula as it is written
abbrev raw_text : RawAccTree → List ℕ
raw_text (raw.constant value) = truth_text value
raw_text (raw.atom name negated set) = name ++ set_text negated set
raw_text (raw.conjunction left right) = raw_text left ++ 38 ∷ raw_text right
raw_text (raw.disjunction left right) = raw_text left ++ 124 ∷ raw_text right
raw_text (raw.group part) = 40 ∷ (raw_text part ++ 41 ∷ [])

-- it can be written: names are identifiers, and no set is too large
abbrev IsWritable : RawAccTree → Type 0
IsWritable (raw.constant value) = Unit {0}
IsWritable (raw.atom name negated set) = IsForm kind.Identifier name × (set ≤ most_number)
IsWritable (raw.conjunction left right) = IsWritable left × IsWritable right
IsWritable (raw.disjunction left right) = IsWritable left × IsWritable right
IsWritable (raw.group part) = IsWritable part

-- three bytes are not one
three-one : (a b c d : ℕ) → a ∷ b ∷ c ∷ [] ≢ d ∷ []
three-one a b c d is = omega (arith, ap (length {A = ℕ}) is)

-- the two identifiers
is-inf : IsForm kind.Identifier (codes "Inf")
is-inf = ((lit< tt, refl, AllPass-from_list_all is_word_byte (codes "Inf") refl), three-one 73 110 102 116, three-one 73 110 102 102)

is-fin : IsForm kind.Identifier (codes "Fin")
is-fin = ((lit< tt, refl, AllPass-from_list_all is_word_byte (codes "Fin") refl), three-one 70 105 110 116, three-one 70 105 110 102)

text-grouped : (within : Bool) (bytes : List ℕ) (part : RawAccTree) → bytes ≡ raw_text part → bracketed within bytes ≡ raw_text (acc_grouped within part)
text-grouped true bytes part is = ap (λ inside. 40 ∷ (inside ++ 41 ∷ [])) is
text-grouped false bytes part is = is

writable-grouped : (within : Bool) (part : RawAccTree) → IsWritable part → IsWritable (acc_grouped within part)
writable-grouped true part is = is
writable-grouped false part is = is

-- the canonical text is the text as it is written
text-written : (tree : AccTree) → (acc_text tree).bytes ≡ raw_text (acc_written tree)
text-written (constant value) = refl
text-written (inf negated set) = refl
text-written (fin negated set) = refl
text-written (conjunction left right) =
    ap (λ front. front ++ 38 ∷ bracketed (nat_le (acc_text right).rank 2) (acc_text right).bytes) (text-grouped (nat_lt (acc_text left).rank 2) _ _ (text-written left))
    ∙ ap (λ back. raw_text (acc_grouped (nat_lt (acc_text left).rank 2) (acc_written left)) ++ 38 ∷ back) (text-grouped (nat_le (acc_text right).rank 2) _ _ (text-written right))
text-written (disjunction left right) =
    ap (λ front. front ++ 124 ∷ bracketed (nat_le (acc_text right).rank 1) (acc_text right).bytes) (text-grouped (nat_lt (acc_text left).rank 1) _ _ (text-written left))
    ∙ ap (λ back. raw_text (acc_grouped (nat_lt (acc_text left).rank 1) (acc_written left)) ++ 124 ∷ back) (text-grouped (nat_le (acc_text right).rank 1) _ _ (text-written right))

writable-written : (tree : AccTree) → SetsFit tree → IsWritable (acc_written tree)
writable-written (constant value) fit = tt
writable-written (inf negated set) fit = (is-inf, fit)
writable-written (fin negated set) fit = (is-fin, fit)
writable-written (conjunction left right) fit =
    (writable-grouped (nat_lt (acc_text left).rank 2) _ (writable-written left fit.0), writable-grouped (nat_le (acc_text right).rank 2) _ (writable-written right fit.1))
writable-written (disjunction left right) fit =
    (writable-grouped (nat_lt (acc_text left).rank 1) _ (writable-written left fit.0), writable-grouped (nat_le (acc_text right).rank 1) _ (writable-written right fit.1))

-- a set in parentheses stands apart from its name
apart-set : (negated : Bool) (set : ℕ) (rest : List ℕ) → StandsApart (set_text negated set ++ rest)
apart-set true set rest = record { ends = refl; closes = λ is. omega (arith, is) }
apart-set false set rest = record { ends = refl; closes = λ is. omega (arith, is) }

-- the tokens of a set after its `(` or `!`
there-closed : Tokens → (set : ℕ) (source following : List ℕ) (from : ℕ) → set ≤ most_number
    → drop from source ≡ (decimal set ++ 41 ∷ []) ++ following → AreThere source from (from + length (decimal set ++ 41 ∷ [])) (number set ∷ sign kind.CloseParenthesis ∷ [])
there-closed laws set source following from fit stands =
    there-then laws source (decimal set) (41 ∷ []) following from (number set ∷ []) (sign kind.CloseParenthesis ∷ []) stands
    (λ here. there-number laws set source _ from fit (apart-sign 41 following apart-close) here)
    (λ place here. there-token source _ (41 ∷ []) place 0 kind.CloseParenthesis here (refl, refl) (laws.closed kind.CloseParenthesis (41 ∷ []) _ refl refl))

-- the tokens of a set in parentheses
there-set : Tokens → (negated : Bool) (set : ℕ) (source following : List ℕ) (from : ℕ) → set ≤ most_number
    → drop from source ≡ set_text negated set ++ following
    → AreThere source from (from + length (set_text negated set)) (sign kind.OpenParenthesis ∷ (mark_symbols negated set ++ sign kind.CloseParenthesis ∷ []))
there-set laws true set source following from fit stands =
    there-then laws source (40 ∷ []) (33 ∷ (decimal set ++ 41 ∷ [])) following from (sign kind.OpenParenthesis ∷ []) (sign kind.Not ∷ number set ∷ sign kind.CloseParenthesis ∷ []) stands
    (λ here. there-token source _ (40 ∷ []) from 0 kind.OpenParenthesis here (refl, refl) (laws.closed kind.OpenParenthesis (40 ∷ []) _ refl refl))
    (λ place here. there-then laws source (33 ∷ []) (decimal set ++ 41 ∷ []) following place (sign kind.Not ∷ []) (number set ∷ sign kind.CloseParenthesis ∷ []) here
    (λ there. there-token source _ (33 ∷ []) place 0 kind.Not there (refl, refl) (laws.closed kind.Not (33 ∷ []) _ refl refl))
    (λ next there. there-closed laws set source following next fit there))
there-set laws false set source following from fit stands =
    there-then laws source (40 ∷ []) (decimal set ++ 41 ∷ []) following from (sign kind.OpenParenthesis ∷ []) (number set ∷ sign kind.CloseParenthesis ∷ []) stands
    (λ here. there-token source _ (40 ∷ []) from 0 kind.OpenParenthesis here (refl, refl) (laws.closed kind.OpenParenthesis (40 ∷ []) _ refl refl))
    (λ place here. there-closed laws set source following place fit here)

-- the tokens of a formula as it is written
there-raw : Tokens → (part : RawAccTree) (source following : List ℕ) (from : ℕ) → IsWritable part → StandsApart following
    → drop from source ≡ raw_text part ++ following → AreThere source from (from + length (raw_text part)) (formula_symbols part)
there-raw laws (raw.constant value) source following from fit apart stands = there-truth laws value source following from apart stands
there-raw laws (raw.atom name negated set) source following from fit apart stands =
    there-then laws source name (set_text negated set) following from (word name ∷ []) (sign kind.OpenParenthesis ∷ (mark_symbols negated set ++ sign kind.CloseParenthesis ∷ [])) stands
    (λ here. there-token source _ name from 0 kind.Identifier here (refl, fit.0)
    (laws.words name _ fit.0.0 (apart-set negated set following).ends (apart-set negated set following).closes))
    (λ place here. there-set laws negated set source following place fit.1 here)
there-raw laws (raw.conjunction left right) source following from fit apart stands =
    there-then laws source (raw_text left) (38 ∷ raw_text right) following from (formula_symbols left) (sign kind.And ∷ formula_symbols right) stands
    (λ here. there-raw laws left source _ from fit.0 (apart-sign 38 (raw_text right ++ following) apart-and) here)
    (λ place here. there-then laws source (38 ∷ []) (raw_text right) following place (sign kind.And ∷ []) (formula_symbols right) here
    (λ there. there-token source _ (38 ∷ []) place 0 kind.And there (refl, refl) (laws.closed kind.And (38 ∷ []) _ refl refl))
    (λ next there. there-raw laws right source following next fit.1 apart there))
there-raw laws (raw.disjunction left right) source following from fit apart stands =
    there-then laws source (raw_text left) (124 ∷ raw_text right) following from (formula_symbols left) (sign kind.Or ∷ formula_symbols right) stands
    (λ here. there-raw laws left source _ from fit.0 (apart-sign 124 (raw_text right ++ following) apart-or) here)
    (λ place here. there-then laws source (124 ∷ []) (raw_text right) following place (sign kind.Or ∷ []) (formula_symbols right) here
    (λ there. there-token source _ (124 ∷ []) place 0 kind.Or there (refl, refl) (laws.closed kind.Or (124 ∷ []) _ refl refl))
    (λ next there. there-raw laws right source following next fit.1 apart there))
there-raw laws (raw.group part) source following from fit apart stands =
    there-then laws source (40 ∷ []) (raw_text part ++ 41 ∷ []) following from (sign kind.OpenParenthesis ∷ []) (formula_symbols part ++ sign kind.CloseParenthesis ∷ []) stands
    (λ here. there-token source _ (40 ∷ []) from 0 kind.OpenParenthesis here (refl, refl) (laws.closed kind.OpenParenthesis (40 ∷ []) _ refl refl))
    (λ place here. there-then laws source (raw_text part) (41 ∷ []) following place (formula_symbols part) (sign kind.CloseParenthesis ∷ []) here
    (λ there. there-raw laws part source _ place fit (apart-sign 41 following apart-close) there)
    (λ next there. there-token source _ (41 ∷ []) next 0 kind.CloseParenthesis there (refl, refl) (laws.closed kind.CloseParenthesis (41 ∷ []) _ refl refl)))

-- the tokens of the canonical text
pub there-formula : Tokens → (tree : AccTree) (source following : List ℕ) (from : ℕ) → SetsFit tree → StandsApart following
    → drop from source ≡ (acc_text tree).bytes ++ following → AreThere source from (from + length (acc_text tree).bytes) (formula_symbols (acc_written tree))
there-formula laws tree source following from fit apart stands =
    let same = text-written tree in
    subst (λ bytes. AreThere source from (from + length bytes) (formula_symbols (acc_written tree))) (sym same)
    (there-raw laws (acc_written tree) source following from (writable-written tree fit) apart (stands ∙ ap (λ bytes. bytes ++ following) same))

-- ---- the cases of the grammar

-- the left part of `&`
left-grouped : (part : AccTree) → IsAccOf disjunctive (acc_written part) → IsAccOf conjunctive (acc_grouped (nat_lt (acc_text part).rank 2) (acc_written part))
left-grouped (constant value) is = tt
left-grouped (inf negated set) is = tt
left-grouped (fin negated set) is = tt
left-grouped (conjunction left right) is = is
left-grouped (disjunction left right) is = is

-- the right part of `&`
right-grouped : (part : AccTree) → IsAccOf disjunctive (acc_written part) → IsAccOf unary (acc_grouped (nat_le (acc_text part).rank 2) (acc_written part))
right-grouped (constant value) is = tt
right-grouped (inf negated set) is = tt
right-grouped (fin negated set) is = tt
right-grouped (conjunction left right) is = is
right-grouped (disjunction left right) is = is

-- the left part of `|`
first-grouped : (part : AccTree) → IsAccOf disjunctive (acc_written part) → IsAccOf disjunctive (acc_grouped (nat_lt (acc_text part).rank 1) (acc_written part))
first-grouped (constant value) is = tt
first-grouped (inf negated set) is = tt
first-grouped (fin negated set) is = tt
first-grouped (conjunction left right) is = is
first-grouped (disjunction left right) is = is

-- the right part of `|`
second-grouped : (part : AccTree) → IsAccOf disjunctive (acc_written part) → IsAccOf conjunctive (acc_grouped (nat_le (acc_text part).rank 1) (acc_written part))
second-grouped (constant value) is = tt
second-grouped (inf negated set) is = tt
second-grouped (fin negated set) is = tt
second-grouped (conjunction left right) is = is
second-grouped (disjunction left right) is = is

written-is : (tree : AccTree) → IsAccOf disjunctive (acc_written tree)
written-is (constant value) = tt
written-is (inf negated set) = tt
written-is (fin negated set) = tt
written-is (conjunction left right) = (tt, (left-grouped left (written-is left), right-grouped right (written-is right)))
written-is (disjunction left right) = (tt, (first-grouped left (written-is left), second-grouped right (written-is right)))

means-grouped : (within : Bool) (part : RawAccTree) → acc_meant (acc_grouped within part) ≡ acc_meant part
means-grouped true part = refl
means-grouped false part = refl

written-means : (tree : AccTree) → acc_meant (acc_written tree) ≡ Some tree
written-means (constant value) = refl
written-means (inf negated set) = refl
written-means (fin negated set) = refl
written-means (conjunction left right) =
    ap (λ one. both_meant acc.conjunction one (acc_meant (acc_grouped (nat_le (acc_text right).rank 2) (acc_written right)))) (means-grouped (nat_lt (acc_text left).rank 2) (acc_written left) ∙ written-means left)
    ∙ ap (both_meant acc.conjunction (Some left)) (means-grouped (nat_le (acc_text right).rank 2) (acc_written right) ∙ written-means right)
written-means (disjunction left right) =
    ap (λ one. both_meant acc.disjunction one (acc_meant (acc_grouped (nat_le (acc_text right).rank 1) (acc_written right)))) (means-grouped (nat_lt (acc_text left).rank 1) (acc_written left) ∙ written-means left)
    ∙ ap (both_meant acc.disjunction (Some left)) (means-grouped (nat_le (acc_text right).rank 1) (acc_written right) ∙ written-means right)

-- a formula as it is written means itself
pub acc-means-itself : (tree : AccTree) → AccMeansItself tree
acc-means-itself tree = record { is = written-is tree; means = written-means tree }
