-- A label as it is written is no deeper than any expression that means it.
use Rattle.std.proofs.Common.{◌≡◌, ℕ, ◌+◌, ◌≤◌, Bool, true, false, cond, List, [], ◌∷◌, ◌++◌, Option, Some, None, option_map, max, nat_le, nat_lt, ap, refl, subst, ◌∙◌, arith}
use Rattle.std.specs.Str.{bytes_eq}
use Rattle.omega_hoa_label_text.specs.Expanding.{Defined, Entry, Meaning, both, entries_of, expansion, in_parentheses, negated, replaced, stands_for}
use Rattle.omega_hoa_label.specs.Label.{LabelTree, conjunction, constant, disjunction, negation, proposition}
use Rattle.omega_hoa_label.specs.Label as label
use Rattle.omega_hoa_label.specs.Raw.{RawLabelTree, raw_depth}
use Rattle.omega_hoa_label.specs.Raw as raw
use Rattle.omega_hoa_label_text.specs.Reading.{IsOf}
use Rattle.omega_hoa_expression.specs.Symbols.{Rank, TakesAnd, TakesOr, conjunctive, disjunctive, unary}
use Rattle.omega_hoa_label.specs.Writing.{label_text}
use Rattle.omega_hoa_label.specs.Writing.{grouped, label_written}
use Rattle.omega_acc.specs.WritingLaws.{AreExpressions}

-- how deep a label is written where a case of the grammar is wanted
abbrev depth_at : Rank → LabelTree → ℕ
depth_at unary tree = raw_depth (grouped (nat_lt (label_text tree).rank 3) (label_written tree))
depth_at conjunctive tree = raw_depth (grouped (nat_lt (label_text tree).rank 2) (label_written tree))
depth_at disjunctive tree = raw_depth (label_written tree)

grouped-more : (within : Bool) (part : RawLabelTree) → raw_depth (grouped within part) ≤ raw_depth part + 1
grouped-more true part = omega arith
grouped-more false part = omega arith

-- parentheses are enough
at-more : (rank : Rank) (tree : LabelTree) → depth_at rank tree ≤ raw_depth (label_written tree) + 1
at-more unary tree = grouped-more (nat_lt (label_text tree).rank 3) (label_written tree)
at-more conjunctive tree = grouped-more (nat_lt (label_text tree).rank 2) (label_written tree)
at-more disjunctive tree = omega arith

at-constant : (rank : Rank) (value : Bool) → depth_at rank (constant value) ≤ 1
at-constant unary value = omega arith
at-constant conjunctive value = omega arith
at-constant disjunctive value = omega arith

at-proposition : (rank : Rank) (value : ℕ) → depth_at rank (proposition value) ≤ 1
at-proposition unary value = omega arith
at-proposition conjunctive value = omega arith
at-proposition disjunctive value = omega arith

at-negation : (rank : Rank) (part : LabelTree) → depth_at rank (negation part) ≡ depth_at unary part + 1
at-negation unary part = refl
at-negation conjunctive part = refl
at-negation disjunctive part = refl

-- the right part of `&`
right-same : (tree : LabelTree) → raw_depth (grouped (nat_le (label_text tree).rank 2) (label_written tree)) ≡ depth_at unary tree
right-same (constant value) = refl
right-same (proposition value) = refl
right-same (negation part) = refl
right-same (conjunction left right) = refl
right-same (disjunction left right) = refl

-- the left part of `|`
first-same : (tree : LabelTree) → raw_depth (grouped (nat_lt (label_text tree).rank 1) (label_written tree)) ≡ depth_at disjunctive tree
first-same (constant value) = refl
first-same (proposition value) = refl
first-same (negation part) = refl
first-same (conjunction left right) = refl
first-same (disjunction left right) = refl

-- the right part of `|`
second-same : (tree : LabelTree) → raw_depth (grouped (nat_le (label_text tree).rank 1) (label_written tree)) ≡ depth_at conjunctive tree
second-same (constant value) = refl
second-same (proposition value) = refl
second-same (negation part) = refl
second-same (conjunction left right) = refl
second-same (disjunction left right) = refl

at-conjunction : (rank : Rank) (left right : LabelTree) → TakesAnd rank → depth_at rank (conjunction left right) ≡ max (depth_at conjunctive left) (depth_at unary right) + 1
at-conjunction unary left right takes = absurd takes
at-conjunction conjunctive left right takes = ap (λ deep. max (depth_at conjunctive left) deep + 1) (right-same right)
at-conjunction disjunctive left right takes = ap (λ deep. max (depth_at conjunctive left) deep + 1) (right-same right)

at-disjunction : (rank : Rank) (left right : LabelTree) → TakesOr rank → depth_at rank (disjunction left right) ≡ max (depth_at disjunctive left) (depth_at conjunctive right) + 1
at-disjunction unary left right takes = absurd takes
at-disjunction conjunctive left right takes = absurd takes
at-disjunction disjunctive left right takes =
    ap (λ deep. max deep (raw_depth (grouped (nat_le (label_text right).rank 1) (label_written right))) + 1) (first-same left)
    ∙ ap (λ deep. max (depth_at disjunctive left) deep + 1) (second-same right)

-- what is meant is written no deeper, where a case is wanted
abbrev NoDeeper : Rank → Option Meaning → Type 0
NoDeeper rank None = Unit {0}
NoDeeper rank (Some meaning) = depth_at rank meaning.tree ≤ meaning.depth

no-deeper-parentheses : (rank : Rank) (part : Option Meaning) → NoDeeper disjunctive part → NoDeeper rank (option_map in_parentheses part)
no-deeper-parentheses rank None is = tt
no-deeper-parentheses rank (Some meaning) is = omega (arith, at-more rank meaning.tree, is)

no-deeper-negated : (rank : Rank) (part : Option Meaning) → NoDeeper unary part → NoDeeper rank (option_map negated part)
no-deeper-negated rank None is = tt
no-deeper-negated rank (Some meaning) is = omega (arith, at-negation rank meaning.tree, is)

no-deeper-conjunction : (rank : Rank) (left right : Option Meaning) → TakesAnd rank → NoDeeper conjunctive left → NoDeeper unary right → NoDeeper rank (both label.conjunction left right)
no-deeper-conjunction rank None right takes one other = tt
no-deeper-conjunction rank (Some left) None takes one other = tt
no-deeper-conjunction rank (Some left) (Some right) takes one other = omega (arith, at-conjunction rank left.tree right.tree takes, one, other)

no-deeper-disjunction : (rank : Rank) (left right : Option Meaning) → TakesOr rank → NoDeeper disjunctive left → NoDeeper conjunctive right → NoDeeper rank (both label.disjunction left right)
no-deeper-disjunction rank None right takes one other = tt
no-deeper-disjunction rank (Some left) None takes one other = tt
no-deeper-disjunction rank (Some left) (Some right) takes one other = omega (arith, at-disjunction rank left.tree right.tree takes, one, other)

-- each name means what is written no deeper
abbrev AllNoDeeper : List Entry → Type 0
AllNoDeeper [] = Unit {0}
AllNoDeeper (entry ∷ entries) = NoDeeper disjunctive entry.meaning × AllNoDeeper entries

no-deeper-cond : (test : Bool) (here there : Option Meaning) → NoDeeper disjunctive here → NoDeeper disjunctive there → NoDeeper disjunctive (cond test here there)
no-deeper-cond true here there one other = one
no-deeper-cond false here there one other = other

no-deeper-named : (entries : List Entry) (name : List ℕ) → AllNoDeeper entries → NoDeeper disjunctive (stands_for entries name)
no-deeper-named [] name all = tt
no-deeper-named (entry ∷ entries) name all =
    no-deeper-cond (bytes_eq name entry.name) entry.meaning (stands_for entries name) all.0 (no-deeper-named entries name all.1)

no-deeper-replaced : (entries : List Entry) → AllNoDeeper entries → (rank : Rank) (tree : RawLabelTree) → IsOf rank tree → NoDeeper rank (replaced entries tree)
no-deeper-replaced entries all rank (raw.constant value) is = at-constant rank value
no-deeper-replaced entries all rank (raw.proposition value) is = at-proposition rank value
no-deeper-replaced entries all rank (raw.alias name) is = no-deeper-parentheses rank (stands_for entries name) (no-deeper-named entries name all)
no-deeper-replaced entries all rank (raw.negation part) is = no-deeper-negated rank (replaced entries part) (no-deeper-replaced entries all unary part is)
no-deeper-replaced entries all rank (raw.group part) is = no-deeper-parentheses rank (replaced entries part) (no-deeper-replaced entries all disjunctive part is)
no-deeper-replaced entries all rank (raw.conjunction left right) is =
    no-deeper-conjunction rank (replaced entries left) (replaced entries right) is.0 (no-deeper-replaced entries all conjunctive left is.1.0) (no-deeper-replaced entries all unary right is.1.1)
no-deeper-replaced entries all rank (raw.disjunction left right) is =
    no-deeper-disjunction rank (replaced entries left) (replaced entries right) is.0 (no-deeper-replaced entries all disjunctive left is.1.0) (no-deeper-replaced entries all conjunctive right is.1.1)

no-deeper-push : (entries : List Entry) (last : Entry) → AllNoDeeper entries → NoDeeper disjunctive last.meaning → AllNoDeeper (entries ++ last ∷ [])
no-deeper-push [] last all is = (is, tt)
no-deeper-push (next ∷ entries) last all is = (all.0, no-deeper-push entries last all.1 is)

no-deeper-entries : (before : List Entry) (definitions : List Defined) → AllNoDeeper before → AreExpressions definitions → AllNoDeeper (entries_of before definitions)
no-deeper-entries before [] all are = tt
no-deeper-entries before (next ∷ rest) all are =
    let is = no-deeper-replaced before all disjunctive next.body are.0 in
    let entry : Entry = record { name = next.name; meaning = replaced before next.body } in
    (is, no-deeper-entries (before ++ entry ∷ []) rest (no-deeper-push before entry all is) are.1)

-- the label that an expression means is written no deeper
pub no-deeper-written : (definitions : List Defined) (tree : RawLabelTree) (meaning : Meaning)
    → AreExpressions definitions → IsOf disjunctive tree → expansion definitions tree ≡ Some meaning → raw_depth (label_written meaning.tree) ≤ meaning.depth
no-deeper-written definitions tree meaning are is means =
    subst (NoDeeper disjunctive) means (no-deeper-replaced (entries_of [] definitions) (no-deeper-entries [] definitions tt are) disjunctive tree is)
