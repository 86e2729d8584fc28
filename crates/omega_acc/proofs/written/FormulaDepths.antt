-- An acceptance formula as it is written is no deeper than any expression that means it.
use Rattle.std.proofs.Common.{◌≡◌, ℕ, ◌+◌, ◌≤◌, Bool, true, false, cond, Option, Some, None, codes, max, nat_le, nat_lt, ap, refl, subst, ◌∙◌, arith}
use Rattle.std.specs.Str.{bytes_eq}
use Rattle.omega_hoa_acceptance.specs.Meaning.{acc_meant, both_meant}
use Rattle.omega_hoa_acceptance.specs.Reading.{IsAccOf}
use Rattle.omega_hoa_acceptance.specs.Acceptance.{AccTree, conjunction, constant, disjunction, fin, inf}
use Rattle.omega_hoa_acceptance.specs.Acceptance as acc
use Rattle.omega_hoa_acceptance.specs.Raw.{RawAccTree, raw_acc_depth}
use Rattle.omega_hoa_acceptance.specs.Raw as raw
use Rattle.omega_hoa_expression.specs.Symbols.{Rank, TakesAnd, TakesOr, conjunctive, disjunctive, unary}
use Rattle.omega_hoa_acceptance.specs.Writing.{acc_text}
use Rattle.omega_hoa_acceptance.specs.Writing.{acc_grouped, acc_written}

-- how deep a formula is written where a case of the grammar is wanted
abbrev depth_at : Rank → AccTree → ℕ
depth_at unary tree = raw_acc_depth (acc_grouped (nat_lt (acc_text tree).rank 3) (acc_written tree))
depth_at conjunctive tree = raw_acc_depth (acc_grouped (nat_lt (acc_text tree).rank 2) (acc_written tree))
depth_at disjunctive tree = raw_acc_depth (acc_written tree)

grouped-more : (within : Bool) (part : RawAccTree) → raw_acc_depth (acc_grouped within part) ≤ raw_acc_depth part + 1
grouped-more true part = omega arith
grouped-more false part = omega arith

-- parentheses are enough
at-more : (rank : Rank) (tree : AccTree) → depth_at rank tree ≤ raw_acc_depth (acc_written tree) + 1
at-more unary tree = grouped-more (nat_lt (acc_text tree).rank 3) (acc_written tree)
at-more conjunctive tree = grouped-more (nat_lt (acc_text tree).rank 2) (acc_written tree)
at-more disjunctive tree = omega arith

at-constant : (rank : Rank) (value : Bool) → depth_at rank (constant value) ≤ 1
at-constant unary value = omega arith
at-constant conjunctive value = omega arith
at-constant disjunctive value = omega arith

-- the right part of `&`
right-same : (tree : AccTree) → raw_acc_depth (acc_grouped (nat_le (acc_text tree).rank 2) (acc_written tree)) ≡ depth_at unary tree
right-same (constant value) = refl
right-same (inf negated set) = refl
right-same (fin negated set) = refl
right-same (conjunction left right) = refl
right-same (disjunction left right) = refl

-- the left part of `|`
first-same : (tree : AccTree) → raw_acc_depth (acc_grouped (nat_lt (acc_text tree).rank 1) (acc_written tree)) ≡ depth_at disjunctive tree
first-same (constant value) = refl
first-same (inf negated set) = refl
first-same (fin negated set) = refl
first-same (conjunction left right) = refl
first-same (disjunction left right) = refl

-- the right part of `|`
second-same : (tree : AccTree) → raw_acc_depth (acc_grouped (nat_le (acc_text tree).rank 1) (acc_written tree)) ≡ depth_at conjunctive tree
second-same (constant value) = refl
second-same (inf negated set) = refl
second-same (fin negated set) = refl
second-same (conjunction left right) = refl
second-same (disjunction left right) = refl

at-conjunction : (rank : Rank) (left right : AccTree) → TakesAnd rank → depth_at rank (conjunction left right) ≡ max (depth_at conjunctive left) (depth_at unary right) + 1
at-conjunction unary left right takes = absurd takes
at-conjunction conjunctive left right takes = ap (λ deep. max (depth_at conjunctive left) deep + 1) (right-same right)
at-conjunction disjunctive left right takes = ap (λ deep. max (depth_at conjunctive left) deep + 1) (right-same right)

at-disjunction : (rank : Rank) (left right : AccTree) → TakesOr rank → depth_at rank (disjunction left right) ≡ max (depth_at disjunctive left) (depth_at conjunctive right) + 1
at-disjunction unary left right takes = absurd takes
at-disjunction conjunctive left right takes = absurd takes
at-disjunction disjunctive left right takes =
    ap (λ deep. max deep (raw_acc_depth (acc_grouped (nat_le (acc_text right).rank 1) (acc_written right))) + 1) (first-same left)
    ∙ ap (λ deep. max (depth_at disjunctive left) deep + 1) (second-same right)

-- what is meant is written no deeper than this, where a case is wanted
abbrev NoDeeper : Rank → Option AccTree → ℕ → Type 0
NoDeeper rank None deep = Unit {0}
NoDeeper rank (Some tree) deep = depth_at rank tree ≤ deep

at-inf : (rank : Rank) (negated : Bool) (set : ℕ) → depth_at rank (inf negated set) ≤ 1
at-inf unary negated set = omega arith
at-inf conjunctive negated set = omega arith
at-inf disjunctive negated set = omega arith

at-fin : (rank : Rank) (negated : Bool) (set : ℕ) → depth_at rank (fin negated set) ≤ 1
at-fin unary negated set = omega arith
at-fin conjunctive negated set = omega arith
at-fin disjunctive negated set = omega arith

no-deeper-cond : (rank : Rank) (test : Bool) (here there : Option AccTree) (deep : ℕ) → NoDeeper rank here deep → NoDeeper rank there deep → NoDeeper rank (cond test here there) deep
no-deeper-cond rank true here there deep one other = one
no-deeper-cond rank false here there deep one other = other

no-deeper-group : (rank : Rank) (part : Option AccTree) (deep : ℕ) → NoDeeper disjunctive part deep → NoDeeper rank part (deep + 1)
no-deeper-group rank None deep is = tt
no-deeper-group rank (Some tree) deep is = omega (arith, at-more rank tree, is)

no-deeper-conjunction : (rank : Rank) (left right : Option AccTree) (one other : ℕ) → TakesAnd rank → NoDeeper conjunctive left one → NoDeeper unary right other
    → NoDeeper rank (both_meant acc.conjunction left right) (max one other + 1)
no-deeper-conjunction rank None right one other takes is_left is_right = tt
no-deeper-conjunction rank (Some left) None one other takes is_left is_right = tt
no-deeper-conjunction rank (Some left) (Some right) one other takes is_left is_right = omega (arith, at-conjunction rank left right takes, is_left, is_right)

no-deeper-disjunction : (rank : Rank) (left right : Option AccTree) (one other : ℕ) → TakesOr rank → NoDeeper disjunctive left one → NoDeeper conjunctive right other
    → NoDeeper rank (both_meant acc.disjunction left right) (max one other + 1)
no-deeper-disjunction rank None right one other takes is_left is_right = tt
no-deeper-disjunction rank (Some left) None one other takes is_left is_right = tt
no-deeper-disjunction rank (Some left) (Some right) one other takes is_left is_right = omega (arith, at-disjunction rank left right takes, is_left, is_right)

no-deeper-meant : (rank : Rank) (tree : RawAccTree) → IsAccOf rank tree → NoDeeper rank (acc_meant tree) (raw_acc_depth tree)
no-deeper-meant rank (raw.constant value) is = at-constant rank value
no-deeper-meant rank (raw.atom name negated set) is =
    no-deeper-cond rank (bytes_eq name (codes "Inf")) _ _ 1 (at-inf rank negated set)
    (no-deeper-cond rank (bytes_eq name (codes "Fin")) _ _ 1 (at-fin rank negated set) tt)
no-deeper-meant rank (raw.group part) is = no-deeper-group rank (acc_meant part) (raw_acc_depth part) (no-deeper-meant disjunctive part is)
no-deeper-meant rank (raw.conjunction left right) is =
    no-deeper-conjunction rank (acc_meant left) (acc_meant right) _ _ is.0 (no-deeper-meant conjunctive left is.1.0) (no-deeper-meant unary right is.1.1)
no-deeper-meant rank (raw.disjunction left right) is =
    no-deeper-disjunction rank (acc_meant left) (acc_meant right) _ _ is.0 (no-deeper-meant disjunctive left is.1.0) (no-deeper-meant conjunctive right is.1.1)

-- the formula that an expression means is written no deeper
pub no-deeper-acc-written : (formula : RawAccTree) (tree : AccTree) → IsAccOf disjunctive formula → acc_meant formula ≡ Some tree → raw_acc_depth (acc_written tree) ≤ raw_acc_depth formula
no-deeper-acc-written formula tree is means = subst (λ meant. NoDeeper disjunctive meant (raw_acc_depth formula)) means (no-deeper-meant disjunctive formula is)
