-- The word of a label under the valuations of the first six propositions is its truth table, and tables show what can
-- be true.
use Rattle.std.proofs.Common.{◌≡◌, ℕ, ◌+◌, ◌/◌, ◌%◌, ◌^◌, ◌<◌, zero, suc, Bool, true, false, ◌&&◌, eqb, ltb, List, [], ◌∷◌, ap, bit_and, refl, sym, ◌∙◌, arith, inl, inr}
use Rattle.std.specs.Int.{bit_at}
use Rattle.std.specs.List.{list_all}
use Rattle.std.proofs.lemmas.Bool.{eqb-true, false≢true, ltb-true, or_cases}
use Rattle.omega_hoa_label.specs.Label.{LabelTree, conjunction, propositions, truth}
use Rattle.omega_hoa_label.specs.declared.label.LabelNode.{LabelNode}
use Rattle.omega_hoa_label.specs.declared.label.LabelNode.TheVariants.{Alias, And, Constant, Group, Not, Or, Proposition}
use Rattle.omega_hoa_satisfiable.specs.Satisfiable.{IsSatisfiable}
use Rattle.omega_hoa_satisfiable.specs.Tables.{IsTruthTable, MentionsFew, valuation}
use Rattle.omega_hoa_satisfiable.specs.declared.tables.TruthTable.{TruthTable}
use Rattle.omega_hoa_satisfiable.specs.private.Words.{is_few, propositions_of, word_among, word_of}
use Rattle.omega_hoa_satisfiable.proofs.Valuations.{among, mask-bit, number_of, number_of-lt, truth-agree, word_among-bit}
use Rattle.omega_hoa_satisfiable.proofs.WordLemmas.{held_in, lane-off, lane-on, on, on-and, on-word_of}

pub both-true : (a b : Bool) → (a && b) ≡ true → (a ≡ true) × (b ≡ true)
both-true true b is = (refl, is)
both-true false b is = absurd (false≢true is)

pub true-both : (a b : Bool) → a ≡ true → b ≡ true → (a && b) ≡ true
true-both true b is is-b = is-b
true-both false b is is-b = absurd (false≢true is)

-- the first six propositions
abbrev pub six : List ℕ
six = 0 ∷ 1 ∷ 2 ∷ 3 ∷ 4 ∷ 5 ∷ []

-- what all numbers of a list are, one of them is
pub all-among : (test : ℕ → Bool) (number : ℕ) (numbers : List ℕ) → list_all test numbers ≡ true → among number numbers ≡ true → test number ≡ true
all-among test number [] all is = absurd (false≢true is)
all-among test number (next ∷ rest) all is = elim (or_cases (eqb next number) (among number rest) is) [
  | inl here ↦ ap test (sym (eqb-true next number here)) ∙ (both-true (test next) (list_all test rest) all).0
  | inr there ↦ all-among test number rest (both-true (test next) (list_all test rest) all).1 there
]

-- nodes mention no other, if each of them does not
pub few-nodes : (nodes : List LabelNode) → list_all is_few nodes ≡ list_all (λ number. ltb number 6) (propositions_of nodes)
few-nodes [] = refl
few-nodes (Constant value ∷ nodes) = few-nodes nodes
few-nodes (Proposition number ∷ nodes) = ap (λ rest. ltb number 6 && rest) (few-nodes nodes)
few-nodes (Not ∷ nodes) = few-nodes nodes
few-nodes (And ∷ nodes) = few-nodes nodes
few-nodes (Or ∷ nodes) = few-nodes nodes
few-nodes (Alias count ∷ nodes) = few-nodes nodes
few-nodes (Group ∷ nodes) = few-nodes nodes

-- each proposition of such a label is below six
few-below : (tree : LabelTree) → MentionsFew tree → (number : ℕ) → among number (propositions tree) ≡ true → number < 6
few-below tree few number is = ltb-true number 6 (all-among (λ other. ltb other 6) number (propositions tree) few is)

-- a proposition of the first six is among them
six-has : (number : ℕ) → number < 6 → among number six ≡ true
six-has zero low = refl
six-has (suc zero) low = refl
six-has (suc (suc zero)) low = refl
six-has (suc (suc (suc zero))) low = refl
six-has (suc (suc (suc (suc zero)))) low = refl
six-has (suc (suc (suc (suc (suc zero))))) low = refl
six-has (suc (suc (suc (suc (suc (suc more)))))) low = absurd (omega arith)

-- its word has in each lane its bit of the lane
six-bit : (number lane : ℕ) → number < 6 → lane < 64 → on (word_among 0 0 six number) lane ≡ valuation lane number
six-bit zero lane low within = mask-bit 0 lane (omega arith) within
six-bit (suc zero) lane low within = mask-bit 1 lane (omega arith) within
six-bit (suc (suc zero)) lane low within = mask-bit 2 lane (omega arith) within
six-bit (suc (suc (suc zero))) lane low within = mask-bit 3 lane (omega arith) within
six-bit (suc (suc (suc (suc zero)))) lane low within = mask-bit 4 lane (omega arith) within
six-bit (suc (suc (suc (suc (suc zero))))) lane low within = mask-bit 5 lane (omega arith) within
six-bit (suc (suc (suc (suc (suc (suc more)))))) lane low within = absurd (omega arith)

-- the word of a label that mentions no other is its truth table
pub six-table : (tree : LabelTree) (table : TruthTable) → MentionsFew tree → table.bits ≡ word_of (word_among 0 0 six) tree → IsTruthTable tree table
six-table tree table few is = record {
  few = few;
  agrees = λ number within.
      ap (λ word. on word number) is
      ∙ (on-word_of (word_among 0 0 six) tree number within
      ∙ truth-agree (held_in (word_among 0 0 six) number) (valuation number) tree
      (λ p mentioned. six-bit p number (few-below tree few p mentioned) within));
}

-- each set of propositions is, as far as a label with a table mentions them, a valuation of the table
pub six-valuation : (held : ℕ → Bool) (tree : LabelTree) → MentionsFew tree → truth (valuation (number_of held six)) tree ≡ truth held tree
six-valuation held tree few =
    let number = number_of held six in
    let within : number < 64 = number_of-lt held six in
    let block : number / 64 ≡ 0 = omega (arith, within) in
    let lane : number % 64 ≡ number = omega (arith, within) in
    truth-agree (valuation number) held tree
    (λ p mentioned.
    let low = few-below tree few p mentioned in
    sym (six-bit p number low within)
    ∙ (ap (λ b. on (word_among b 0 six p) number) (sym block)
    ∙ (ap (on (word_among (number / 64) 0 six p)) (sym lane)
    ∙ word_among-bit held number 0 six p (λ more. let moved : 0 + more ≡ more = omega arith in ap (bit_at number) moved) (six-has p low))))

-- a bit that is set in both tables shows that two labels can be true together
pub shared-meets : (one other : LabelTree) (table another : TruthTable) (word : ℕ) → IsTruthTable one table → IsTruthTable other another
    → word ≡ bit_and table.bits another.bits → word < 2 ^ 64 → (word ≡ 0 → ⊥) → IsSatisfiable (conjunction one other)
shared-meets one other table another word is is-other made within some =
    let lane = lane-on word some within in
    let shared = both-true (on table.bits lane.0) (on another.bits lane.0) (sym (on-and table.bits another.bits lane.0) ∙ (ap (λ w. on w lane.0) (sym made) ∙ lane.1.1)) in
    (valuation lane.0, true-both _ _ (sym (is.agrees lane.0 lane.1.0) ∙ shared.0) (sym (is-other.agrees lane.0 lane.1.0) ∙ shared.1))

-- if no bit is set in both, they can't
pub none-meets : (one other : LabelTree) (table another : TruthTable) (word : ℕ) → IsTruthTable one table → IsTruthTable other another
    → word ≡ bit_and table.bits another.bits → word ≡ 0 → IsSatisfiable (conjunction one other) → ⊥
none-meets one other table another word is is-other made none satisfied =
    let held = satisfied.0 in
    let number = number_of held six in
    let low : number < 64 = number_of-lt held six in
    let both = both-true (truth held one) (truth held other) satisfied.1 in
    false≢true (sym (lane-off number)
    ∙ (ap (λ w. on w number) (sym none)
    ∙ (ap (λ w. on w number) made
    ∙ (on-and table.bits another.bits number
    ∙ true-both _ _ (is.agrees number low ∙ (six-valuation held one is.few ∙ both.0)) (is-other.agrees number low ∙ (six-valuation held other is-other.few ∙ both.1))))))
