-- The words of a label under the valuations of the first twelve propositions are its truth table.
use Rattle.std.proofs.Common.{◌≡◌, ℕ, ◌+◌, ◌*◌, ◌/◌, ◌%◌, ◌^◌, ◌<◌, zero, suc, Bool, true, ◌&&◌, eqb, ltb, List, [], ◌∷◌, length, get_or, ap, bit_and, refl, sym, ◌∙◌, arith}
use Rattle.std.specs.Int.{bit_at}
use Rattle.std.specs.List.{list_all}
use Rattle.std.proofs.lemmas.Bool.{agree_below_at, eqb-true, false≢true, ltb-true}
use Rattle.omega_hoa_label.specs.Label.{LabelTree, conjunction, propositions, truth}
use Rattle.omega_hoa_label.specs.Postfix.{postfix}
use Rattle.omega_hoa_label.specs.declared.label.LabelNode.{LabelNode}
use Rattle.omega_hoa_label.specs.declared.label.LabelNode.TheVariants.{Alias, And, Constant, Group, Not, Or, Proposition}
use Rattle.omega_hoa_satisfiable.specs.Satisfiable.{IsSatisfiable}
use Rattle.omega_hoa_satisfiable.specs.Tables.{IsWideTable, MentionsLow, valuation}
use Rattle.omega_hoa_satisfiable.specs.declared.wide_table.WideTable.{WideTable}
use Rattle.omega_hoa_satisfiable.specs.private.WideWords.{AreNodesOf, AreWords, block_word}
use Rattle.omega_hoa_satisfiable.specs.private.ReadCubes.{AreTrueWords}
use Rattle.omega_hoa_satisfiable.specs.private.Words.{is_low, pattern, propositions_of, twelve, word_among, word_of}
use Rattle.omega_hoa_satisfiable.proofs.TruthTables.{all-among, both-true, true-both}
use Rattle.omega_hoa_satisfiable.proofs.Valuations.{among, number_of, number_of-higher, number_of-lowest, number_of-lt, pattern-bit, truth-agree}
use Rattle.omega_hoa_satisfiable.proofs.WordLemmas.{held_in, lane-off, lane-on, on, on-and, on-word_of, word-is}

-- nodes mention no other, if each of them does not
pub low-nodes : (nodes : List LabelNode) → list_all is_low nodes ≡ list_all (λ number. ltb number 12) (propositions_of nodes)
low-nodes [] = refl
low-nodes (Constant value ∷ nodes) = low-nodes nodes
low-nodes (Proposition number ∷ nodes) = ap (λ rest. ltb number 12 && rest) (low-nodes nodes)
low-nodes (Not ∷ nodes) = low-nodes nodes
low-nodes (And ∷ nodes) = low-nodes nodes
low-nodes (Or ∷ nodes) = low-nodes nodes
low-nodes (Alias count ∷ nodes) = low-nodes nodes
low-nodes (Group ∷ nodes) = low-nodes nodes

-- each proposition of such a label is below twelve
low-below : (tree : LabelTree) → MentionsLow tree → (number : ℕ) → among number (propositions tree) ≡ true → number < 12
low-below tree low number is = ltb-true number 12 (all-among (λ other. ltb other 12) number (propositions tree) low is)

-- the word of such a proposition is the pattern of its place
among-twelve : (block number : ℕ) → number < 12 → word_among block 0 twelve number ≡ pattern block number
among-twelve block zero low = refl
among-twelve block (suc zero) low = refl
among-twelve block (suc (suc zero)) low = refl
among-twelve block (suc (suc (suc zero))) low = refl
among-twelve block (suc (suc (suc (suc zero)))) low = refl
among-twelve block (suc (suc (suc (suc (suc zero))))) low = refl
among-twelve block (suc (suc (suc (suc (suc (suc zero)))))) low = refl
among-twelve block (suc (suc (suc (suc (suc (suc (suc zero))))))) low = refl
among-twelve block (suc (suc (suc (suc (suc (suc (suc (suc zero)))))))) low = refl
among-twelve block (suc (suc (suc (suc (suc (suc (suc (suc (suc zero))))))))) low = refl
among-twelve block (suc (suc (suc (suc (suc (suc (suc (suc (suc (suc zero)))))))))) low = refl
among-twelve block (suc (suc (suc (suc (suc (suc (suc (suc (suc (suc (suc zero))))))))))) low = refl
among-twelve block (suc (suc (suc (suc (suc (suc (suc (suc (suc (suc (suc (suc more)))))))))))) low = absurd (omega arith)

-- under the valuation with a number, the lane of the number in its block has each of them
twelve-bit : (number p : ℕ) → p < 12 → on (word_among (number / 64) 0 twelve p) (number % 64) ≡ valuation number p
twelve-bit number p low = ap (λ word. on word (number % 64)) (among-twelve (number / 64) p low) ∙ pattern-bit number p

-- and so each label that mentions no other
twelve-truth : (tree : LabelTree) (number : ℕ) → MentionsLow tree
    → on (word_of (word_among (number / 64) 0 twelve) tree) (number % 64) ≡ truth (valuation number) tree
twelve-truth tree number low =
    let within : number % 64 < 64 = omega arith in
    on-word_of (word_among (number / 64) 0 twelve) tree (number % 64) within
    ∙ truth-agree (held_in (word_among (number / 64) 0 twelve) (number % 64)) (valuation number) tree
    (λ p mentioned. twelve-bit number p (low-below tree low p mentioned))

-- the nodes of a label make its words
pub nodes-make : (tree : LabelTree) (nodes : List LabelNode) → nodes ≡ postfix tree → AreNodesOf nodes tree
nodes-make tree nodes are block = word-is (word_among block 0 twelve) tree nodes (block_word nodes block) are refl

-- and these are its truth
pub passes-true : (tree : LabelTree) (nodes : List LabelNode) (words : List ℕ) → MentionsLow tree → nodes ≡ postfix tree → AreWords nodes words 64
    → AreTrueWords tree words
passes-true tree nodes words low are made = record {
  counted = made.counted;
  agrees = λ number bound.
      let inside : number / 64 < 64 = omega (arith, bound) in
      ap (λ word. on word (number % 64)) (made.made (number / 64) inside ∙ nodes-make tree nodes are (number / 64)) ∙ twelve-truth tree number low;
}

-- ---- two labels together

bits-held : (held : ℕ → Bool) (numbers : List ℕ) (place : ℕ) → place < length numbers → eqb (bit_at (number_of held numbers) place) 1 ≡ held (get_or numbers place 0)
bits-held held [] place within = absurd (omega arith)
bits-held held (next ∷ rest) zero within = number_of-lowest held next rest
bits-held held (next ∷ rest) (suc place) within =
    let inside : place < length rest = omega arith in
    ap (λ bit. eqb bit 1) (number_of-higher held next rest place) ∙ bits-held held rest place inside

twelve-at : (p : ℕ) → p < 12 → get_or twelve p 0 ≡ p
twelve-at p low = eqb-true (get_or twelve p 0) p (agree_below_at (λ i. eqb (get_or twelve i 0) i) (λ i. true) 12 p refl low)

-- each set of propositions is, as far as such a label mentions them, the valuation with a number
twelve-valuation : (held : ℕ → Bool) (tree : LabelTree) → MentionsLow tree → truth (valuation (number_of held twelve)) tree ≡ truth held tree
twelve-valuation held tree low =
    truth-agree (valuation (number_of held twelve)) held tree
    (λ p mentioned.
    let below = low-below tree low p mentioned in
    bits-held held twelve p below ∙ ap held (twelve-at p below))

-- the number of the lane of a block
abbrev number_at : ℕ → ℕ → ℕ
number_at block lane = 64 * block + lane

-- the bits of words are the truth of a label that mentions no other
pub record AreTruths (words : ℕ → ℕ) (tree : LabelTree) : Type 0 where
  pub low : MentionsLow tree
  pub agrees : (number : ℕ) → number < 4096 → on (words (number / 64)) (number % 64) ≡ truth (valuation number) tree

-- those of its truth table
pub table-truths : (tree : LabelTree) (table : WideTable) → IsWideTable tree table → AreTruths (λ block. get_or table.words.items block 0) tree
table-truths tree table is = record { low = is.low; agrees = is.agrees }

-- and those that its nodes make
pub nodes-truths : (tree : LabelTree) (nodes : List LabelNode) → MentionsLow tree → AreNodesOf nodes tree → AreTruths (block_word nodes) tree
nodes-truths tree nodes low make = record {
  low = low;
  agrees = λ number within. ap (λ word. on word (number % 64)) (make (number / 64)) ∙ twelve-truth tree number low;
}

-- a bit of the words of both in a block shows that two labels can be true together
pub shared-block : (one other : LabelTree) (words others : ℕ → ℕ) (block word : ℕ) → AreTruths words one → AreTruths others other → block < 64
    → word ≡ bit_and (words block) (others block) → word < 2 ^ 64 → (word ≡ 0 → ⊥) → IsSatisfiable (conjunction one other)
shared-block one other words others block word are are' inside made within some =
    let lane = lane-on word some within in
    let number = number_at block lane.0 in
    let bound : number < 4096 = omega (arith, lane.1.0, inside) in
    let block_is : number / 64 ≡ block = omega (arith, lane.1.0) in
    let lane_is : number % 64 ≡ lane.0 = omega (arith, lane.1.0) in
    let shared = both-true (on (words block) lane.0) (on (others block) lane.0)
    (sym (on-and (words block) (others block) lane.0) ∙ (ap (λ w. on w lane.0) (sym made) ∙ lane.1.1)) in
    let first : on (words (number / 64)) (number % 64) ≡ true = ap (λ b. on (words b) (number % 64)) block_is ∙ (ap (on (words block)) lane_is ∙ shared.0) in
    let second : on (others (number / 64)) (number % 64) ≡ true = ap (λ b. on (others b) (number % 64)) block_is ∙ (ap (on (others block)) lane_is ∙ shared.1) in
    (valuation number, true-both _ _ (sym (are.agrees number bound) ∙ first) (sym (are'.agrees number bound) ∙ second))

-- if they can, there is a block with a bit of both
pub none-shared : (one other : LabelTree) (words others : ℕ → ℕ) → AreTruths words one → AreTruths others other
    → ((block : ℕ) → block < 64 → bit_and (words block) (others block) ≡ 0) → IsSatisfiable (conjunction one other) → ⊥
none-shared one other words others are are' none satisfied =
    let held = satisfied.0 in
    let number = number_of held twelve in
    let bound : number < 4096 = number_of-lt held twelve in
    let inside : number / 64 < 64 = omega (arith, bound) in
    let truths = both-true (truth held one) (truth held other) satisfied.1 in
    let first : on (words (number / 64)) (number % 64) ≡ true = are.agrees number bound ∙ (twelve-valuation held one are.low ∙ truths.0) in
    let second : on (others (number / 64)) (number % 64) ≡ true = are'.agrees number bound ∙ (twelve-valuation held other are'.low ∙ truths.1) in
    false≢true (sym (lane-off (number % 64)) ∙ (ap (λ w. on w (number % 64)) (sym (none (number / 64) inside))
    ∙ (on-and (words (number / 64)) (others (number / 64)) (number % 64) ∙ true-both _ _ first second)))
