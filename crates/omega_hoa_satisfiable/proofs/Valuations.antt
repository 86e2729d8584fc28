-- Each set of propositions, as far as a label mentions them, is a lane of a block.
use Rattle.std.proofs.Common.{◌≡◌, ℕ, ◌+◌, ◌-◌, ◌*◌, ◌/◌, ◌%◌, ◌^◌, ◌<◌, ◌≤◌, zero, suc, Bool, true, false, cond, eqb, ltb, List, [], ◌∷◌, ◌++◌, length, ap, refl, sym, ◌∙◌, arith, inl, inr, lt-ltb, eq-eqb, length-append, add-zero, pow-suc, drop, drop-cons, get_or, not, ◌&&◌, ◌||◌}
use Rattle.std.specs.Int.{bit_at}
use Rattle.std.specs.List.{list_any}
use Rattle.std.proofs.lemmas.Bool.{agree_below_at, cases_Bool, cases_lt, false≢true, cond-false, cond-true, cond_both, eqb-true, le-ltb, or_cases, or_left, or_right}
use Rattle.std.proofs.lemmas.Nat.Bits.{bit_at-suc, bit_at_cat_high, bit_at_cat_low, bit_at_lowest}
use Rattle.omega_hoa_expression.specs.Limits.{most_mentioned}
use Rattle.omega_hoa_label.specs.Label.{LabelTree, conjunction, constant, disjunction, negation, proposition, propositions, truth}
use Rattle.omega_hoa_satisfiable.specs.Satisfiable.{each_once, mentioned}
use Rattle.omega_hoa_satisfiable.specs.private.Words.{mask, pattern, propositions_of, word_among, word_of, word_of_truth}
use Rattle.omega_hoa_label.specs.declared.label.LabelNode.{LabelNode}
use Rattle.omega_hoa_label.specs.declared.label.LabelNode.TheVariants.{Proposition}
use Rattle.omega_hoa_satisfiable.proofs.WordLemmas.{held_in, lane-off, on, on-truth, on-word_of}

-- whether a number is among some
abbrev pub among : ℕ → List ℕ → Bool
among number numbers = list_any (λ other. eqb other number) numbers

among-left : (number : ℕ) (left right : List ℕ) → among number left ≡ true → among number (left ++ right) ≡ true
among-left number [] right is = absurd (false≢true is)
among-left number (next ∷ left) right is = elim (or_cases (eqb next number) (among number left) is) [
  | inl here ↦ or_left (eqb next number) (among number (left ++ right)) here
  | inr there ↦ or_right (eqb next number) (among number (left ++ right)) (among-left number left right there)
]

among-right : (number : ℕ) (left right : List ℕ) → among number right ≡ true → among number (left ++ right) ≡ true
among-right number [] right is = is
among-right number (next ∷ left) right is = or_right (eqb next number) (among number (left ++ right)) (among-right number left right is)

-- a label's truth rests on its propositions alone
pub truth-agree : (one other : ℕ → Bool) (tree : LabelTree) → ((number : ℕ) → among number (propositions tree) ≡ true → one number ≡ other number)
    → truth one tree ≡ truth other tree
truth-agree one other (constant value) agree = refl
truth-agree one other (proposition number) agree = agree number (or_left (eqb number number) false (eq-eqb number number refl))
truth-agree one other (negation part) agree = ap not (truth-agree one other part agree)
truth-agree one other (conjunction left right) agree =
    ap (λ b. b && truth one right) (truth-agree one other left (λ number is. agree number (among-left number (propositions left) (propositions right) is)))
    ∙ ap (λ b. truth other left && b) (truth-agree one other right (λ number is. agree number (among-right number (propositions left) (propositions right) is)))
truth-agree one other (disjunction left right) agree =
    ap (λ b. b || truth one right) (truth-agree one other left (λ number is. agree number (among-left number (propositions left) (propositions right) is)))
    ∙ ap (λ b. truth other left || b) (truth-agree one other right (λ number is. agree number (among-right number (propositions left) (propositions right) is)))

-- what is seen stays
seen-kept : (number : ℕ) (seen rest : List ℕ) → among number seen ≡ true → among number (each_once seen rest) ≡ true
seen-kept number seen [] is = is
seen-kept number seen (next ∷ rest) is =
    seen-kept number (cond (among next seen) seen (seen ++ next ∷ [])) rest
    (cond_both (among next seen) seen (seen ++ next ∷ []) (λ numbers. among number numbers ≡ true) (λ old. is) (λ new. among-left number seen (next ∷ []) is))

-- each number of a list is kept
each-kept : (number : ℕ) (seen rest : List ℕ) → among number rest ≡ true → among number (each_once seen rest) ≡ true
each-kept number seen [] is = absurd (false≢true is)
each-kept number seen (next ∷ rest) is = elim (or_cases (eqb next number) (among number rest) is) [
  | inl here ↦
      seen-kept number (cond (among next seen) seen (seen ++ next ∷ [])) rest
      (cond_both (among next seen) seen (seen ++ next ∷ []) (λ numbers. among number numbers ≡ true)
      (λ old. ap (λ n. among n seen) (sym (eqb-true next number here)) ∙ old)
      (λ new. among-right number seen (next ∷ []) (or_left (eqb next number) false here)))
  | inr there ↦ each-kept number (cond (among next seen) seen (seen ++ next ∷ [])) rest there
]

-- two lists are added one after the other
pub each_once-append : (seen left right : List ℕ) → each_once seen (left ++ right) ≡ each_once (each_once seen left) right
each_once-append seen [] right = refl
each_once-append seen (next ∷ left) right = each_once-append (cond (among next seen) seen (seen ++ next ∷ [])) left right

-- no number is lost
pub length-each_once : (seen rest : List ℕ) → length seen ≤ length (each_once seen rest)
length-each_once seen [] = omega arith
length-each_once seen (next ∷ rest) =
    let more = length-each_once (cond (among next seen) seen (seen ++ next ∷ [])) rest in
    let longer : length seen ≤ length (cond (among next seen) seen (seen ++ next ∷ [])) =
    cond_both (among next seen) seen (seen ++ next ∷ []) (λ numbers. length seen ≤ length numbers) (λ old. omega arith) (λ new. omega (arith, length-append seen (next ∷ []))) in
    omega arith

-- a number that is not among those seen makes one more
pub length-each_once-new : (seen rest : List ℕ) (next : ℕ) → among next seen ≡ false → length seen < length (each_once seen (next ∷ rest))
length-each_once-new seen rest next new =
    let same = ap (λ numbers. length (each_once numbers rest)) (cond-false (among next seen) seen (seen ++ next ∷ []) new) in
    omega (arith, same, length-each_once (seen ++ next ∷ []) rest, length-append seen (next ∷ []))

-- ---- valuations by number

-- 1 where a proposition holds
abbrev digit : Bool → ℕ
digit value = cond value 1 0

-- the number of a valuation: bit k says whether the proposition at place k holds
abbrev pub number_of : (ℕ → Bool) → List ℕ → ℕ
number_of held [] = 0
number_of held (next ∷ rest) = 2 * number_of held rest + digit (held next)

digit-lt : (value : Bool) → digit value < 2
digit-lt true = omega arith
digit-lt false = omega arith

digit-is : (value : Bool) → eqb (digit value) 1 ≡ value
digit-is true = refl
digit-is false = refl

-- it has a bit for each proposition
pub number_of-lt : (held : ℕ → Bool) (numbers : List ℕ) → number_of held numbers < 2 ^ length numbers
number_of-lt held [] = omega arith
number_of-lt held (next ∷ rest) = omega (arith, number_of-lt held rest, digit-lt (held next), pow-suc 2 (length rest))

-- the lowest bit is the first proposition's
pub number_of-lowest : (held : ℕ → Bool) (next : ℕ) (rest : List ℕ) → eqb (bit_at (number_of held (next ∷ rest)) 0) 1 ≡ held next
number_of-lowest held next rest =
    let small = digit-lt (held next) in
    let low : number_of held (next ∷ rest) % 2 ≡ digit (held next) = omega arith in
    ap (λ bit. eqb bit 1) (bit_at_lowest (number_of held (next ∷ rest)) ∙ low) ∙ digit-is (held next)

-- the others are those of the propositions after it
pub number_of-higher : (held : ℕ → Bool) (next : ℕ) (rest : List ℕ) (place : ℕ)
    → bit_at (number_of held (next ∷ rest)) (suc place) ≡ bit_at (number_of held rest) place
number_of-higher held next rest place =
    let small = digit-lt (held next) in
    let half : number_of held (next ∷ rest) / 2 ≡ number_of held rest = omega arith in
    bit_at-suc (number_of held (next ∷ rest)) place ∙ ap (λ n. bit_at n place) half

-- bit i of a mask is its bit of i
pub mask-bit : (place lane : ℕ) → place < 6 → lane < 64 → on (mask place) lane ≡ on lane place
mask-bit zero lane low within = agree_below_at (λ i. on (mask 0) i) (λ i. on i 0) 64 lane refl within
mask-bit (suc zero) lane low within = agree_below_at (λ i. on (mask 1) i) (λ i. on i 1) 64 lane refl within
mask-bit (suc (suc zero)) lane low within = agree_below_at (λ i. on (mask 2) i) (λ i. on i 2) 64 lane refl within
mask-bit (suc (suc (suc zero))) lane low within = agree_below_at (λ i. on (mask 3) i) (λ i. on i 3) 64 lane refl within
mask-bit (suc (suc (suc (suc zero)))) lane low within = agree_below_at (λ i. on (mask 4) i) (λ i. on i 4) 64 lane refl within
mask-bit (suc (suc (suc (suc (suc zero))))) lane low within = agree_below_at (λ i. on (mask 5) i) (λ i. on i 5) 64 lane refl within
mask-bit (suc (suc (suc (suc (suc (suc place)))))) lane low within = absurd (omega arith)

-- the lane of a valuation has the bit of the valuation's number
pub pattern-bit : (valuation place : ℕ) → on (pattern (valuation / 64) place) (valuation % 64) ≡ on valuation place
pattern-bit valuation place =
    let split : valuation ≡ valuation / 64 * 2 ^ 6 + valuation % 64 = omega arith in
    let within : valuation % 64 < 64 = omega arith in
    elim (cases_lt place 6) [
      | inl low ↦
          ap (λ word. on word (valuation % 64)) (cond-true (ltb place 6) (mask place) (word_of_truth (on (valuation / 64) (place - 6))) (lt-ltb place 6 low))
          ∙ (mask-bit place (valuation % 64) low within
          ∙ (ap (λ bit. eqb bit 1) (sym (bit_at_cat_low (valuation / 64) 6 (valuation % 64) place low)) ∙ ap (λ n. on n place) (sym split)))
      | inr high ↦
          ap (λ word. on word (valuation % 64)) (cond-false (ltb place 6) (mask place) (word_of_truth (on (valuation / 64) (place - 6))) (le-ltb place 6 high))
          ∙ (on-truth (on (valuation / 64) (place - 6)) (valuation % 64) within
          ∙ (ap (λ bit. eqb bit 1) (sym (bit_at_cat_high (valuation / 64) 6 (valuation % 64) place within high)) ∙ ap (λ n. on n place) (sym split)))
    ]

-- a proposition's word has in that lane whether the proposition holds
pub word_among-bit : (held : ℕ → Bool) (valuation place : ℕ) (numbers : List ℕ) (number : ℕ)
    → ((more : ℕ) → bit_at valuation (place + more) ≡ bit_at (number_of held numbers) more) → among number numbers ≡ true
    → on (word_among (valuation / 64) place numbers number) (valuation % 64) ≡ held number
word_among-bit held valuation place [] number bits is = absurd (false≢true is)
word_among-bit held valuation place (next ∷ rest) number bits is =
    elim (cases_Bool (eqb next number)) [
      | inl here ↦
          ap (λ word. on word (valuation % 64)) (cond-true (eqb next number) (pattern (valuation / 64) place) (word_among (valuation / 64) (suc place) rest number) here)
          ∙ (pattern-bit valuation place
          ∙ (ap (λ n. on valuation n) (sym (add-zero place))
          ∙ (ap (λ bit. eqb bit 1) (bits 0)
          ∙ (number_of-lowest held next rest ∙ ap held (eqb-true next number here)))))
      | inr other ↦
          ap (λ word. on word (valuation % 64)) (cond-false (eqb next number) (pattern (valuation / 64) place) (word_among (valuation / 64) (suc place) rest number) other)
          ∙ word_among-bit held valuation (suc place) rest number
          (λ more.
          let moved : suc place + more ≡ place + suc more = omega arith in
          ap (bit_at valuation) moved ∙ (bits (suc more) ∙ number_of-higher held next rest more))
          (sym (ap (λ b. b || among number rest) other) ∙ is)
    ]

-- a label's truth under a set of propositions is its truth in that lane
pub truth-lane : (held : ℕ → Bool) (tree : LabelTree)
    → truth (held_in (word_among (number_of held (mentioned tree) / 64) 0 (mentioned tree)) (number_of held (mentioned tree) % 64)) tree ≡ truth held tree
truth-lane held tree =
    truth-agree (held_in (word_among (number_of held (mentioned tree) / 64) 0 (mentioned tree)) (number_of held (mentioned tree) % 64)) held tree
    (λ number is.
    word_among-bit held (number_of held (mentioned tree)) 0 (mentioned tree) number
    (λ more. let moved : 0 + more ≡ more = omega arith in ap (bit_at (number_of held (mentioned tree))) moved)
    (each-kept number [] (propositions tree) is))

-- so many valuations have so many blocks
pub block-lt : (count valuation : ℕ) → valuation < 2 ^ count → valuation / 64 < 2 ^ (count - 6)
block-lt zero valuation within = omega arith
block-lt (suc zero) valuation within = omega arith
block-lt (suc (suc zero)) valuation within = omega arith
block-lt (suc (suc (suc zero))) valuation within = omega arith
block-lt (suc (suc (suc (suc zero)))) valuation within = omega arith
block-lt (suc (suc (suc (suc (suc zero))))) valuation within = omega arith
block-lt (suc (suc (suc (suc (suc (suc more)))))) valuation within =
    let fewer : suc (suc (suc (suc (suc (suc more))))) - 6 ≡ more = omega arith in
    let blocks = ap (λ n. 2 ^ n) fewer in
    omega (arith, blocks, pow-suc 2 more, pow-suc 2 (suc more), pow-suc 2 (suc (suc more)), pow-suc 2 (suc (suc (suc more))), pow-suc 2 (suc (suc (suc (suc more)))), pow-suc 2 (suc (suc (suc (suc (suc more))))))

-- a label that is true under some propositions has a block whose word is not 0
pub some-block : (held : ℕ → Bool) (tree : LabelTree) → truth held tree ≡ true
    → word_of (word_among (number_of held (mentioned tree) / 64) 0 (mentioned tree)) tree ≡ 0 → ⊥
some-block held tree is none =
    let lane : number_of held (mentioned tree) % 64 < 64 = omega arith in
    false≢true (sym (lane-off (number_of held (mentioned tree) % 64))
    ∙ (ap (λ word. on word (number_of held (mentioned tree) % 64)) (sym none)
    ∙ (on-word_of (word_among (number_of held (mentioned tree) / 64) 0 (mentioned tree)) tree (number_of held (mentioned tree) % 64) lane
    ∙ (truth-lane held tree ∙ is))))

-- a proposition that is not among twelve makes more than twelve
pub over-mentioned : (seen all : List ℕ) (nodes : List LabelNode) (place number : ℕ) (d : LabelNode)
    → place < length nodes → get_or nodes place d ≡ Proposition number → among number seen ≡ false → length seen ≡ most_mentioned
    → each_once seen (propositions_of (drop place nodes)) ≡ all → most_mentioned < length all
over-mentioned seen all nodes place number d within here new full is =
    let split = ap (λ more. length (each_once seen (propositions_of more))) (drop-cons nodes place d within) in
    let next = ap (λ node. length (each_once seen (propositions_of (node ∷ drop (suc place) nodes)))) here in
    omega (arith, split, next, ap length is, length-each_once-new seen (propositions_of (drop (suc place) nodes)) number new)
