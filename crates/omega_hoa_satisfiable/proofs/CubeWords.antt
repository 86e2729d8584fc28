-- The words of cubes: one cube more, none, and those of a label.
use Rattle.std.proofs.Common.{◌≡◌, ℕ, zero, suc, ◌+◌, ◌-◌, ◌/◌, ◌%◌, ◌^◌, ◌<◌, ◌≤◌, false, not, ◌||◌, eqb, ltb, Option, Some, List, [], ◌∷◌, ◌++◌, inl, inr, ap, append_assoc, bit_or, bit_xor, drop, drop-cons, get_or, length, refl, replicate, set, sym, take, ◌∙◌, arith}
use Rattle.std.specs.Int.{bit_at}
use Rattle.std.specs.List.{list_all}
use Rattle.std.proofs.Math.Seq.{take-append_seam}
use Rattle.std.proofs.lemmas.Bool.{cases_lt, false≢true, or_cases, or_left, or_right}
use Rattle.std.proofs.lemmas.List.Folds.{list_all-append}
use Rattle.std.proofs.lemmas.List.{get_or-set_other, get_or-set_same, length-set}
use Rattle.std.proofs.lemmas.Nat.Bits.{bit_at-lt, bit_at-zero, bit_at_ones, bit_at_xor}
use Rattle.omega_hoa_label.specs.Label.{LabelTree, conjunction, constant, disjunction, negation, proposition, propositions, truth}
use Rattle.omega_hoa_label.specs.Postfix.{postfix}
use Rattle.omega_hoa_label.specs.declared.label.LabelNode.{LabelNode}
use Rattle.omega_hoa_label.specs.declared.label.LabelNode.TheVariants.{And, Constant, Not, Or, Proposition}
use Rattle.omega_hoa_satisfiable.specs.Literals.{AreLiteralsOf}
use Rattle.omega_hoa_satisfiable.specs.Tables.{IsWideTable, MentionsLow, valuation}
use Rattle.omega_hoa_satisfiable.specs.declared.cube_reader.ReadNode.{ReadNode}
use Rattle.omega_hoa_satisfiable.specs.declared.cube_reader.ReadNode.TheVariants.{Cube}
use Rattle.omega_hoa_satisfiable.specs.declared.literals.Literals.{Literals}
use Rattle.omega_hoa_satisfiable.specs.declared.wide_table.WideTable.{WideTable}
use Rattle.omega_hoa_satisfiable.specs.private.LiteralLanes.{AreAgreeing, lanes_in}
use Rattle.omega_hoa_satisfiable.specs.private.ReadCubes.{AreReadWords, AreTrueWords, AreWordsOf, IsCubeAdded, ReadCubes, before_node, no_cube, nothing_read, read_back, with_before, with_read}
use Rattle.omega_hoa_satisfiable.specs.private.Words.{ones}
use Rattle.omega_hoa_satisfiable.proofs.CubesRead.{cubes-read}
use Rattle.omega_hoa_satisfiable.proofs.LaneLiterals.{lane-met, met-lane, same-bool}
use Rattle.omega_hoa_satisfiable.proofs.LiteralBits.{or-bit}
use Rattle.omega_hoa_satisfiable.proofs.TruthTables.{true-both}

-- ---- a cube more

-- the lanes of literals were added to the first words
pub record AreAdded (literals : Literals) (lanes : ℕ) (old new : List ℕ) (count : ℕ) : Type 0 where
  pub counted : length new ≡ length old
  pub added : (block : ℕ) → block < count → get_or new block 0 ≡ bit_or (get_or old block 0) (lanes_in literals lanes block)
  pub left : (block : ℕ) → count ≤ block → get_or new block 0 ≡ get_or old block 0

pub added-none : (literals : Literals) (lanes : ℕ) (words : List ℕ) → AreAdded literals lanes words words 0
added-none literals lanes words = record {
  counted = refl;
  added = λ block below. absurd (omega (arith, below));
  left = λ block past. refl;
}

pub added-more : (literals : Literals) (lanes : ℕ) (old new : List ℕ) (count : ℕ) → AreAdded literals lanes old new count → count < length new
    → AreAdded literals lanes old (set new count (bit_or (get_or new count 0) (lanes_in literals lanes count))) (count + 1)
added-more literals lanes old new count are within = record {
  counted = length-set new count word ∙ are.counted;
  added = λ block below. elim (cases_lt block count) [
    | inl before ↦ get_or-set_other new count block word 0 (λ same. absurd (omega (arith, same, before))) ∙ are.added block before
    | inr past ↦
        let same : count ≡ block = omega (arith, past, below) in
        rw (sym same) (get_or-set_same new count word 0 within ∙ ap (λ w. bit_or w (lanes_in literals lanes count)) (are.left count (omega arith)))
  ];
  left = λ block past. get_or-set_other new count block word 0 (λ same. absurd (omega (arith, same, past))) ∙ are.left block (omega (arith, past));
}
  where
    word : ℕ
    word = bit_or (get_or new count 0) (lanes_in literals lanes count)

-- so the valuations at which they hold were
pub cube-added : (literals : Literals) (lanes : ℕ) (old new : List ℕ) → literals.held < 2 ^ 64 → literals.unheld < 2 ^ 64 → AreAgreeing literals 6 lanes
    → AreAdded literals lanes old new 64 → IsCubeAdded literals old new
cube-added literals lanes old new held-within unheld-within agree added = record {
  counted = added.counted;
  met = λ number bound.
      let inside : number / 64 < 64 = omega (arith, bound) in
      let before = valuation (get_or old (number / 64) 0) (number % 64) in
      let here = valuation (lanes_in literals lanes (number / 64)) (number % 64) in
      let word : valuation (get_or new (number / 64) 0) (number % 64) ≡ (before || here) =
      ap (λ w. valuation w (number % 64)) (added.added (number / 64) inside)
      ∙ or-bit (get_or old (number / 64) 0) (lanes_in literals lanes (number / 64)) (number % 64) in (
        λ is. elim (or_cases before here (sym word ∙ is)) [
          | inl there ↦ inr there
          | inr new ↦ inl (lane-met literals lanes held-within unheld-within agree number bound new)
        ],
        λ any. elim any [
          | inl met ↦ word ∙ or_right before here (met-lane literals lanes held-within unheld-within agree number bound met)
          | inr there ↦ word ∙ or_left before here there
        ],
      );
}

-- the words of a cube more
pub words-more : (literals : Literals) (old new : List ℕ) → IsCubeAdded literals old new → (cubes : List Literals) → AreWordsOf cubes old
    → AreWordsOf (literals ∷ cubes) new
words-more literals old new added cubes are = record {
  counted = added.counted ∙ are.counted;
  met = λ number bound. (
    λ is. elim ((added.met number bound).0 is) [
      | inl met ↦ inl met
      | inr before ↦ inr ((are.met number bound).0 before)
    ],
    λ any. elim any [
      | inl met ↦ (added.met number bound).1 (inl met)
      | inr before ↦ (added.met number bound).1 (inr ((are.met number bound).1 before))
    ],
  );
}

-- the truth of a label or of a conjunction of literals more
pub true-more : (one another : LabelTree) (literals : Literals) (old new : List ℕ) → AreLiteralsOf another literals → IsCubeAdded literals old new
    → AreTrueWords one old → AreTrueWords (disjunction one another) new
true-more one another literals old new are added before = record {
  counted = added.counted ∙ before.counted;
  agrees = λ number bound.
      let holds = truth (valuation number) one in
      let more = truth (valuation number) another in
      same-bool (valuation (get_or new (number / 64) 0) (number % 64)) (holds || more)
      (λ is. elim ((added.met number bound).0 is) [
        | inl met ↦ or_right holds more ((are (valuation number)).1 met)
        | inr there ↦ or_left holds more (sym (before.agrees number bound) ∙ there)
      ])
      (λ is. elim (or_cases holds more is) [
        | inl there ↦ (added.met number bound).1 (inr (before.agrees number bound ∙ there))
        | inr here ↦ (added.met number bound).1 (inl ((are (valuation number)).0 here))
      ]);
}

-- the words of a label are its truth table
pub true-table : (tree : LabelTree) (table : WideTable) → MentionsLow tree → AreTrueWords tree table.words.items → IsWideTable tree table
true-table tree table low are = record { low = low; counted = are.counted; agrees = are.agrees }

-- that of its disjunction with a label before
pub table-more : (one another : LabelTree) (literals : Literals) (old new : WideTable) → IsWideTable one old → MentionsLow another
    → AreLiteralsOf another literals → IsCubeAdded literals old.words.items new.words.items → IsWideTable (disjunction one another) new
table-more one another literals old new is low are added =
    let more = true-more one another literals old.words.items new.words.items are added (record { counted = is.counted; agrees = is.agrees }) in
    true-table (disjunction one another) new
    (list_all-append (λ number. ltb number 12) (propositions one) (propositions another)
    ∙ true-both (list_all (λ number. ltb number 12) (propositions one)) (list_all (λ number. ltb number 12) (propositions another)) is.low low)
    more

-- ---- no cube

abbrev IsZero : ℕ → Type 0
IsZero word = word ≡ 0

zeros : (count place : ℕ) → IsZero (get_or (replicate count 0) place 0)
zeros zero place = refl
zeros (suc count) zero = refl
zeros (suc count) (suc place) = zeros count place

-- no valuation
pub never-true : (words : List ℕ) → words ≡ replicate 64 0 → AreTrueWords (constant false) words
never-true words are = record {
  counted = ap length are;
  agrees = λ number bound.
      ap (λ w. valuation w (number % 64)) (ap (λ ws. get_or ws (number / 64) 0) are ∙ zeros 64 (number / 64)) ∙ ap (λ bit. eqb bit 1) (bit_at-zero (number % 64));
}

pub words-none : (words : List ℕ) → words ≡ replicate 64 0 → AreWordsOf [] words
words-none words are = record {
  counted = ap length are;
  met = λ number bound. (
    λ is.
        absurd (false≢true (sym (ap (λ bit. eqb bit 1) (bit_at-zero (number % 64)))
        ∙ (ap (λ w. valuation w (number % 64)) (sym (ap (λ ws. get_or ws (number / 64) 0) are ∙ zeros 64 (number / 64))) ∙ is))),
    λ none. absurd none,
  );
}

-- ---- a node more

-- the node before makes a cube whole
pub cube-more : (nodes : List LabelNode) (place : ℕ) (d : LabelNode) (read : ReadCubes) (found : Option ReadNode) (literals : Literals) → 0 < place
    → place ≤ length nodes → read_back nothing_read (drop place nodes) ≡ Some read → found ≡ before_node read.reader (get_or nodes (place - 1) d)
    → found ≡ Some (Cube literals) → read_back nothing_read (drop (place - 1) nodes) ≡ Some (record { reader = no_cube; cubes = literals ∷ read.cubes })
cube-more nodes place d read found literals some within before is whole =
    let split : drop (place - 1) nodes ≡ get_or nodes (place - 1) d ∷ drop (suc (place - 1)) nodes = drop-cons nodes (place - 1) d (omega (arith, some, within)) in
    let same : suc (place - 1) ≡ place = omega (arith, some) in
    let rest = ap (λ at. read_back nothing_read (drop at nodes)) same ∙ before in
    ap (read_back nothing_read) split
    ∙ (ap (λ r. with_before r (get_or nodes (place - 1) d)) rest ∙ ap (λ r. with_read r read.cubes) (sym is ∙ whole))

-- what a slice of all items leaves of them
pub given_back : (count : ℕ) (new old : List ℕ) → count ≡ length new → take count (new ++ drop (length new) old) ≡ new
given_back count new old is = ap (λ n. take n (new ++ drop (length new) old)) is ∙ take-append_seam new (drop (length new) old)

-- ---- the words of a label

pub label-words : (nodes : List LabelNode) (words : List ℕ) (tree : LabelTree) → AreReadWords nodes words → nodes ≡ postfix tree → AreTrueWords tree words
label-words nodes words tree (reader, more) made =
    let cubes = more.0 in
    let are = more.2 in
    let end = cubes-read tree [] (record { reader = reader; cubes = cubes }) (ap (read_back nothing_read) (sym made) ∙ more.1) in
    let same : cubes ≡ end.after = ap (λ r. r.cubes) end.is in
    record {
      counted = are.counted;
      agrees = λ number bound.
          same-bool (valuation (get_or words (number / 64) 0) (number % 64)) (truth (valuation number) tree)
          (λ is. elim ((end.means (valuation number)).0 (rw (sym same) ((are.met number bound).0 is))) [
            | inl holds ↦ holds
            | inr none ↦ absurd none
          ])
          (λ holds. (are.met number bound).1 (rw same ((end.means (valuation number)).1 (inl holds))));
    }

-- the bits that the words do not have are those of the negation
pub negation-words : (part : LabelTree) (words flipped : List ℕ) → AreTrueWords part words → length flipped ≡ 64
    → ((block : ℕ) → block < 64 → get_or flipped block 0 ≡ bit_xor (get_or words block 0) ones) → AreTrueWords (negation part) flipped
negation-words part words flipped are counted made = record {
  counted = counted;
  agrees = λ number bound.
      let inside : number / 64 < 64 = omega (arith, bound) in
      let lane : number % 64 < 64 = omega arith in
      ap (λ w. valuation w (number % 64)) (made (number / 64) inside)
      ∙ (other-bit (get_or words (number / 64) 0) (number % 64) lane ∙ ap not (are.agrees number bound));
}
  where
    turned : (bit : ℕ) → bit < 2 → eqb ((bit + 1) % 2) 1 ≡ not (eqb bit 1)
    turned zero within = refl
    turned (suc zero) within = refl
    turned (suc (suc more)) within = absurd (omega (arith, within))

    other-bit : (word at : ℕ) → at < 64 → valuation (bit_xor word ones) at ≡ not (valuation word at)
    other-bit word at below =
        ap (λ bit. eqb bit 1) (bit_at_xor word ones at ∙ ap (λ bit. (bit_at word at + bit) % 2) (bit_at_ones 64 at below))
        ∙ turned (bit_at word at) (bit_at-lt word at)

-- the last node, and those before it
last : LabelNode → List LabelNode → LabelNode
last default [] = default
last default (node ∷ nodes) = last node nodes

last-is : (default : LabelNode) (nodes : List LabelNode) (node : LabelNode) → last default (nodes ++ node ∷ []) ≡ node
unfolding last
last-is default [] node = refl
last-is default (next ∷ nodes) node = last-is next nodes node

front : List LabelNode → List LabelNode
front [] = []
front (node ∷ []) = []
front (node ∷ next ∷ nodes) = node ∷ front (next ∷ nodes)

front-is : (nodes : List LabelNode) (node : LabelNode) → front (nodes ++ node ∷ []) ≡ nodes
unfolding front
front-is [] node = refl
front-is (first ∷ []) node = refl
front-is (first ∷ next ∷ nodes) node = ap (λ rest. first ∷ rest) (front-is (next ∷ nodes) node)

same-last : (nodes others : List LabelNode) (node other : LabelNode) → nodes ++ node ∷ [] ≡ others ++ other ∷ [] → node ≡ other
same-last nodes others node other is = sym (last-is node nodes node) ∙ (ap (last node) is ∙ last-is node others other)

no-not : (nodes left right : List LabelNode) (node : LabelNode) → nodes ++ Not ∷ [] ≡ left ++ (right ++ node ∷ []) → Not ≡ node
no-not nodes left right node is = same-last nodes (left ++ right) Not node (is ∙ sym (append_assoc left right (node ∷ [])))

-- a label whose last node is `!` is a negation of the label before
pub negated-part : (tree : LabelTree) (nodes : List LabelNode) → nodes ++ Not ∷ [] ≡ postfix tree
    → (part : LabelTree) × ((tree ≡ negation part) × (nodes ≡ postfix part))
negated-part (constant value) nodes is = absurd (other (same-last nodes [] Not (Constant value) is))
  where
    other : Not ≡ Constant value → ⊥
    other e = cc
negated-part (proposition number) nodes is = absurd (other (same-last nodes [] Not (Proposition number) is))
  where
    other : Not ≡ Proposition number → ⊥
    other e = cc
negated-part (negation part) nodes is = (part, (refl, sym (front-is nodes Not) ∙ (ap front is ∙ front-is (postfix part) Not)))
negated-part (conjunction left right) nodes is = absurd (other (no-not nodes (postfix left) (postfix right) And is))
  where
    other : Not ≡ And → ⊥
    other e = cc
negated-part (disjunction left right) nodes is = absurd (other (no-not nodes (postfix left) (postfix right) Or is))
  where
    other : Not ≡ Or → ⊥
    other e = cc

-- so the words of its part, turned, are its own
pub turned-words : (nodes : List LabelNode) (words flipped : List ℕ) → ((tree : LabelTree) → nodes ≡ postfix tree → AreTrueWords tree words)
    → length flipped ≡ 64 → ((block : ℕ) → block < 64 → get_or flipped block 0 ≡ bit_xor (get_or words block 0) ones)
    → (tree : LabelTree) → nodes ++ Not ∷ [] ≡ postfix tree → AreTrueWords tree flipped
turned-words nodes words flipped are counted made tree is =
    let negated = negated-part tree nodes is in
    rw (negated.1.0) (negation-words negated.0 words flipped (are negated.0 negated.1.1) counted made)
