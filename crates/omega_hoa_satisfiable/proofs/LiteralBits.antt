-- The literals whose bits are set in words, and labels that are conjunctions of them.
use Rattle.std.proofs.Common.{◌≡◌, ◌↔◌, ℕ, ◌^◌, ◌<◌, ◌==◌, suc, Bool, true, false, not, ◌||◌, eqb, ltb, Option, None, Some, List, [], ◌∷◌, ◌++◌, ◌⊎◌, inl, inr, ap, append-nil, append_assoc, bit_and, bit_or, refl, sym, subst, ◌∙◌, eq-eqb, drop, drop-cons, get_or, length}
use Rattle.std.specs.Prelude.{IsTrue}
use Rattle.std.specs.Int.{bit_at}
use Rattle.std.proofs.lemmas.Bool.{cases_Bool, cond-false, cond-true, eqb-true, false≢true, or_cases, or_left, or_right}
use Rattle.std.proofs.lemmas.Nat.Bits.{bit_at-lt, bit_at-pow_other, bit_at-pow_same, bit_at-zero, bit_at_or}
use Rattle.omega_hoa_expression.specs.Joins.{regrouped}
use Rattle.omega_hoa_label.specs.Label.{LabelTree, conjunction, constant, disjunction, negation, proposition, truth}
use Rattle.omega_hoa_label.specs.Postfix.{postfix}
use Rattle.omega_hoa_label.specs.declared.label.LabelNode.{LabelNode}
use Rattle.omega_hoa_label.specs.declared.label.LabelNode.TheVariants.{And, Not, Or}
use Rattle.omega_hoa_satisfiable.specs.Literals.{AreLiteralsOf, FailAt, HoldAt}
use Rattle.omega_hoa_satisfiable.specs.Satisfiable.{IsSatisfiable}
use Rattle.omega_hoa_satisfiable.specs.Tables.{valuation}
use Rattle.omega_hoa_satisfiable.specs.declared.literals.Literals.{Literals}
use Rattle.omega_hoa_satisfiable.specs.declared.literals.ReadLiterals.{ReadLiterals}
use Rattle.omega_hoa_satisfiable.specs.private.ReadLiterals.{no_literals, with_last, with_last_held, with_last_unheld, with_node, with_nodes}
use Rattle.omega_hoa_satisfiable.proofs.TruthTables.{both-true, true-both}
use Rattle.omega_hoa_satisfiable.proofs.WordLemmas.{lane-off, lane-on, on-and, on-or-bits}

-- ---- what holds of all propositions whose bits are set

abbrev pub AllOf : ℕ → (ℕ → Type 0) → Type 0
AllOf word P = (p : ℕ) → valuation word p ≡ true → P p

pub or-bit : (word other p : ℕ) → valuation (bit_or word other) p ≡ (valuation word p || valuation other p)
or-bit word other p =
    ap (λ bit. eqb bit 1) (bit_at_or word other p) ∙ on-or-bits (bit_at word p) (bit_at other p) (bit_at-lt word p) (bit_at-lt other p)

pub all-both : (P : ℕ → Type 0) (word other : ℕ) → AllOf word P → AllOf other P → AllOf (bit_or word other) P
all-both P word other all all' p is = elim (or_cases (valuation word p) (valuation other p) (sym (or-bit word other p) ∙ is)) [
  | inl here ↦ all p here
  | inr there ↦ all' p there
]

pub all-left : (P : ℕ → Type 0) (word other : ℕ) → AllOf (bit_or word other) P → AllOf word P
all-left P word other all p is = all p (or-bit word other p ∙ or_left (valuation word p) (valuation other p) is)

pub all-right : (P : ℕ → Type 0) (word other : ℕ) → AllOf (bit_or word other) P → AllOf other P
all-right P word other all p is = all p (or-bit word other p ∙ or_right (valuation word p) (valuation other p) is)

pub all-none : (P : ℕ → Type 0) → AllOf 0 P
all-none P p is = absurd (false≢true (sym (ap (λ bit. eqb bit 1) (bit_at-zero p)) ∙ is))

pub all-one : (P : ℕ → Type 0) (number : ℕ) → P number → AllOf (2 ^ number) P
all-one P number here p is = elim (cases_Bool (eqb p number)) [
  | inl same ↦ subst P (sym (eqb-true p number same)) here
  | inr other ↦ absurd (false≢true (sym (ap (λ bit. eqb bit 1) (bit_at-pow_other number p (λ e. false≢true (sym other ∙ eq-eqb p number e)))) ∙ is))
]

pub one-all : (P : ℕ → Type 0) (number : ℕ) → AllOf (2 ^ number) P → P number
one-all P number all = all number (ap (λ bit. eqb bit 1) (bit_at-pow_same number))

-- ---- what was read

-- the literals that were read hold at the letter
pub record AreMet (read : ReadLiterals) (letter : ℕ → Bool) : Type 0 where
  held : HoldAt read.held letter
  last : HoldAt read.last letter
  unheld : FailAt read.unheld letter

-- a label was read: what was read then is met if what was read before is, and the label is true
record IsRead (before : ReadLiterals) (tree : LabelTree) (rest : List LabelNode) (end : ReadLiterals) : Type 0 where
  after : ReadLiterals
  left : with_nodes (Some after) rest ≡ Some end
  means : (letter : ℕ → Bool) → AreMet after letter ↔ (AreMet before letter × (truth letter tree ≡ true))
  settled : ((number : ℕ) × ((tree ≡ proposition number) × (after ≡ with_last before number))) ⊎ (after.last ≡ 0)

none-left : (nodes : List LabelNode) (end : ReadLiterals) → with_nodes None nodes ≡ Some end → ⊥
none-left [] end is = cc
none-left (node ∷ nodes) end is = none-left nodes end is

with-none : (nodes : List LabelNode) → with_nodes None nodes ≡ None
with-none [] = refl
with-none (node ∷ nodes) = with-none nodes

-- a node that belongs to no conjunction of literals ends the reading
pub ends-there : (read : ReadLiterals) (nodes : List LabelNode) (place : ℕ) (d : LabelNode) (result all : Option ReadLiterals) → place < length nodes
    → result ≡ with_node read (get_or nodes place d) → result ≡ None → with_nodes (Some read) (drop place nodes) ≡ all → None ≡ all
ends-there read nodes place d result all within made none is =
    sym (with-none (drop (suc place) nodes))
    ∙ (ap (λ other. with_nodes other (drop (suc place) nodes)) (sym none ∙ made)
    ∙ (ap (with_nodes (Some read)) (sym (drop-cons nodes place d within)) ∙ is))

met-held : (read : ReadLiterals) (letter : ℕ → Bool) → AreMet (with_last_held read) letter ↔ AreMet read letter
met-held read letter = (
  λ met. record {
    held = all-left (λ p. letter p ≡ true) read.held read.last met.held;
    last = all-right (λ p. letter p ≡ true) read.held read.last met.held;
    unheld = met.unheld;
  },
  λ met. record {
    held = all-both (λ p. letter p ≡ true) read.held read.last met.held met.last;
    last = all-none (λ p. letter p ≡ true);
    unheld = met.unheld;
  },
)

met-last : (read : ReadLiterals) (number : ℕ) (letter : ℕ → Bool) → AreMet (with_last read number) letter ↔ (AreMet read letter × (letter number ≡ true))
met-last read number letter = (
  λ met. (
    record {
      held = all-left (λ p. letter p ≡ true) read.held read.last met.held;
      last = all-right (λ p. letter p ≡ true) read.held read.last met.held;
      unheld = met.unheld;
    },
    one-all (λ p. letter p ≡ true) number met.last,
  ),
  λ both. record {
    held = all-both (λ p. letter p ≡ true) read.held read.last both.0.held both.0.last;
    last = all-one (λ p. letter p ≡ true) number both.1;
    unheld = both.0.unheld;
  },
)

pub not-true : (value : Bool) → not value ≡ true → value ≡ false
not-true true is = absurd (false≢true is)
not-true false is = refl

pub true-not : (value : Bool) → value ≡ false → not value ≡ true
true-not value is = ap not is

-- `!` after a proposition
met-unheld : (read : ReadLiterals) (number : ℕ) (letter : ℕ → Bool)
    → AreMet (with_last_unheld (with_last read number)) letter ↔ (AreMet read letter × (not (letter number) ≡ true))
met-unheld read number letter = (
  λ met. (
    record {
      held = all-left (λ p. letter p ≡ true) read.held read.last met.held;
      last = all-right (λ p. letter p ≡ true) read.held read.last met.held;
      unheld = all-left (λ p. letter p ≡ false) read.unheld (2 ^ number) met.unheld;
    },
    true-not (letter number) (one-all (λ p. letter p ≡ false) number (all-right (λ p. letter p ≡ false) read.unheld (2 ^ number) met.unheld)),
  ),
  λ both. record {
    held = all-both (λ p. letter p ≡ true) read.held read.last both.0.held both.0.last;
    last = all-none (λ p. letter p ≡ true);
    unheld = all-both (λ p. letter p ≡ false) read.unheld (2 ^ number) both.0.unheld (all-one (λ p. letter p ≡ false) number (not-true (letter number) both.1));
  },
)

pow-some : (number : ℕ) → (2 ^ number == 0) ≡ false
pow-some number = elim (cases_Bool (2 ^ number == 0)) [
  | inl none ↦
      absurd (false≢true (sym (ap (λ bit. eqb bit 1) (bit_at-zero number))
      ∙ (ap (λ word. eqb (bit_at word number) 1) (sym (eqb-true (2 ^ number) 0 none)) ∙ ap (λ bit. eqb bit 1) (bit_at-pow_same number))))
  | inr some ↦ some
]

-- a part that was read, and then `!`
read-not : (before : ReadLiterals) (part : LabelTree) (rest : List LabelNode) (end : ReadLiterals)
    → IsRead before part (Not ∷ rest) end → IsRead before (negation part) rest end
read-not before part rest end read = elim read.settled [
  | inl last ↦
      let number = last.0 in
      let is : with_node read.after Not ≡ Some (with_last_unheld (with_last before number)) =
      ap (λ other. with_node other Not) last.1.1
      ∙ cond-false (2 ^ number == 0) None (Some (with_last_unheld (with_last before number))) (pow-some number) in
      record {
        after = with_last_unheld (with_last before number);
        left = ap (λ other. with_nodes other rest) (sym is) ∙ read.left;
        means = λ letter. subst (λ (tree : LabelTree). AreMet (with_last_unheld (with_last before number)) letter
            ↔ (AreMet before letter × (not (truth letter tree) ≡ true))) (sym last.1.0) (met-unheld before number letter);
        settled = inr refl;
      }
  | inr none ↦
      let is : with_node read.after Not ≡ None =
      cond-true (read.after.last == 0) None (Some (with_last_unheld read.after)) (eq-eqb read.after.last 0 none) in
      absurd (none-left rest end (ap (λ other. with_nodes other rest) (sym is) ∙ read.left))
]

-- two parts that were read, and then `&`
read-and : (before : ReadLiterals) (left right : LabelTree) (middle rest : List LabelNode) (end : ReadLiterals)
    → (first : IsRead before left middle end) → IsRead first.after right (And ∷ rest) end → IsRead before (conjunction left right) rest end
read-and before left right middle rest end first second = record {
  after = with_last_held second.after;
  left = second.left;
  means = λ letter. (
    λ met.
        let both = (second.means letter).0 ((met-held second.after letter).0 met) in
        let one = (first.means letter).0 both.0 in
        (one.0, true-both (truth letter left) (truth letter right) one.1 both.1),
    λ met.
        let truths = both-true (truth letter left) (truth letter right) met.1 in
        (met-held second.after letter).1 ((second.means letter).1 ((first.means letter).1 (met.0, truths.0), truths.1)),
  );
  settled = inr refl;
}

read-label : (tree : LabelTree) (before : ReadLiterals) (rest : List LabelNode) (end : ReadLiterals)
    → with_nodes (Some before) (postfix tree ++ rest) ≡ Some end → IsRead before tree rest end
read-label (constant true) before rest end is = record {
  after = with_last_held before;
  left = is;
  means = λ letter. (λ met. ((met-held before letter).0 met, refl), λ both. (met-held before letter).1 both.0);
  settled = inr refl;
}
read-label (constant false) before rest end is = absurd (none-left rest end is)
read-label (proposition number) before rest end is = elim (cases_Bool (ltb number 64)) [
  | inl low ↦
      let node = cond-true (ltb number 64) (Some (with_last before number)) None low in
      record {
        after = with_last before number;
        left = ap (λ other. with_nodes other rest) (sym node) ∙ is;
        means = λ letter. met-last before number letter;
        settled = inl (number, (refl, refl));
      }
  | inr high ↦
      let node = cond-false (ltb number 64) (Some (with_last before number)) None high in
      absurd (none-left rest end (ap (λ other. with_nodes other rest) (sym node) ∙ is))
]
read-label (negation part) before rest end is =
    read-not before part rest end
    (read-label part before (Not ∷ rest) end (ap (with_nodes (Some before)) (sym (append_assoc (postfix part) (Not ∷ []) rest)) ∙ is))
read-label (conjunction left right) before rest end is =
    let first = read-label left before (postfix right ++ And ∷ rest) end
    (ap (with_nodes (Some before)) (sym (regrouped (postfix left) (postfix right) And rest)) ∙ is) in
    read-and before left right (postfix right ++ And ∷ rest) rest end first (read-label right first.after (And ∷ rest) end first.left)
read-label (disjunction left right) before rest end is =
    let first = read-label left before (postfix right ++ Or ∷ rest) end
    (ap (with_nodes (Some before)) (sym (regrouped (postfix left) (postfix right) Or rest)) ∙ is) in
    absurd (none-left rest end (read-label right first.after (Or ∷ rest) end first.left).left)

some-same : (one other : ReadLiterals) → Some one ≡ Some other → one ≡ other
some-same one other is = cc

-- what was read of all nodes of a label are its literals
pub literals-read : (tree : LabelTree) (nodes : List LabelNode) (read : ReadLiterals) (literals : Literals) → nodes ≡ postfix tree
    → with_nodes (Some no_literals) nodes ≡ Some read → literals.held ≡ bit_or read.held read.last → literals.unheld ≡ read.unheld
    → AreLiteralsOf tree literals
literals-read tree nodes read literals are is held unheld letter =
    let made = read-label tree no_literals [] read (ap (with_nodes (Some no_literals)) (append-nil (postfix tree) ∙ sym are) ∙ is) in
    let same : made.after ≡ read = some-same made.after read made.left in (
      λ t.
          let met = subst (λ (r : ReadLiterals). AreMet r letter) same ((made.means letter).1
          (record { held = all-none (λ p. letter p ≡ true); last = all-none (λ p. letter p ≡ true); unheld = all-none (λ p. letter p ≡ false) }, t)) in (
            subst (λ word. HoldAt word letter) (sym held) (all-both (λ p. letter p ≡ true) read.held read.last met.held met.last),
            subst (λ word. FailAt word letter) (sym unheld) met.unheld,
          ),
      λ both.
          let holds = subst (λ word. HoldAt word letter) held both.0 in
          ((made.means letter).0 (subst (λ (r : ReadLiterals). AreMet r letter) (sym same) (record {
            held = all-left (λ p. letter p ≡ true) read.held read.last holds;
            last = all-right (λ p. letter p ≡ true) read.held read.last holds;
            unheld = subst (λ word. FailAt word letter) unheld both.1;
          }))).1,
    )

-- ---- whether they can hold

-- the literals of two labels are those of both
pub literals-joined : (one another : LabelTree) (left right both : Literals) → AreLiteralsOf one left → AreLiteralsOf another right
    → both.held ≡ bit_or left.held right.held → both.unheld ≡ bit_or left.unheld right.unheld → AreLiteralsOf (conjunction one another) both
literals-joined one another left right both are are' held unheld letter = (
  λ t.
      let truths = both-true (truth letter one) (truth letter another) t in
      let first = (are letter).0 truths.0 in
      let second = (are' letter).0 truths.1 in (
        subst (λ word. HoldAt word letter) (sym held) (all-both (λ p. letter p ≡ true) left.held right.held first.0 second.0),
        subst (λ word. FailAt word letter) (sym unheld) (all-both (λ p. letter p ≡ false) left.unheld right.unheld first.1 second.1),
      ),
  λ all.
      let holds = subst (λ word. HoldAt word letter) held all.0 in
      let fails = subst (λ word. FailAt word letter) unheld all.1 in
      true-both (truth letter one) (truth letter another)
      ((are letter).1 (all-left (λ p. letter p ≡ true) left.held right.held holds, all-left (λ p. letter p ≡ false) left.unheld right.unheld fails))
      ((are' letter).1 (all-right (λ p. letter p ≡ true) left.held right.held holds, all-right (λ p. letter p ≡ false) left.unheld right.unheld fails)),
)

-- no bit is set in both words, so that the first word is a letter
pub literals-hold : (tree : LabelTree) (literals : Literals) (clashes : ℕ) → AreLiteralsOf tree literals
    → clashes ≡ bit_and literals.held literals.unheld → clashes ≡ 0 → IsSatisfiable tree
literals-hold tree literals clashes are made none =
    let letter = valuation literals.held in (
      letter,
      (are letter).1 (
        λ p is. is,
        λ p is. elim (cases_Bool (letter p)) [
          | inl held ↦
              absurd (false≢true (sym (lane-off p) ∙ (ap (λ word. valuation word p) (sym none) ∙ (ap (λ word. valuation word p) made
              ∙ (on-and literals.held literals.unheld p ∙ true-both (letter p) (valuation literals.unheld p) held is)))))
          | inr fails ↦ fails
        ],
      ),
    )

-- a bit that is set in both shows that there is none
pub literals-clash : (tree : LabelTree) (literals : Literals) (clashes : ℕ) → AreLiteralsOf tree literals
    → clashes ≡ bit_and literals.held literals.unheld → clashes < 2 ^ 64 → (clashes ≡ 0 → ⊥) → IsSatisfiable tree → ⊥
literals-clash tree literals clashes are made within some satisfied =
    let lane = lane-on clashes some within in
    let set = both-true (valuation literals.held lane.0) (valuation literals.unheld lane.0)
    (sym (on-and literals.held literals.unheld lane.0) ∙ (ap (λ word. valuation word lane.0) (sym made) ∙ lane.1.1)) in
    let all = (are satisfied.0).0 satisfied.1 in
    false≢true (sym (all.1 lane.0 set.1) ∙ all.0 lane.0 set.0)

-- so the answer is whether none is set
pub literals-decided : (tree : LabelTree) (literals : Literals) (clashes : ℕ) → clashes ≡ bit_and literals.held literals.unheld → clashes < 2 ^ 64
    → AreLiteralsOf tree literals → IsTrue (clashes == 0) ↔ IsSatisfiable tree
literals-decided tree literals clashes made within are = (
  λ none. literals-hold tree literals clashes are made (eqb-true clashes 0 none),
  λ satisfied. elim (cases_Bool (clashes == 0)) [
    | inl none ↦ none
    | inr some ↦ absurd (literals-clash tree literals clashes are made within (λ e. false≢true (sym some ∙ eq-eqb clashes 0 e)) satisfied)
  ],
)
