-- The symbols of a formula lead to a state that is, once operators have taken their last operands, that formula.
use Rattle.std.proofs.Common.{◌≡◌, ℕ, ◌+◌, ◌<◌, ◌≤◌, ◌⊎◌, inl, inr, Bool, true, false, Some, None, List, []}
use Rattle.std.proofs.Common.{◌∷◌, refl, ap, sym, ◌∙◌, subst, arith, nat_le, if◌then◌else◌}
use Rattle.std.proofs.lemmas.Bool.{cases_order, le-leb, lt-leb}
use Rattle.omega_ltl_formula.specs.Formula.{FormulaTree, binary, constant as constant_tree, name as name_tree}
use Rattle.omega_ltl_formula.specs.declared.operators.BinaryOperator.{BinaryOperator}
use Rattle.omega_ltl_formula.specs.declared.operators.BinaryOperator.TheVariants.{And, Iff, Implies, Or}
use Rattle.omega_ltl_formula.specs.declared.operators.BinaryOperator.TheVariants.{Release, StrongRelease}
use Rattle.omega_ltl_formula.specs.declared.operators.BinaryOperator.TheVariants.{Until, WeakUntil, Xor}
use Rattle.omega_ltl_formula.specs.declared.operators.UnaryOperator.{UnaryOperator}
use Rattle.omega_ltl_text.specs.Grammar.{IsGrouped, RawFormula, bare, groups_right, least_left, least_right}
use Rattle.omega_ltl_text.specs.Grammar.{level, raw_binary, raw_constant, raw_group, raw_name, raw_symbols}
use Rattle.omega_ltl_text.specs.Grammar.{raw_unary, tightness}
use Rattle.omega_ltl_text.specs.Symbols.{FormulaSymbol, between, closing}
use Rattle.omega_ltl_text.specs.private.Reading.{Frame, ReadState, awaiting, closed_by, ended, infixed}
use Rattle.omega_ltl_text.specs.private.Reading.{initial, opened, prefixed, reading, reduced, run, step}
use Rattle.omega_ltl_text.specs.private.Reading.{whole}
use Rattle.omega_ltl_text.proofs.Runs.{run_on, run_push, run_step}

-- the numbers of an operator: its operands bind at least as tight as it does, and at most as parentheses
pub record Levels (op : BinaryOperator) : Type 0 where
  pub left : level op ≤ least_left op
  pub right : level op ≤ least_right op
  pub most : level op ≤ 4
  pub most_left : least_left op ≤ 5
  pub most_right : least_right op ≤ 5

pub levels : (op : BinaryOperator) → Levels op
levels Implies = record { left = omega arith; right = omega arith; most = omega arith; most_left = omega arith; most_right = omega arith }
levels Iff = record { left = omega arith; right = omega arith; most = omega arith; most_left = omega arith; most_right = omega arith }
levels Or = record { left = omega arith; right = omega arith; most = omega arith; most_left = omega arith; most_right = omega arith }
levels Xor = record { left = omega arith; right = omega arith; most = omega arith; most_left = omega arith; most_right = omega arith }
levels And = record { left = omega arith; right = omega arith; most = omega arith; most_left = omega arith; most_right = omega arith }
levels Until = record { left = omega arith; right = omega arith; most = omega arith; most_left = omega arith; most_right = omega arith }
levels Release = record { left = omega arith; right = omega arith; most = omega arith; most_left = omega arith; most_right = omega arith }
levels WeakUntil = record { left = omega arith; right = omega arith; most = omega arith; most_left = omega arith; most_right = omega arith }
levels StrongRelease = record { left = omega arith; right = omega arith; most = omega arith; most_left = omega arith; most_right = omega arith }

-- to which side operators of a level group
side : ℕ → Bool
side n = if nat_le n 0 then true else (if nat_le n 3 then false else true)

sides : (op : BinaryOperator) → side (level op) ≡ groups_right op
unfolding side
sides Implies = refl
sides Iff = refl
sides Or = refl
sides Xor = refl
sides And = refl
sides Until = refl
sides Release = refl
sides WeakUntil = refl
sides StrongRelease = refl

-- operators of one level group to one side
same_side : (one other : BinaryOperator) → level one ≡ level other → groups_right one ≡ groups_right other
same_side one other same = sym (sides one) ∙ (ap side same ∙ sides other)

-- an operator that stands in the right operand of another does not take that one's left operand, and the reverse
pub stays_or_takes : (outer inner : BinaryOperator) → least_right outer ≤ level inner → level outer < least_left inner
stays_or_takes outer inner tight = go (cases_order (level outer) (level inner))
  where
    same : (b : Bool) → groups_right outer ≡ b → groups_right inner ≡ b → level outer ≡ level inner
        → (if groups_right outer then level outer else level outer + 1) ≤ level inner → level outer < (if groups_right inner then level inner + 1 else level inner)
    same true first second e within =
        subst (λ (b : Bool). level outer < (if b then level inner + 1 else level inner)) (sym second) (omega (arith, e))
    same false first second e within =
        let over : level outer + 1 ≤ level inner = subst (λ (b : Bool). (if b then level outer else level outer + 1) ≤ level inner) first within in
        absurd (omega (arith, e, over))

    go : (level outer ≡ level inner) ⊎ ((level outer < level inner) ⊎ (level inner < level outer)) → level outer < least_left inner
    go (inl e) = same (groups_right inner) (same_side outer inner e) refl e tight
    go (inr (inl below)) = let more = (levels inner).left in omega (arith, below, more)
    go (inr (inr above)) = let less = (levels outer).right in absurd (omega (arith, above, less, tight))

pub takes_or_stays : (outer inner : BinaryOperator) → level outer < least_left inner → least_right outer ≤ level inner
takes_or_stays outer inner below = go (cases_order (level outer) (level inner))
  where
    same : (b : Bool) → groups_right outer ≡ b → groups_right inner ≡ b → level outer ≡ level inner
        → level outer < (if groups_right inner then level inner + 1 else level inner) → (if groups_right outer then level outer else level outer + 1) ≤ level inner
    same true first second e within =
        subst (λ (b : Bool). (if b then level outer else level outer + 1) ≤ level inner) (sym first) (omega (arith, e))
    same false first second e within =
        let over : level outer < level inner = subst (λ (b : Bool). level outer < (if b then level inner + 1 else level inner)) second within in
        absurd (omega (arith, e, over))

    up : (b : Bool) → level outer < level inner → (if b then level outer else level outer + 1) ≤ level inner
    up true less = omega (arith, less)
    up false less = omega (arith, less)

    down : (b : Bool) → level inner < level outer → level outer < (if b then level inner + 1 else level inner) → ⊥
    down true more within = omega (arith, more, within)
    down false more within = omega (arith, more, within)

    go : (level outer ≡ level inner) ⊎ ((level outer < level inner) ⊎ (level inner < level outer)) → least_right outer ≤ level inner
    go (inl e) = same (groups_right inner) (same_side outer inner e) refl e below
    go (inr (inl less)) = up (groups_right outer) less
    go (inr (inr more)) = absurd (down (groups_right inner) more below)

-- what waits last takes an operand that binds so tight
abbrev pub Admits : List Frame → ℕ → Type 0
Admits [] tight = Unit {0}
Admits (opened ∷ frames) tight = Unit {0}
Admits (prefixed op ∷ frames) tight = 5 ≤ tight
Admits (infixed left op ∷ frames) tight = least_right op ≤ tight

pub admits_more : (frames : List Frame) (tight more : ℕ) → tight ≤ more → Admits frames tight → Admits frames more
admits_more [] tight more wider is = tt
admits_more (opened ∷ frames) tight more wider is = tt
admits_more (prefixed op ∷ frames) tight more wider is = omega (arith, wider, is)
admits_more (infixed left op ∷ frames) tight more wider is = omega (arith, wider, is)

-- an operator that may stand there does not take what waits
pub stays : (frames : List Frame) (op : BinaryOperator) (tree : FormulaTree) → Admits frames (level op) → reduced (least_left op) frames tree ≡ (frames, tree)
stays [] op tree is = refl
stays (opened ∷ frames) op tree is = refl
stays (prefixed outer ∷ frames) op tree is = let most = (levels op).most in absurd (omega (arith, is, most))
stays (infixed left outer ∷ frames) op tree is =
    ap (λ (b : Bool). if b then reduced (least_left op) frames (binary outer left tree) else (infixed left outer ∷ frames, tree))
    (lt-leb (least_left op) (level outer) (stays_or_takes outer op is))

-- what waits last takes an operand before an operator that is loose enough
takes : (least : ℕ) (frames : List Frame) (left tree : FormulaTree) (op : BinaryOperator) → least ≤ level op
    → reduced least (infixed left op ∷ frames) tree ≡ reduced least frames (binary op left tree)
takes least frames left tree op within =
    ap (λ (b : Bool). if b then reduced least frames (binary op left tree) else (infixed left op ∷ frames, tree)) (le-leb least (level op) within)

-- a state that the symbols of a formula lead to: it is the formula, as soon as a loose symbol follows
pub record IsAbsorbed (frames : List Frame) (raw : RawFormula) : Type 0 where
  pub waiting : List Frame
  pub tree : FormulaTree
  pub runs : run (reading frames None) (raw_symbols raw) ≡ Some (reading waiting (Some tree))
  pub taken : (least : ℕ) → least ≤ tightness raw → reduced least waiting tree ≡ reduced least frames (bare raw)

-- an operator of one operand leads there
absorbed_unary : (frames : List Frame) (op : UnaryOperator) (part : RawFormula) → 5 ≤ tightness part → IsAbsorbed (prefixed op ∷ frames) part
    → IsAbsorbed frames (raw_unary op part)
absorbed_unary frames op part tight inner = record {
  waiting = inner.waiting;
  tree = inner.tree;
  runs = inner.runs;
  taken = λ least within. inner.taken least (omega (arith, within, tight));
}

-- so do parentheses
absorbed_group : (frames : List Frame) (part : RawFormula) → IsAbsorbed (opened ∷ frames) part → IsAbsorbed frames (raw_group part)
absorbed_group frames part inner = record {
  waiting = frames;
  tree = bare part;
  runs = run_push (reading (opened ∷ frames) None) (reading inner.waiting (Some inner.tree)) (raw_symbols part) closing inner.runs
      ∙ ap closed_by (inner.taken 0 (omega arith));
  taken = λ least within. refl;
}

-- and an operator of two operands
absorbed_binary : (frames : List Frame) (op : BinaryOperator) (left right : RawFormula) → Admits frames (level op)
    → least_left op ≤ tightness left → least_right op ≤ tightness right → IsAbsorbed frames left → IsAbsorbed (infixed (bare left) op ∷ frames) right
    → IsAbsorbed frames (raw_binary op left right)
absorbed_binary frames op left right admitted tight_left tight_right first second =
    let done : step (reading first.waiting (Some first.tree)) (between op) ≡ Some (reading (infixed (bare left) op ∷ frames) None) =
    ap (λ (both : List Frame × FormulaTree). Some (awaiting op both)) (first.taken (least_left op) tight_left ∙ stays frames op (bare left) admitted) in
    record {
      waiting = second.waiting;
      tree = second.tree;
      runs = run_on (reading frames None) (reading first.waiting (Some first.tree)) (raw_symbols left) (between op ∷ raw_symbols right) first.runs
          ∙ run_step (reading first.waiting (Some first.tree)) (reading (infixed (bare left) op ∷ frames) None) (between op) (raw_symbols right) done
          ∙ second.runs;
      taken = λ least within. let more = (levels op).right in
          second.taken least (omega (arith, within, more, tight_right)) ∙ takes least frames (bare left) (bare right) op within;
    }

pub absorbs : (raw : RawFormula) (frames : List Frame) → IsGrouped raw → Admits frames (tightness raw) → IsAbsorbed frames raw
absorbs (raw_constant value) frames grouped admitted = record { waiting = frames; tree = constant_tree value; runs = refl; taken = λ least within. refl }
absorbs (raw_name bytes) frames grouped admitted = record { waiting = frames; tree = name_tree bytes; runs = refl; taken = λ least within. refl }
absorbs (raw_unary op part) frames grouped admitted =
    absorbed_unary frames op part grouped.1 (absorbs part (prefixed op ∷ frames) grouped.0 grouped.1)
absorbs (raw_group part) frames grouped admitted = absorbed_group frames part (absorbs part (opened ∷ frames) grouped tt)
absorbs (raw_binary op left right) frames grouped admitted =
    absorbed_binary frames op left right admitted grouped.2 grouped.3
    (absorbs left frames grouped.0 (admits_more frames (level op) (tightness left) (let more = (levels op).left in omega (arith, more, grouped.2)) admitted))
    (absorbs right (infixed (bare left) op ∷ frames) grouped.1 grouped.3)

-- the symbols of a formula are run, to that formula
pub record IsRun (symbols : List FormulaSymbol) (tree : FormulaTree) : Type 0 where
  pub state : ReadState
  pub runs : run initial symbols ≡ Some state
  pub ends : ended state ≡ Some tree

pub raw_run : (raw : RawFormula) → IsGrouped raw → IsRun (raw_symbols raw) (bare raw)
raw_run raw grouped =
    let whole_one = absorbs raw [] grouped tt in
    record {
      state = reading whole_one.waiting (Some whole_one.tree);
      runs = whole_one.runs;
      ends = ap whole (whole_one.taken 0 (omega arith));
    }
