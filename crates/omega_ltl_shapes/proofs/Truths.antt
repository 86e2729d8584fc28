-- What is met unfolds by its shape, and by the limited principle of omniscience each demand has truth values.
use Rattle.std.proofs.Common.{◌≡◌, ◌⊎◌, inl, inr, ◌<◌, ◌≤◌, ◌+◌, ◌*◌, ◌/◌, ◌↔◌, ℕ, Bool, true, false, not, List, length, refl, sym, subst, arith}
use Rattle.std.specs.Prelude.{IsTrue, ◌&&◌, nat_lt}
use Rattle.std.proofs.lemmas.Bool.{and_from, and_parts, false≢true, lt-ltb, ltb-true}
use Rattle.omega_text.specs.NamedWords.{NamedWord}
use Rattle.omega_text.specs.Omniscience.{LimitedPrincipleOfOmniscience}
use Rattle.omega_ltl_formula.specs.Formula.{FormulaTree, unary as unary_tree}
use Rattle.omega_ltl_formula.specs.Laws.{DualsHold, FormulasAreDecided, OperatorsUnfold}
use Rattle.omega_ltl_formula.specs.Meaning.{Holds}
use Rattle.omega_ltl_formula.specs.Table.{FormulaTable, IsFormula, IsTable, NumberedFormula, NodesAreOverNodes, node_at, tree_at, tree_over}
use Rattle.omega_ltl_formula.specs.declared.node.FormulaNode.{FormulaNode}
use Rattle.omega_ltl_formula.specs.declared.node.FormulaNode.TheVariants as node
use Rattle.omega_ltl_formula.specs.declared.operators.BinaryOperator.{BinaryOperator}
use Rattle.omega_ltl_formula.specs.declared.operators.BinaryOperator.TheVariants.{And, Iff, Implies, Or, Release, StrongRelease, Until, WeakUntil, Xor}
use Rattle.omega_ltl_formula.specs.declared.operators.UnaryOperator.{UnaryOperator}
use Rattle.omega_ltl_formula.specs.declared.operators.UnaryOperator.TheVariants as unary
use Rattle.omega_ltl_shapes.specs.Combinations.{SpeaksBelow}
use Rattle.omega_ltl_shapes.specs.Demands.{IsLiteralTrue, IsMet, IsTrueAt, SaysAt, Signed, Truth, Unfolds, Valuation, seen_of}
use Rattle.omega_ltl_shapes.specs.Laws.{AreTruthsOf, TruthsFollowShapes}
use Rattle.omega_ltl_shapes.specs.Shapes.{AreShapesOf, IsShapeBelow, demand, is_negated, node_shape, shape_at, shape_of}
use Rattle.omega_ltl_shapes.specs.declared.combination.Combination.{Combination}
use Rattle.omega_ltl_shapes.specs.declared.shape.Shape.{Shape}
use Rattle.omega_ltl_shapes.specs.declared.shape.Shape.TheVariants.{Fix, Next, Now}
use Rattle.omega_ltl_shapes.proofs.Combining.{says_more}
use Rattle.omega_ltl_shapes.proofs.Grounded.{shapes_below}
use Rattle.omega_ltl_shapes.proofs.Showing.{unmet}

-- a fact that holds or does not
abbrev Decided : Type 0 → Type 0
Decided A = A ⊎ (A → ⊥)

not_true : (b : Bool) → (IsTrue b → ⊥) → IsTrue (not b)
not_true true h = absurd (h refl)
not_true false h = refl

module _ (omniscience : LimitedPrincipleOfOmniscience) (laws : (f g : FormulaTree) → OperatorsUnfold f g) (duals : (f g : FormulaTree) → DualsHold f g)
    (table : FormulaTable) (word : NamedWord) (decide : (a i : ℕ) → Decided (Holds (tree_at table a) word i)) where
  -- the formula of a node, and where it holds
  abbrev tree : ℕ → FormulaTree
  tree a = tree_at table a

  abbrev fails : ℕ → FormulaTree
  fails a = unary_tree unary.Not (tree_at table a)

  abbrev At : ℕ → ℕ → Type 0
  At a i = Holds (tree_at table a) word i

  pos : (a i : ℕ) → At a i → IsMet table word (demand a false) i
  pos a i h = unmet table word a false i h

  neg : (a i : ℕ) → (At a i → ⊥) → IsMet table word (demand a true) i
  neg a i h = unmet table word a true i h

  -- how the demand of a node unfolds, if `d` is that demand
  abbrev Unfolded : ℕ → ℕ → Bool → FormulaNode → Type 0
  Unfolded d i negated n =
      (Signed negated (Holds (tree_over table.names (tree_at table) n) word (i + 1)) → IsMet table word d (i + 1))
      → Signed negated (Holds (tree_over table.names (tree_at table) n) word i)
      → Unfolds (seen_of table.names word) (IsMet table word) d i (node_shape n negated)

  constant_unfolds : (d i : ℕ) (value negated : Bool) → Unfolded d i negated (node.Constant value)
  constant_unfolds d i value false self h = h
  constant_unfolds d i value true self h = not_true value h

  name_unfolds : (d i name : ℕ) (negated : Bool) → Unfolded d i negated (node.Name name)
  name_unfolds d i name false self h = h
  name_unfolds d i name true self h = not_true (seen_of table.names word i name) h

  unary_unfolds : (d i : ℕ) (op : UnaryOperator) (a : ℕ) (negated : Bool) → Unfolded d i negated (node.Unary op a)
  unary_unfolds d i unary.Not a false self h = neg a i h
  unary_unfolds d i unary.Not a true self h = elim (decide a i) [ inl sure ↦ pos a i sure | inr never ↦ absurd (h never) ]
  unary_unfolds d i unary.Next a false self h = pos a (i + 1) h
  unary_unfolds d i unary.Next a true self h = neg a (i + 1) h
  unary_unfolds d i unary.Finally a false self h = (
    elim (((laws (tree a) (tree a)).finally word i).0 h) [ inl now ↦ inl (pos a i now) | inr next ↦ inr (refl, self next) ],
    λ must. (h.0, h.1, pos a h.0 h.2),
  )
  unary_unfolds d i unary.Finally a true self h =
      let split = ((laws (fails a) (fails a)).globally word i).0 (((duals (tree a) (tree a)).finally word i).0 h) in
      (inr (neg a i split.0, self (((duals (tree a) (tree a)).finally word (i + 1)).1 split.1)), λ must. absurd (false≢true must))
  unary_unfolds d i unary.Globally a false self h =
      let split = ((laws (tree a) (tree a)).globally word i).0 h in
      (inr (pos a i split.0, self split.1), λ must. absurd (false≢true must))
  unary_unfolds d i unary.Globally a true self h =
      let come = ((duals (tree a) (tree a)).globally omniscience word i).0 h in (
        elim (((laws (fails a) (fails a)).finally word i).0 come) [
          | inl now ↦ inl (neg a i now)
          | inr next ↦ inr (refl, self (((duals (tree a) (tree a)).globally omniscience word (i + 1)).1 next))
        ],
        λ must. (come.0, come.1, neg a come.0 come.2),
      )

  binary_unfolds : (d i : ℕ) (op : BinaryOperator) (a b : ℕ) (negated : Bool) → Unfolded d i negated (node.Binary op a b)
  binary_unfolds d i And a b false self h = (pos a i h.0, pos b i h.1)
  binary_unfolds d i And a b true self h = elim (decide a i) [
    | inl sure ↦ inr (neg b i (λ y. h (sure, y)))
    | inr never ↦ inl (neg a i never)
  ]
  binary_unfolds d i Or a b false self h = elim h [ inl x ↦ inl (pos a i x) | inr y ↦ inr (pos b i y) ]
  binary_unfolds d i Or a b true self h = (neg a i (λ x. h (inl x)), neg b i (λ y. h (inr y)))
  binary_unfolds d i Implies a b false self h = elim (decide a i) [ inl sure ↦ inr (pos b i (h sure)) | inr never ↦ inl (neg a i never) ]
  binary_unfolds d i Implies a b true self h = elim (decide a i) [
    | inl sure ↦ (pos a i sure, neg b i (λ y. h (λ x. y)))
    | inr never ↦ absurd (h (λ x. absurd (never x)))
  ]
  binary_unfolds d i Iff a b false self h = elim (decide a i) [
    | inl sure ↦ inl (pos a i sure, pos b i (h.0 sure))
    | inr never ↦ inr (neg a i never, neg b i (λ y. never (h.1 y)))
  ]
  binary_unfolds d i Iff a b true self h = elim (decide a i) [
    | inl sure ↦ inl (pos a i sure, neg b i (λ y. h (λ x. y, λ z. sure)))
    | inr never ↦ inr (neg a i never, elim (decide b i) [ inl y ↦ pos b i y | inr none ↦ absurd (h (λ x. absurd (never x), λ y. absurd (none y))) ])
  ]
  binary_unfolds d i Xor a b false self h = elim h [
    | inl s ↦ inl (pos a i s.0, neg b i s.1)
    | inr s ↦ inr (neg a i s.0, pos b i s.1)
  ]
  binary_unfolds d i Xor a b true self h = elim (decide a i) [
    | inl sure ↦ inl (pos a i sure, elim (decide b i) [ inl y ↦ pos b i y | inr none ↦ absurd (h (inl (sure, none))) ])
    | inr never ↦ inr (neg a i never, neg b i (λ y. h (inr (never, y))))
  ]
  binary_unfolds d i Until a b false self h = (
    elim (((laws (tree a) (tree b)).until word i).0 h) [ inl now ↦ inl (pos b i now) | inr next ↦ inr (pos a i next.0, self next.1) ],
    λ must. (h.0, h.1, pos b h.0 h.2),
  )
  binary_unfolds d i Until a b true self h =
      let split = ((laws (fails a) (fails b)).release omniscience word i).0 (((duals (tree a) (tree b)).until omniscience word i).0 h) in (
        elim split.1 [
          | inl now ↦ inl (neg a i now, neg b i split.0)
          | inr next ↦ inr (neg b i split.0, self (((duals (tree a) (tree b)).until omniscience word (i + 1)).1 next))
        ],
        λ must. absurd (false≢true must),
      )
  binary_unfolds d i WeakUntil a b false self h = (
    elim (((laws (tree a) (tree b)).weak_until omniscience word i).0 h) [ inl now ↦ inl (pos b i now) | inr next ↦ inr (pos a i next.0, self next.1) ],
    λ must. absurd (false≢true must),
  )
  binary_unfolds d i WeakUntil a b true self h =
      let come = ((duals (tree a) (tree b)).weak_until omniscience word i).0 h in
      let split = ((laws (fails a) (fails b)).strong_release word i).0 come in (
        elim split.1 [
          | inl now ↦ inl (neg a i now, neg b i split.0)
          | inr next ↦ inr (neg b i split.0, self (((duals (tree a) (tree b)).weak_until omniscience word (i + 1)).1 next))
        ],
        λ must. (come.0, come.1, (neg a come.0 come.2, neg b come.0 (come.3 come.0 come.1 (omega arith)))),
      )
  binary_unfolds d i Release a b false self h =
      let split = ((laws (tree a) (tree b)).release omniscience word i).0 h in (
        elim split.1 [ inl now ↦ inl (pos a i now, pos b i split.0) | inr next ↦ inr (pos b i split.0, self next) ],
        λ must. absurd (false≢true must),
      )
  binary_unfolds d i Release a b true self h =
      let come = ((duals (tree a) (tree b)).release omniscience word i).0 h in (
        elim (((laws (fails a) (fails b)).until word i).0 come) [
          | inl now ↦ inl (neg b i now)
          | inr next ↦ inr (neg a i next.0, self (((duals (tree a) (tree b)).release omniscience word (i + 1)).1 next.1))
        ],
        λ must. (come.0, come.1, neg b come.0 come.2),
      )
  binary_unfolds d i StrongRelease a b false self h =
      let split = ((laws (tree a) (tree b)).strong_release word i).0 h in (
        elim split.1 [ inl now ↦ inl (pos a i now, pos b i split.0) | inr next ↦ inr (pos b i split.0, self next) ],
        λ must. (h.0, h.1, (pos a h.0 h.2, pos b h.0 (h.3 h.0 h.1 (omega arith)))),
      )
  binary_unfolds d i StrongRelease a b true self h =
      let stay = ((duals (tree a) (tree b)).strong_release omniscience word i).0 h in (
        elim (((laws (fails a) (fails b)).weak_until omniscience word i).0 stay) [
          | inl now ↦ inl (neg b i now)
          | inr next ↦ inr (neg a i next.0, self (((duals (tree a) (tree b)).strong_release omniscience word (i + 1)).1 next.1))
        ],
        λ must. absurd (false≢true must),
      )

  node_unfolds : (d i : ℕ) (n : FormulaNode) (negated : Bool) → Unfolded d i negated n
  node_unfolds d i (node.Constant value) negated self h = constant_unfolds d i value negated self h
  node_unfolds d i (node.Name name) negated self h = name_unfolds d i name negated self h
  node_unfolds d i (node.Unary op a) negated self h = unary_unfolds d i op a negated self h
  node_unfolds d i (node.Binary op a b) negated self h = binary_unfolds d i op a b negated self h

  pub met_unfolds : NodesAreOverNodes → IsTable table → (d i : ℕ) → d < 2 * length table.nodes → IsMet table word d i
      → Unfolds (seen_of table.names word) (IsMet table word) d i (shape_of table.nodes d)
  met_unfolds over is d i below h =
      let same : tree_at table (d / 2) ≡ tree_over table.names (tree_at table) (node_at table.nodes (d / 2)) = over table (d / 2) is (omega arith) in
      node_unfolds d i (node_at table.nodes (d / 2)) (is_negated d)
      (subst (λ (f : FormulaTree). Signed (is_negated d) (Holds f word (i + 1))) (sym same))
      (subst (λ (f : FormulaTree). Signed (is_negated d) (Holds f word i)) same h)

-- what unfolds in one meaning of demands unfolds in another that says more of smaller ones
unfolds_more : (held : ℕ → ℕ → Bool) (P Q : ℕ → ℕ → Type 0) (d i : ℕ) (shape : Shape) → IsShapeBelow d shape
    → ((e j : ℕ) → e ≤ d → P e j → Q e j) → Unfolds held P d i shape → Unfolds held Q d i shape
unfolds_more held P Q d i (Now c) below more u =
    says_more (IsLiteralTrue (held i)) (IsLiteralTrue (held i)) (λ e. P e i) (λ e. Q e i) d c below (λ name negated h. h) (λ e under h. more e i (omega arith) h) u
unfolds_more held P Q d i (Next e) below more u = more e (i + 1) (omega arith) u
unfolds_more held P Q d i (Fix goal keep strong) below more u = (fix u.0, λ must. let come = u.1 must in (come.0, come.1, said come.0 goal below.0 come.2))
  where
    said : (k : ℕ) (c : Combination) → SpeaksBelow d c → SaysAt held P k c → SaysAt held Q k c
    said k c under s = says_more (IsLiteralTrue (held k)) (IsLiteralTrue (held k)) (λ e. P e k) (λ e. Q e k) d c under (λ name negated h. h) (λ e less h. more e k (omega arith) h) s

    fix : SaysAt held P i goal ⊎ (SaysAt held P i keep × P d (i + 1)) → SaysAt held Q i goal ⊎ (SaysAt held Q i keep × Q d (i + 1))
    fix (inl s) = inl (said i goal below.0 s)
    fix (inr s) = inr (said i keep below.1 s.0, more d (i + 1) (omega arith) s.1)

-- a truth value with a sign
abbrev signed : Bool → Bool → Bool
signed false b = b
signed true b = not b

signed_says : (negated : Bool) {A : Type 0} (b : Bool) → A ↔ IsTrue b → Signed negated A ↔ IsTrue (signed negated b)
signed_says false b e = e
signed_says true true e = (λ never. absurd (never (e.1 refl)), λ h. absurd (false≢true h))
signed_says true false e = (λ never. refl, λ h a. false≢true (e.0 a))

decided_by : {A : Type 0} (b : Bool) → A ↔ IsTrue b → Decided A
decided_by true e = inl (e.1 refl)
decided_by false e = inr (λ a. false≢true (e.0 a))

-- the truth values by those of formulas; demands beyond a table are false
abbrev truth_by : (ℕ → ℕ → Bool) → ℕ → Truth
truth_by test count d i = signed (is_negated d) (test (d / 2) i) && nat_lt d count

module _ (over : NodesAreOverNodes) (decided : FormulasAreDecided) (laws : (f g : FormulaTree) → OperatorsUnfold f g) (duals : (f g : FormulaTree) → DualsHold f g)
    (omniscience : LimitedPrincipleOfOmniscience) (formula : NumberedFormula) (word : NamedWord) (shapes : List Shape) (is : IsFormula formula)
    (are : AreShapesOf formula.table.nodes shapes) where
  -- whether a node holds
  abbrev test : ℕ → ℕ → Bool
  test a = (decided omniscience (tree_at formula.table a) word).0

  tested : (a i : ℕ) → Holds (tree_at formula.table a) word i ↔ IsTrue (test a i)
  tested a i = (decided omniscience (tree_at formula.table a) word).1 i

  abbrev truth : Truth
  truth = truth_by test (length shapes)

  signs : (d i : ℕ) → IsMet formula.table word d i ↔ IsTrue (signed (is_negated d) (test (d / 2) i))
  signs d i = signed_says (is_negated d) (test (d / 2) i) (tested (d / 2) i)

  exact : (d i : ℕ) → d < length shapes → IsMet formula.table word d i ↔ IsTrue (truth d i)
  exact d i below = (
    λ h. and_from (signed (is_negated d) (test (d / 2) i)) (nat_lt d (length shapes)) ((signs d i).0 h) (lt-ltb d (length shapes) below),
    λ h. (signs d i).1 (and_parts (signed (is_negated d) (test (d / 2) i)) (nat_lt d (length shapes)) h).0,
  )

  unfolded : (d i : ℕ) → IsTrue (truth d i) → Unfolds (seen_of formula.table.names word) (IsTrueAt truth) d i (shape_at shapes d)
  unfolded d i h =
      let parts : IsTrue (signed (is_negated d) (test (d / 2) i)) × IsTrue (nat_lt d (length shapes)) = and_parts (signed (is_negated d) (test (d / 2) i)) (nat_lt d (length shapes)) h in
      let below : d < length shapes = ltb-true d (length shapes) parts.1 in
      let count : length shapes ≡ 2 * length formula.table.nodes = are.count in
      unfolds_more (seen_of formula.table.names word) (IsMet formula.table word) (IsTrueAt truth) d i (shape_at shapes d)
      (shapes_below formula.table shapes is.table is.few_names are d)
      (λ e j less m. (exact e j (omega arith)).0 m)
      (subst (Unfolds (seen_of formula.table.names word) (IsMet formula.table word) d i) (sym (are.each d below))
      (met_unfolds omniscience laws duals formula.table word (λ a k. decided_by (test a k) (tested a k)) over is.table d i (omega arith) ((signs d i).1 parts.0)))

  pub truths : (v : Valuation shapes) × AreTruthsOf formula.table word shapes v
  truths = (
    record { held = seen_of formula.table.names word; truth = truth; unfolds = unfolded },
    record { held = refl; truth = exact },
  )

pub truths_follow : NodesAreOverNodes → FormulasAreDecided → ((f g : FormulaTree) → OperatorsUnfold f g) → ((f g : FormulaTree) → DualsHold f g) → TruthsFollowShapes
truths_follow over decided laws duals omniscience formula word shapes is are = truths over decided laws duals omniscience formula word shapes is are
