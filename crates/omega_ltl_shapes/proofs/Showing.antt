-- What the shape of a demand shows is what the demand says.
use Rattle.std.proofs.Common.{inl, inr, ◌+◌, ◌/◌, ℕ, Bool, true, false, not, sym, subst, arith}
use Rattle.std.specs.Prelude.{IsTrue}
use Rattle.std.proofs.lemmas.Bool.{false≢true}
use Rattle.omega_text.specs.NamedWords.{NamedWord}
use Rattle.omega_ltl_formula.specs.Formula.{FormulaTree}
use Rattle.omega_ltl_formula.specs.Meaning.{Holds}
use Rattle.omega_ltl_formula.specs.Table.{FormulaTable, NodesAreOverNodes, node_at, tree_at, tree_over}
use Rattle.omega_ltl_formula.specs.declared.node.FormulaNode.{FormulaNode}
use Rattle.omega_ltl_formula.specs.declared.node.FormulaNode.TheVariants as node
use Rattle.omega_ltl_formula.specs.declared.operators.BinaryOperator.{BinaryOperator}
use Rattle.omega_ltl_formula.specs.declared.operators.BinaryOperator.TheVariants.{And, Iff, Implies, Or, Release, StrongRelease, Until, WeakUntil, Xor}
use Rattle.omega_ltl_formula.specs.declared.operators.UnaryOperator.{UnaryOperator}
use Rattle.omega_ltl_formula.specs.declared.operators.UnaryOperator.TheVariants as unary
use Rattle.omega_ltl_shapes.specs.Demands.{IsMet, Shows, Signed, seen_of}
use Rattle.omega_ltl_shapes.specs.Laws.{DemandsAreShown}
use Rattle.omega_ltl_shapes.specs.Shapes.{demand, is_negated, node_shape}
use Rattle.omega_ltl_shapes.proofs.Numbering.{demand_node, demand_sign, first_or_later}

not_both : (b : Bool) → IsTrue (not b) → IsTrue b → ⊥
not_both true h k = false≢true h
not_both false h k = false≢true k

module _ (table : FormulaTable) (word : NamedWord) where
  -- a node holds
  abbrev At : ℕ → ℕ → Type 0
  At a i = Holds (tree_at table a) word i

  pub met : (a : ℕ) (negated : Bool) (i : ℕ) → IsMet table word (demand a negated) i → Signed negated (At a i)
  met a negated i h = subst (λ (s : Bool). Signed s (At a i)) (demand_sign a negated)
      (subst (λ (n : ℕ). Signed (is_negated (demand a negated)) (At n i)) (demand_node a negated) h)

  pub unmet : (a : ℕ) (negated : Bool) (i : ℕ) → Signed negated (At a i) → IsMet table word (demand a negated) i
  unmet a negated i h = subst (λ (n : ℕ). Signed (is_negated (demand a negated)) (At n i)) (sym (demand_node a negated))
      (subst (λ (s : Bool). Signed s (At a i)) (sym (demand_sign a negated)) h)

  abbrev Shown : ℕ → Bool → FormulaNode → Type 0
  Shown i negated n = Shows (seen_of table.names word) (IsMet table word) i (node_shape n negated)
      → Signed negated (Holds (tree_over table.names (tree_at table) n) word i)

  constant_shown : (i : ℕ) (value negated : Bool) → Shown i negated (node.Constant value)
  constant_shown i value false s = s
  constant_shown i value true s = not_both value s

  name_shown : (i name : ℕ) (negated : Bool) → Shown i negated (node.Name name)
  name_shown i name false s = s
  name_shown i name true s = not_both (seen_of table.names word i name) s

  unary_shown : (i : ℕ) (op : UnaryOperator) (a : ℕ) (negated : Bool) → Shown i negated (node.Unary op a)
  unary_shown i unary.Not a false s = met a true i s
  unary_shown i unary.Not a true s = λ h. h (met a false i s)
  unary_shown i unary.Next a false s = met a false (i + 1) s
  unary_shown i unary.Next a true s = met a true (i + 1) s
  unary_shown i unary.Finally a false s = (s.0, s.1, met a false s.0 s.2)
  unary_shown i unary.Finally a true s = λ h.
      elim (s h.0 h.1) [ inl kept ↦ met a true h.0 (kept h.0 h.1 (omega arith)) h.2 | inr come ↦ false≢true come.3 ]
  unary_shown i unary.Globally a false s = λ k after.
      elim (s k after) [ inl kept ↦ met a false k (kept k after (omega arith)) | inr come ↦ absurd (false≢true come.3) ]
  unary_shown i unary.Globally a true s = λ h. met a true s.0 s.2 (h s.0 s.1)

  binary_shown : (i : ℕ) (op : BinaryOperator) (a b : ℕ) (negated : Bool) → Shown i negated (node.Binary op a b)
  binary_shown i And a b false s = (met a false i s.0, met b false i s.1)
  binary_shown i And a b true (inl s) = λ h. met a true i s h.0
  binary_shown i And a b true (inr s) = λ h. met b true i s h.1
  binary_shown i Or a b false (inl s) = inl (met a false i s)
  binary_shown i Or a b false (inr s) = inr (met b false i s)
  binary_shown i Or a b true s = λ h. elim h [ inl x ↦ met a true i s.0 x | inr y ↦ met b true i s.1 y ]
  binary_shown i Implies a b false (inl s) = λ x. absurd (met a true i s x)
  binary_shown i Implies a b false (inr s) = λ x. met b false i s
  binary_shown i Implies a b true s = λ h. met b true i s.1 (h (met a false i s.0))
  binary_shown i Iff a b false (inl s) = (λ x. met b false i s.1, λ y. met a false i s.0)
  binary_shown i Iff a b false (inr s) = (λ x. absurd (met a true i s.0 x), λ y. absurd (met b true i s.1 y))
  binary_shown i Iff a b true (inl s) = λ h. met b true i s.1 (h.0 (met a false i s.0))
  binary_shown i Iff a b true (inr s) = λ h. met a true i s.0 (h.1 (met b false i s.1))
  binary_shown i Xor a b false (inl s) = inl (met a false i s.0, met b true i s.1)
  binary_shown i Xor a b false (inr s) = inr (met a true i s.0, met b false i s.1)
  binary_shown i Xor a b true (inl s) = λ h. elim h [ inl x ↦ x.1 (met b false i s.1) | inr y ↦ y.0 (met a false i s.0) ]
  binary_shown i Xor a b true (inr s) = λ h. elim h [ inl x ↦ met a true i s.0 x.0 | inr y ↦ met b true i s.1 y.1 ]
  binary_shown i Until a b false s = (s.0, s.1, met b false s.0 s.2, λ j from before. met a false j (s.3 j from before))
  binary_shown i Until a b true s = λ h. elim (s h.0 h.1) [
    | inl kept ↦ met b true h.0 (kept h.0 h.1 (omega arith)) h.2
    | inr come ↦ elim (first_or_later come.0 h.0 come.2) [
      | inl same ↦ met b true h.0 (subst (λ (j : ℕ). IsMet table word (demand b true) j) same come.3.1) h.2
      | inr before ↦ met a true come.0 come.3.0 (h.3 come.0 come.1 (omega arith))
    ]
  ]
  binary_shown i WeakUntil a b false s = λ k after. elim (s k after) [
    | inl kept ↦ inl (λ j from upto. met a false j (kept j from upto))
    | inr come ↦ inr (come.0, come.1, come.2, met b false come.0 come.3, λ m from before. met a false m (come.4 m from before))
  ]
  binary_shown i WeakUntil a b true s = λ h. elim (h s.0 s.1) [
    | inl kept ↦ met a true s.0 s.2.0 (kept s.0 s.1 (omega arith))
    | inr come ↦ elim (first_or_later come.0 s.0 come.2) [
      | inl same ↦ met b true s.0 s.2.1 (subst (At b) same come.3)
      | inr before ↦ met b true come.0 (s.3 come.0 come.1 (omega arith)) come.3
    ]
  ]
  binary_shown i Release a b false s = λ k after. elim (s k after) [
    | inl kept ↦ inl (met b false k (kept k after (omega arith)))
    | inr come ↦ elim (first_or_later come.0 k come.2) [
      | inl same ↦ inl (subst (At b) same (met b false come.0 come.3.1))
      | inr before ↦ inr (come.0, come.1, omega arith, met a false come.0 come.3.0)
    ]
  ]
  binary_shown i Release a b true s = λ h. elim (h s.0 s.1) [
    | inl holds ↦ met b true s.0 s.2 holds
    | inr come ↦ met a true come.0 (s.3 come.0 come.1 come.2) come.3
  ]
  binary_shown i StrongRelease a b false s = (
    s.0,
    s.1,
    met a false s.0 s.2.0,
    λ j from upto.
        elim (first_or_later j s.0 upto) [
          | inl same ↦ subst (At b) (sym same) (met b false s.0 s.2.1)
          | inr before ↦ met b false j (s.3 j from (omega arith))
        ],
  )
  binary_shown i StrongRelease a b true s = λ h. elim (s h.0 h.1) [
    | inl kept ↦ met a true h.0 (kept h.0 h.1 (omega arith)) h.2
    | inr come ↦ met b true come.0 come.3 (h.3 come.0 come.1 come.2)
  ]

  pub node_shown : (i : ℕ) (n : FormulaNode) (negated : Bool) → Shown i negated n
  node_shown i (node.Constant value) negated s = constant_shown i value negated s
  node_shown i (node.Name name) negated s = name_shown i name negated s
  node_shown i (node.Unary op a) negated s = unary_shown i op a negated s
  node_shown i (node.Binary op a b) negated s = binary_shown i op a b negated s

pub demands_shown : NodesAreOverNodes → DemandsAreShown
demands_shown over table word d i is below s =
    subst (λ (f : FormulaTree). Signed (is_negated d) (Holds f word i)) (sym (over table (d / 2) is (omega arith)))
    (node_shown table word i (node_at table.nodes (d / 2)) (is_negated d) s)
