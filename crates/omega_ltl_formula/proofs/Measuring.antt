-- Depths and sizes that are counted just past the limits.
use Rattle.std.proofs.Common.{◌≡◌, ◌⊎◌, inl, inr, ℕ, ◌+◌, ◌<◌, ◌≤◌, max, min, List, [], ◌∷◌, ◌++◌, length, get_or, refl, sym, ap, ap₂, ◌∙◌, subst, arith}
use Rattle.std.proofs.lemmas.Bool.{cases_lt}
use Rattle.std.proofs.lemmas.List.{get_or_append_left, get_or_push, length_push}
use Rattle.omega_ltl_formula.specs.Formula.{FormulaTree, formula_depth, formula_size}
use Rattle.omega_ltl_formula.specs.Limits.{most_formula_depth, most_formula_names, most_formula_nodes}
use Rattle.omega_ltl_formula.specs.Table.{FormulaTable, IsFormula, IsPlaced, IsTable, node_at, tree_at, tree_over}
use Rattle.omega_ltl_formula.specs.declared.measures.Measure.{Measure}
use Rattle.omega_ltl_formula.specs.declared.node.FormulaNode.{FormulaNode}
use Rattle.omega_ltl_formula.specs.declared.node.FormulaNode.TheVariants.{Binary, Constant, Name, Unary}
use Rattle.omega_ltl_formula.specs.private.Measures.{AreMeasures, counted, measure_at, measure_over, measured}
use Rattle.omega_ltl_formula.proofs.Tables.{over_nodes}

-- the measure of a node over those of its operands
measured_over : (names : List (List ℕ)) (operand : ℕ → FormulaTree) (measure : ℕ → Measure) (count before : ℕ) (node : FormulaNode)
    → IsPlaced count before node → ((k : ℕ) → k < before → measure k ≡ measured (operand k))
    → measure_over measure node ≡ measured (tree_over names operand node)
measured_over names operand measure count before (Constant value) placed same = refl
measured_over names operand measure count before (Name number) placed same = refl
measured_over names operand measure count before (Unary op part) placed same =
    ap (λ (m : Measure). counted (m.depth + 1) (m.size + 1)) (same part placed)
    ∙ ap₂ (λ (d s : ℕ). let m : Measure = record { depth = d; size = s } in m) (omega arith) (omega arith)
measured_over names operand measure count before (Binary op left right) placed same =
    ap₂ (λ (m n : Measure). counted (max m.depth n.depth + 1) (m.size + n.size + 1)) (same left placed.0) (same right placed.1)
    ∙ ap₂ (λ (d s : ℕ). let m : Measure = record { depth = d; size = s } in m) (omega arith) (omega arith)

-- one measure more
pub measures_more : (table : FormulaTable) (count : ℕ) (measures more : List Measure) (node : FormulaNode) → IsTable table
    → count < length table.nodes → AreMeasures table count measures → node ≡ node_at table.nodes count
    → more ≡ measures ++ measure_over (measure_at measures) node ∷ [] → AreMeasures table (count + 1) more
measures_more table count measures more node is within are node_is more_is = record {
  long = ap length more_is ∙ length_push measures (measure_over (measure_at measures) node) ∙ ap (λ n. n + 1) are.long;
  each = λ number below. ap (λ (l : List Measure). measure_at l number) more_is ∙ go number below (cases_lt number count);
}
  where
    own : Measure
    own = measure_over (measure_at measures) node

    over : own ≡ measured (tree_at table count)
    over = ap (measure_over (measure_at measures)) node_is
        ∙ measured_over table.names (tree_at table) (measure_at measures) (length table.names) count (node_at table.nodes count)
        (is.placed count within) are.each
        ∙ ap measured (sym (over_nodes table count is within))

    go : (number : ℕ) → number < count + 1 → (number < count) ⊎ (count ≤ number)
        → measure_at (measures ++ own ∷ []) number ≡ measured (tree_at table number)
    go number below (inl earlier) =
        let long = are.long in
        get_or_append_left measures (own ∷ []) (counted 1 1) number (omega (arith, long, earlier)) ∙ are.each number earlier
    go number below (inr past) =
        let there : count ≡ number = omega (arith, below, past) in
        get_or_push measures own (counted 1 1) number (are.long ∙ there) ∙ over ∙ ap (λ n. measured (tree_at table n)) there

-- the operands of the next node have measures
pub placed_there : (names : ℕ) (inside nodes : List FormulaNode) (index size : ℕ) → nodes ≡ inside → size ≡ index
    → ((k : ℕ) → k < length inside → IsPlaced names k (node_at inside k)) → index < length nodes → IsPlaced names size (node_at nodes index)
placed_there names inside nodes index size nodes_are size_is placed within =
    subst (λ n. IsPlaced names n (node_at nodes index)) (sym size_is)
    (subst (λ (l : List FormulaNode). IsPlaced names index (node_at l index)) (sym nodes_are)
    (placed index (subst (λ (l : List FormulaNode). index < length l) nodes_are within)))

-- the next measure
pub measures_step : (inside table : FormulaTable) (nodes : List FormulaNode) (index : ℕ) (measures lent pushed : List Measure) (measure : Measure) → inside ≡ table
    → IsTable inside → nodes ≡ inside.nodes → index < length nodes → AreMeasures table index measures → lent ≡ measures
    → measure ≡ measure_over (measure_at lent) (node_at nodes index) → pushed ≡ measures ++ measure ∷ [] → AreMeasures table (index + 1) pushed
measures_step inside table nodes index measures lent pushed measure view is nodes_are within are lent_is measure_is pushed_is =
    let there : nodes ≡ table.nodes = nodes_are ∙ ap (λ (t : FormulaTable). t.nodes) view in
    measures_more table index measures pushed (node_at nodes index) (subst IsTable view is) (subst (λ (l : List FormulaNode). index < length l) there within) are
    (ap (λ (l : List FormulaNode). node_at l index) there)
    (pushed_is ∙ ap (λ (m : Measure). measures ++ m ∷ []) (measure_is ∙ ap (λ (l : List Measure). measure_over (measure_at l) (node_at nodes index)) lent_is))

-- what measures say of depths and sizes
module _ (tree : FormulaTree) (measure : Measure) (is : measure ≡ measured tree) where
  pub deep_measured : most_formula_depth < measure.depth → most_formula_depth < formula_depth tree
  deep_measured deep = let e = ap (λ (m : Measure). m.depth) is in omega (arith, e, deep)

  pub shallow_measured : measure.depth ≤ most_formula_depth → formula_depth tree ≤ most_formula_depth
  shallow_measured shallow = let e = ap (λ (m : Measure). m.depth) is in omega (arith, e, shallow)

  pub large_measured : most_formula_nodes < measure.size → most_formula_nodes < formula_size tree
  large_measured large = let e = ap (λ (m : Measure). m.size) is in omega (arith, e, large)

  pub small_measured : measure.size ≤ most_formula_nodes → formula_size tree ≤ most_formula_nodes
  small_measured small = let e = ap (λ (m : Measure). m.size) is in omega (arith, e, small)

-- a formula within the limits
pub formula_within : (table : FormulaTable) (root : ℕ) (measure : Measure) → IsTable table → root < length table.nodes → measure ≡ measured (tree_at table root)
    → measure.depth ≤ most_formula_depth → measure.size ≤ most_formula_nodes → length table.nodes ≤ most_formula_nodes → length table.names ≤ most_formula_names
    → IsFormula (record { table = table; root = root })
formula_within table root measure is rooted measured_is shallow small few_nodes few_names = record {
  table = is;
  rooted = rooted;
  shallow = shallow_measured (tree_at table root) measure measured_is shallow;
  small = small_measured (tree_at table root) measure measured_is small;
  few_nodes = few_nodes;
  few_names = few_names;
}
