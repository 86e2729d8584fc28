-- Which formulas the nodes of a table are: later nodes leave those before them as they are.
use Rattle.std.proofs.Common.{false, ◌≡◌, ℕ, zero, suc, ◌+◌, ◌<◌, List, [], ◌∷◌, ◌++◌, length, get_or, refl, sym, ap, ap₂, ◌∙◌, arith, length-append}
use Rattle.std.proofs.lemmas.List.{get_or_append_left, get_or_push, length_push}
use Rattle.omega_ltl_formula.specs.Formula.{FormulaTree, binary, constant, name, unary}
use Rattle.omega_ltl_formula.specs.Table.{FormulaTable, IsPlaced, IsTable, name_at, node_at, tree_among, tree_at, tree_over, trees_from}
use Rattle.omega_ltl_formula.specs.declared.node.FormulaNode.{FormulaNode}
use Rattle.omega_ltl_formula.specs.declared.node.FormulaNode.TheVariants.{Binary, Constant, Name, Unary}

-- a node is the same formula over operands that are the same before it
pub over_alike : (names : List (List ℕ)) (one other : ℕ → FormulaTree) (count before : ℕ) (node : FormulaNode)
    → IsPlaced count before node → ((k : ℕ) → k < before → one k ≡ other k) → tree_over names one node ≡ tree_over names other node
over_alike names one other count before (Constant value) placed same = refl
over_alike names one other count before (Name number) placed same = refl
over_alike names one other count before (Unary op part) placed same = ap (unary op) (same part placed)
over_alike names one other count before (Binary op left right) placed same =
    ap₂ (binary op) (same left placed.0) (same right placed.1)

-- further nodes leave the formulas before them as they are
pub trees_kept : (names : List (List ℕ)) (trees : List FormulaTree) (nodes : List FormulaNode) (k : ℕ) → k < length trees
    → tree_among (trees_from names trees nodes) k ≡ tree_among trees k
trees_kept names trees [] k within = refl
trees_kept names trees (node ∷ nodes) k within =
    let more = length_push trees (tree_over names (tree_among trees) node) in
    trees_kept names (trees ++ tree_over names (tree_among trees) node ∷ []) nodes k (omega (arith, more, within))
    ∙ get_or_append_left trees (tree_over names (tree_among trees) node ∷ []) (constant false) k within

-- there are as many formulas as nodes
pub trees_long : (names : List (List ℕ)) (trees : List FormulaTree) (nodes : List FormulaNode)
    → length (trees_from names trees nodes) ≡ length trees + length nodes
trees_long names trees [] = omega arith
trees_long names trees (node ∷ nodes) =
    let more = length_push trees (tree_over names (tree_among trees) node) in
    let rest = trees_long names (trees ++ tree_over names (tree_among trees) node ∷ []) nodes in
    omega (arith, more, rest)

-- the formulas of nodes are made one list after the other
pub trees_append : (names : List (List ℕ)) (trees : List FormulaTree) (front back : List FormulaNode)
    → trees_from names trees (front ++ back) ≡ trees_from names (trees_from names trees front) back
trees_append names trees [] back = refl
trees_append names trees (node ∷ front) back =
    trees_append names (trees ++ tree_over names (tree_among trees) node ∷ []) front back

-- a node among others is a formula over those before it
pub tree_placed : (names : List (List ℕ)) (count : ℕ) (trees : List FormulaTree) (nodes : List FormulaNode) (k : ℕ)
    → k < length nodes → IsPlaced count (length trees + k) (node_at nodes k)
    → tree_among (trees_from names trees nodes) (length trees + k)
    ≡ tree_over names (tree_among (trees_from names trees nodes)) (node_at nodes k)
tree_placed names count trees [] k within placed = absurd (omega (arith, within))
tree_placed names count trees (node ∷ nodes) zero within placed =
    ap (tree_among all) (let z : length trees + 0 ≡ length trees = omega arith in z)
    ∙ trees_kept names (trees ++ own ∷ []) nodes (length trees) (let more = length_push trees own in omega (arith, more))
    ∙ get_or_push trees own (constant false) (length trees) refl
    ∙ over_alike names (tree_among trees) (tree_among all) count (length trees + 0) node placed (λ k below.
    sym (trees_kept names trees (node ∷ nodes) k (omega (arith, below))))
  where
    own : FormulaTree
    own = tree_over names (tree_among trees) node

    all : List FormulaTree
    all = trees_from names trees (node ∷ nodes)
tree_placed names count trees (node ∷ nodes) (suc k) within placed =
    let more = length_push trees (tree_over names (tree_among trees) node) in
    let there : length trees + suc k ≡ length (trees ++ tree_over names (tree_among trees) node ∷ []) + k = omega (arith, more) in
    ap (tree_among (trees_from names trees (node ∷ nodes))) there
    ∙ tree_placed names count (trees ++ tree_over names (tree_among trees) node ∷ []) nodes k (omega (arith, within))
    (rw (sym there) placed)

-- each node of a table is a formula over those of its operands
pub over_nodes : (table : FormulaTable) (number : ℕ) → IsTable table → number < length table.nodes
    → tree_at table number ≡ tree_over table.names (tree_at table) (node_at table.nodes number)
over_nodes table number is within =
    let there : 0 + number ≡ number = omega arith in
    ap (tree_at table) (sym there)
    ∙ tree_placed table.names (length table.names) [] table.nodes number within (rw there (is.placed number within))
