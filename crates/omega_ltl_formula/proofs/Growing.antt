-- Tables that grow: what is there stays, and what is added is there.
use Rattle.std.proofs.Common.{◌≡◌, ◌⊎◌, inl, inr, ℕ, zero, suc, ◌+◌, ◌<◌, ◌≤◌, Bool, true, false, List, [], ◌∷◌, ◌++◌, length, get_or, Option, Some, None, refl, sym, ap, ap₂, ◌∙◌, subst, arith, if◌then◌else◌}
use Rattle.std.specs.Cmp.Lexicographic.{nat_list_eq_equiv}
use Rattle.std.specs.List.{IsDistinct, list_any, slice_get}
use Rattle.std.specs.Str.{bytes_eq}
use Rattle.std.proofs.lemmas.Bool.{cases_Bool, cases_lt}
use Rattle.std.proofs.lemmas.List.{get_or_append_left, get_or_push, length_push}
use Rattle.std.proofs.lemmas.Map.Keys.{IsDistinct-from_apart, IsDistinct-push}
use Rattle.std.proofs.lemmas.Option.{get_or_from_slice_get}
use Rattle.omega_ltl_formula.specs.Building.{Adds, with_name}
use Rattle.omega_ltl_formula.specs.Formula.{FormulaTree, binary, constant, name, unary}
use Rattle.omega_ltl_formula.specs.Table.{FormulaTable, IsPlaced, IsTable, name_at, node_at, tree_among, tree_at, tree_over, trees_from}
use Rattle.omega_ltl_formula.specs.declared.node.FormulaNode.{FormulaNode}
use Rattle.omega_ltl_formula.specs.declared.node.FormulaNode.TheVariants.{Binary, Constant, Name, Unary}
use Rattle.omega_ltl_formula.specs.private.Keys.{IsWith}
use Rattle.omega_ltl_formula.proofs.Tables.{over_alike, over_nodes, tree_placed, trees_append, trees_kept, trees_long}

-- the table of names and nodes
abbrev pub tabled : List (List ℕ) → List FormulaNode → FormulaTable
tabled names nodes = record { names = names; nodes = nodes }

-- a table without names and nodes
pub empty_is : IsTable (tabled [] [])
empty_is = record {
  distinct = IsDistinct-from_apart bytes_eq [] (λ i j d earlier within. absurd (omega (arith, within)));
  placed = λ number within. absurd (omega (arith, within));
}

-- what a list has at a number is within it
pub within_list : {X : Type 0} (xs : List X) (i : ℕ) (x : X) → slice_get xs i ≡ Some x → i < length xs
within_list {X = X} [] i x is = absurd (let e : ◌≡◌ {A = Option X} None (Some x) = is in cc)
within_list (first ∷ xs) zero x is = omega arith
within_list (first ∷ xs) (suc i) x is = let rest = within_list xs i x is in omega (arith, rest)

-- a node is placed among more names, and among more nodes
pub placed_more : (names more before later : ℕ) (node : FormulaNode) → names ≤ more → before ≤ later → IsPlaced names before node → IsPlaced more later node
placed_more names more before later (Constant value) wider longer placed = tt
placed_more names more before later (Name number) wider longer placed = omega (arith, placed, wider)
placed_more names more before later (Unary op part) wider longer placed = omega (arith, placed, longer)
placed_more names more before later (Binary op left right) wider longer placed =
    (omega (arith, placed.0, longer), omega (arith, placed.1, longer))

-- the formulas before one more node stay
pub before_push : (names : List (List ℕ)) (nodes : List FormulaNode) (node : FormulaNode) (k : ℕ) → k < length nodes
    → tree_at (tabled names (nodes ++ node ∷ [])) k ≡ tree_at (tabled names nodes) k
before_push names nodes node k within =
    let long = trees_long names [] nodes in
    ap (λ (trees : List FormulaTree). tree_among trees k) (trees_append names [] nodes (node ∷ []))
    ∙ trees_kept names (trees_from names [] nodes) (node ∷ []) k (omega (arith, long, within))

-- one more node that is placed makes a table again
pub push_table : (names : List (List ℕ)) (nodes : List FormulaNode) (node : FormulaNode) → IsTable (tabled names nodes)
    → IsPlaced (length names) (length nodes) node → IsTable (tabled names (nodes ++ node ∷ []))
push_table names nodes node is placed = record {
  distinct = is.distinct;
  placed = λ number within. each number within (cases_lt number (length nodes));
}
  where
    each : (number : ℕ) → number < length (nodes ++ node ∷ []) → (number < length nodes) ⊎ (length nodes ≤ number)
        → IsPlaced (length names) number (node_at (nodes ++ node ∷ []) number)
    each number within (inl earlier) =
        subst (IsPlaced (length names) number) (sym (get_or_append_left nodes (node ∷ []) (Constant false) number earlier)) (is.placed number earlier)
    each number within (inr past) =
        let long = length_push nodes node in
        let there : length nodes ≡ number = omega (arith, long, within, past) in
        subst (IsPlaced (length names) number) (sym (get_or_push nodes node (Constant false) number there))
        (subst (λ n. IsPlaced (length names) n node) there placed)

-- a node that is placed is added
module _ (names : List (List ℕ)) (nodes : List FormulaNode) (node : FormulaNode) (is : IsTable (tabled names nodes))
    (placed : IsPlaced (length names) (length nodes) node) (number : ℕ) where
  adds_same : slice_get nodes number ≡ Some node → Adds (tabled names nodes) (tabled names nodes) (tree_over names (tree_at (tabled names nodes)) node) number
  adds_same found =
      let within = within_list nodes number node found in
      record {
        within = within;
        there = over_nodes (tabled names nodes) number is within
            ∙ ap (tree_over names (tree_at (tabled names nodes))) (get_or_from_slice_get nodes number node (Constant false) found);
        kept = λ k below. refl;
        longer = omega arith;
        at_most_one = omega arith;
      }

  adds_push : slice_get (nodes ++ node ∷ []) number ≡ Some node
      → Adds (tabled names nodes) (tabled names (nodes ++ node ∷ [])) (tree_over names (tree_at (tabled names nodes)) node) number
  adds_push found =
      let within = within_list (nodes ++ node ∷ []) number node found in
      let long = length_push nodes node in
      record {
        within = within;
        there = over_nodes (tabled names (nodes ++ node ∷ [])) number (push_table names nodes node is placed) within
            ∙ ap (tree_over names (tree_at (tabled names (nodes ++ node ∷ []))))
            (get_or_from_slice_get (nodes ++ node ∷ []) number node (Constant false) found)
            ∙ over_alike names (tree_at (tabled names (nodes ++ node ∷ []))) (tree_at (tabled names nodes)) (length names) (length nodes) node placed
            (before_push names nodes node);
        kept = before_push names nodes node;
        longer = omega (arith, long);
        at_most_one = omega (arith, long);
      }

  pub adds_node : (more : List FormulaNode) → IsWith nodes node more → slice_get more number ≡ Some node
      → Adds (tabled names nodes) (tabled names more) (tree_over names (tree_at (tabled names nodes)) node) number
  adds_node more (inl same) found = subst (λ (l : List FormulaNode). Adds (tabled names nodes) (tabled names l) (tree_over names (tree_at (tabled names nodes)) node) number)
      (sym same) (adds_same (subst (λ (l : List FormulaNode). slice_get l number ≡ Some node) same found))
  adds_node more (inr pushed) found = subst (λ (l : List FormulaNode). Adds (tabled names nodes) (tabled names l) (tree_over names (tree_at (tabled names nodes)) node) number)
      (sym pushed) (adds_push (subst (λ (l : List FormulaNode). slice_get l number ≡ Some node) pushed found))

-- and makes a table again
pub with_table : (names : List (List ℕ)) (nodes more : List FormulaNode) (node : FormulaNode) → IsTable (tabled names nodes)
    → IsPlaced (length names) (length nodes) node → IsWith nodes node more → IsTable (tabled names more)
with_table names nodes more node is placed (inl same) = subst (λ (l : List FormulaNode). IsTable (tabled names l)) (sym same) is
with_table names nodes more node is placed (inr pushed) =
    subst (λ (l : List FormulaNode). IsTable (tabled names l)) (sym pushed) (push_table names nodes node is placed)

-- names with one more, or as they were
pub named_or_same : (names : List (List ℕ)) (bytes : List ℕ) → (with_name names bytes ≡ names)
    ⊎ ((with_name names bytes ≡ names ++ bytes ∷ []) × (list_any (bytes_eq bytes) names ≡ false))
named_or_same names bytes = go (list_any (bytes_eq bytes) names) refl
  where
    go : (b : Bool) → list_any (bytes_eq bytes) names ≡ b → ((if b then names else names ++ bytes ∷ []) ≡ names)
        ⊎ (((if b then names else names ++ bytes ∷ []) ≡ names ++ bytes ∷ []) × (list_any (bytes_eq bytes) names ≡ false))
    go true is = inl refl
    go false is = inr (refl, is)

-- a node is the same formula by more names
over_named : (names : List (List ℕ)) (bytes : List ℕ) (operand : ℕ → FormulaTree) (before : ℕ) (node : FormulaNode)
    → IsPlaced (length names) before node → tree_over (names ++ bytes ∷ []) operand node ≡ tree_over names operand node
over_named names bytes operand before (Constant value) placed = refl
over_named names bytes operand before (Name number) placed = ap name (get_or_append_left names (bytes ∷ []) [] number placed)
over_named names bytes operand before (Unary op part) placed = refl
over_named names bytes operand before (Binary op left right) placed = refl

-- nodes are the same formulas by more names
trees_named : (names : List (List ℕ)) (bytes : List ℕ) (trees : List FormulaTree) (nodes : List FormulaNode)
    → ((k : ℕ) → k < length nodes → IsPlaced (length names) (length trees + k) (node_at nodes k))
    → trees_from (names ++ bytes ∷ []) trees nodes ≡ trees_from names trees nodes
trees_named names bytes trees [] placed = refl
trees_named names bytes trees (node ∷ nodes) placed =
    let own = over_named names bytes (tree_among trees) (length trees + 0) node (placed 0 (omega arith)) in
    ap (λ (tree : FormulaTree). trees_from (names ++ bytes ∷ []) (trees ++ tree ∷ []) nodes) own
    ∙ trees_named names bytes (trees ++ tree_over names (tree_among trees) node ∷ []) nodes (λ k within.
    let more = length_push trees (tree_over names (tree_among trees) node) in
    let there : length trees + suc k ≡ length (trees ++ tree_over names (tree_among trees) node ∷ []) + k = omega (arith, more) in
    subst (λ n. IsPlaced (length names) n (node_at nodes k)) there (placed (suc k) (omega (arith, within))))

-- a table with one name more is one, with the same formulas
module _ (names : List (List ℕ)) (nodes : List FormulaNode) (bytes : List ℕ) (is : IsTable (tabled names nodes)) where
  push_named : list_any (bytes_eq bytes) names ≡ false → IsTable (tabled (names ++ bytes ∷ []) nodes)
  push_named absent =
      let long = length_push names bytes in
      record {
        distinct = IsDistinct-push nat_list_eq_equiv names bytes is.distinct absent;
        placed = λ number within. placed_more (length names) (length (names ++ bytes ∷ [])) number number (node_at nodes number) (omega (arith, long))
            (omega arith) (is.placed number within);
      }

  trees_push : trees_from (names ++ bytes ∷ []) [] nodes ≡ trees_from names [] nodes
  trees_push = trees_named names bytes [] nodes (λ k within.
      let there : k ≡ 0 + k = omega arith in
      subst (λ n. IsPlaced (length names) n (node_at nodes k)) there (is.placed k within))

  pub named_table : IsTable (tabled (with_name names bytes) nodes)
  named_table = go (named_or_same names bytes)
    where
      go : (with_name names bytes ≡ names) ⊎ ((with_name names bytes ≡ names ++ bytes ∷ []) × (list_any (bytes_eq bytes) names ≡ false))
          → IsTable (tabled (with_name names bytes) nodes)
      go (inl same) = subst (λ (l : List (List ℕ)). IsTable (tabled l nodes)) (sym same) is
      go (inr more) = subst (λ (l : List (List ℕ)). IsTable (tabled l nodes)) (sym more.0) (push_named more.1)

  pub named_trees : (k : ℕ) → tree_at (tabled (with_name names bytes) nodes) k ≡ tree_at (tabled names nodes) k
  named_trees k = go (named_or_same names bytes)
    where
      go : (with_name names bytes ≡ names) ⊎ ((with_name names bytes ≡ names ++ bytes ∷ []) × (list_any (bytes_eq bytes) names ≡ false))
          → tree_at (tabled (with_name names bytes) nodes) k ≡ tree_at (tabled names nodes) k
      go (inl same) = ap (λ (l : List (List ℕ)). tree_at (tabled l nodes) k) same
      go (inr more) = ap (λ (l : List (List ℕ)). tree_at (tabled l nodes) k) more.0
          ∙ ap (λ (trees : List FormulaTree). tree_among trees k) trees_push

-- a name is added to names and then to nodes
pub adds_name : (names : List (List ℕ)) (nodes more : List FormulaNode) (bytes : List ℕ) (index number : ℕ) → IsTable (tabled names nodes)
    → slice_get (with_name names bytes) index ≡ Some bytes → IsWith nodes (Name index) more → slice_get more number ≡ Some (Name index)
    → Adds (tabled names nodes) (tabled (with_name names bytes) more) (name bytes) number
adds_name names nodes more bytes index number is named more_is found =
    let placed = within_list (with_name names bytes) index bytes named in
    let added = adds_node (with_name names bytes) nodes (Name index) (named_table names nodes bytes is) placed number more more_is found in
    record {
      within = added.within;
      there = added.there ∙ ap name (get_or_from_slice_get (with_name names bytes) index bytes [] named);
      kept = λ k below. added.kept k below ∙ named_trees names nodes bytes is k;
      longer = added.longer;
      at_most_one = added.at_most_one;
    }
