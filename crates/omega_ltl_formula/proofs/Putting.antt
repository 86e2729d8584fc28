-- What calls that put nodes and names into a table leave, whether they succeed or not.
use Rattle.std.proofs.Common.{◌≡◌, ℕ, ◌<◌, List, [], ◌∷◌, length, Option, Some, Result, Ok, Err, IfOk, OnOk, OnErr, refl, ap, sym, ◌∙◌, subst}
use Rattle.std.specs.List.{slice_get}
use Rattle.omega_text.specs.declared.refusal.Refusal.{Refusal}
use Rattle.omega_ltl_formula.specs.Building.{Adds, with_name}
use Rattle.omega_ltl_formula.specs.Formula.{FormulaTree, name}
use Rattle.omega_ltl_formula.specs.Table.{FormulaTable, IsPlaced, IsTable, tree_at, tree_over}
use Rattle.omega_ltl_formula.specs.declared.node.FormulaNode.{FormulaNode}
use Rattle.omega_ltl_formula.specs.declared.node.FormulaNode.TheVariants.{Name}
use Rattle.omega_ltl_formula.specs.private.Keys.{IsWith}
use Rattle.omega_ltl_formula.proofs.Growing.{adds_name, adds_node, named_table, tabled, with_table, within_list}

-- a node is put into a table
pub put_adds : (result : Result ℕ Refusal) (old : FormulaTable) (names : List (List ℕ)) (nodes more : List FormulaNode) (node : FormulaNode) → tabled names nodes ≡ old
    → IsTable (tabled names nodes) → IsPlaced (length old.names) (length old.nodes) node → IfOk result (λ number. slice_get more number ≡ Some node)
    → OnOk result (IsWith nodes node more) → IfOk result (Adds old (tabled names more) (tree_over old.names (tree_at old) node))
put_adds (Err refusal) old names nodes more node view is placed found put = tt
put_adds (Ok number) old names nodes more node view is placed found put =
    subst (λ (t : FormulaTable). Adds t (tabled names more) (tree_over t.names (tree_at t) node) number) view
    (adds_node names nodes node is (subst (λ (t : FormulaTable). IsPlaced (length t.names) (length t.nodes) node) (sym view) placed) number more put found)

pub put_table : (result : Result ℕ Refusal) (old : FormulaTable) (names : List (List ℕ)) (nodes more : List FormulaNode) (node : FormulaNode) → tabled names nodes ≡ old
    → IsTable (tabled names nodes) → IsPlaced (length old.names) (length old.nodes) node → OnOk result (IsWith nodes node more) → OnErr result (more ≡ nodes)
    → IsTable (tabled names more)
put_table (Err refusal) old names nodes more node view is placed put same = subst (λ (l : List FormulaNode). IsTable (tabled names l)) (sym same) is
put_table (Ok number) old names nodes more node view is placed put same =
    with_table names nodes more node is (subst (λ (t : FormulaTable). IsPlaced (length t.names) (length t.nodes) node) (sym view) placed) put

pub put_same : (result : Result ℕ Refusal) (old : FormulaTable) (names : List (List ℕ)) (nodes more : List FormulaNode) → tabled names nodes ≡ old
    → OnErr result (more ≡ nodes) → OnErr result (tabled names more ≡ old)
put_same (Ok number) old names nodes more view same = tt
put_same (Err refusal) old names nodes more view same = ap (tabled names) same ∙ view

-- a name is put into a table, and then its node
pub name_adds : (result : Result ℕ Refusal) (old : FormulaTable) (names named : List (List ℕ)) (nodes more : List FormulaNode) (bytes : List ℕ) (index : ℕ) → tabled names nodes ≡ old
    → IsTable (tabled names nodes) → named ≡ with_name names bytes → slice_get named index ≡ Some bytes
    → IfOk result (λ number. slice_get more number ≡ Some (Name index)) → OnOk result (IsWith nodes (Name index) more) → IfOk result (Adds old (tabled named more) (name bytes))
name_adds (Err refusal) old names named nodes more bytes index view is named_is there found put = tt
name_adds (Ok number) old names named nodes more bytes index view is named_is there found put =
    subst (λ (t : FormulaTable). Adds t (tabled named more) (name bytes) number) view
    (subst (λ (n : List (List ℕ)). Adds (tabled names nodes) (tabled n more) (name bytes) number) (sym named_is)
    (adds_name names nodes more bytes index number is (subst (λ (n : List (List ℕ)). slice_get n index ≡ Some bytes) named_is there) put found))

pub name_table : (result : Result ℕ Refusal) (names named : List (List ℕ)) (nodes more : List FormulaNode) (bytes : List ℕ) (index : ℕ) → IsTable (tabled names nodes)
    → named ≡ with_name names bytes → slice_get named index ≡ Some bytes → OnOk result (IsWith nodes (Name index) more) → OnErr result (more ≡ nodes)
    → IsTable (tabled named more)
name_table result names named nodes more bytes index is named_is there put same =
    let table : IsTable (tabled named nodes) = subst (λ (n : List (List ℕ)). IsTable (tabled n nodes)) (sym named_is) (named_table names nodes bytes is) in
    put_table result (tabled named nodes) named nodes more (Name index) refl table (within_list named index bytes there) put same
