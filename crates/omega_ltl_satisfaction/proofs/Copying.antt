-- Nodes of a table that have copies in another.
use Rattle.std.proofs.Common.{◌≡◌, ◌⊎◌, inl, inr, ℕ, ◌+◌, ◌<◌, ◌≤◌, Bool, true, false, List, [], ◌∷◌, ◌++◌}
use Rattle.std.proofs.Common.{Contains}
use Rattle.std.proofs.Common.{length, refl, sym, ap, ap₂, ◌∙◌, subst, arith}
use Rattle.std.specs.Prelude.{slice_index, slice_index_or}
use Rattle.std.proofs.lemmas.Bool.{cases_lt}
use Rattle.std.proofs.lemmas.List.{get_or_append_left, get_or_push, length_push}
use Rattle.omega_ltl_formula.specs.Building.{Adds, empty_table}
use Rattle.omega_ltl_formula.specs.Formula.{FormulaTree, binary, unary}
use Rattle.omega_ltl_formula.specs.Table.{FormulaTable, IsPlaced, IsTable, node_at, tree_at, tree_over}
use Rattle.omega_ltl_formula.specs.declared.node.FormulaNode.{FormulaNode}
use Rattle.omega_ltl_formula.specs.declared.node.FormulaNode.TheVariants.{Binary, Constant, Name, Unary}
use Rattle.omega_ltl_formula.proofs.Tables.{over_nodes}
use Rattle.omega_ltl_satisfaction.specs.private.Parts.{AddsNames, AreCopies}
use Rattle.omega_ltl_satisfaction.specs.private.Wanted.{HasOperands, IsMarked, IsWanting}

-- a node is the same over operands that are the same
over_operands : (names : List (List ℕ)) (one other : ℕ → FormulaTree) (node : FormulaNode) → HasOperands (λ k. one k ≡ other k) node
    → tree_over names one node ≡ tree_over names other node
over_operands names one other (Constant value) same = refl
over_operands names one other (Name number) same = refl
over_operands names one other (Unary op part) same = ap (unary op) same
over_operands names one other (Binary op left right) same = ap₂ (binary op) same.0 same.1

-- what follows for operands before a node
operands_before : (P Q : ℕ → Type 0) (count before : ℕ) (node : FormulaNode) → IsPlaced count before node
    → ((k : ℕ) → k < before → P k → Q k) → HasOperands P node → HasOperands Q node
operands_before P Q count before (Constant value) placed next has = tt
operands_before P Q count before (Name number) placed next has = tt
operands_before P Q count before (Unary op part) placed next has = next part placed has
operands_before P Q count before (Binary op left right) placed next has = (next left placed.0 has.0, next right placed.1 has.1)

-- the number of one node more
numbered : (index number k : ℕ) (numbers : List ℕ) → length numbers ≡ index → k < index + 1
    → ((k < index) × (slice_index (numbers ++ number ∷ []) k ≡ slice_index numbers k))
    ⊎ ((index ≡ k) × (slice_index (numbers ++ number ∷ []) k ≡ number))
numbered index number k numbers long below = go (cases_lt k index)
  where
    go : (k < index) ⊎ (index ≤ k) → ((k < index) × (slice_index (numbers ++ number ∷ []) k ≡ slice_index numbers k))
        ⊎ ((index ≡ k) × (slice_index (numbers ++ number ∷ []) k ≡ number))
    go (inl earlier) = inl (earlier, get_or_append_left numbers (number ∷ []) 0 k (omega (arith, long, earlier)))
    go (inr past) =
        let there : index ≡ k = omega (arith, below, past) in
        inr (there, get_or_push numbers number 0 k (long ∙ there))

module _ (table copy more : FormulaTable) (is : IsTable table) (marks : List Bool) (root : ℕ) (wanting : IsWanting table.nodes root 0 marks)
    (index number : ℕ) (numbers : List ℕ) (within : index < length table.nodes) (are : AreCopies table copy marks index numbers) where
  -- the operands of a marked node have copies
  pub operands_within : IsMarked marks index → HasOperands (λ k. slice_index numbers k < length copy.nodes) (node_at table.nodes index)
  operands_within marked =
      operands_before (IsMarked marks) (λ k. slice_index numbers k < length copy.nodes) (length table.names) index (node_at table.nodes index)
      (is.placed index within) are.within (wanting.closed index (omega arith) within marked)

  operands_same : IsMarked marks index → HasOperands (λ k. tree_at copy (slice_index numbers k) ≡ tree_at table k) (node_at table.nodes index)
  operands_same marked =
      operands_before (IsMarked marks) (λ k. tree_at copy (slice_index numbers k) ≡ tree_at table k) (length table.names) index (node_at table.nodes index)
      (is.placed index within) are.same (wanting.closed index (omega arith) within marked)

  -- one node more has a copy
  marked_more : IsMarked marks index → Adds copy more (tree_over table.names (λ k. tree_at copy (slice_index numbers k)) (node_at table.nodes index)) number
      → AddsNames table.names copy.names more.names → AreCopies table more marks (index + 1) (numbers ++ number ∷ [])
  marked_more marked adds names = record {
    long = length_push numbers number ∙ ap (λ n. n + 1) are.long;
    within = λ k below of. within_more k of (numbered index number k numbers are.long below);
    same = λ k below of. same_more k of (numbered index number k numbers are.long below);
    names = λ name has. names_more name (names name has);
  }
    where
      copied : tree_at more number ≡ tree_at table index
      copied =
          adds.there
          ∙ over_operands table.names (λ k. tree_at copy (slice_index numbers k)) (tree_at table) (node_at table.nodes index) (operands_same marked)
          ∙ sym (over_nodes table index is within)

      within_more : (k : ℕ) → IsMarked marks k → ((k < index) × (slice_index (numbers ++ number ∷ []) k ≡ slice_index numbers k))
          ⊎ ((index ≡ k) × (slice_index (numbers ++ number ∷ []) k ≡ number))
          → slice_index (numbers ++ number ∷ []) k < length more.nodes
      within_more k of (inl (earlier, e)) = let low = are.within k earlier of in omega (arith, low, e, adds.longer)
      within_more k of (inr (there, e)) = omega (arith, adds.within, e)

      same_more : (k : ℕ) → IsMarked marks k → ((k < index) × (slice_index (numbers ++ number ∷ []) k ≡ slice_index numbers k))
          ⊎ ((index ≡ k) × (slice_index (numbers ++ number ∷ []) k ≡ number))
          → tree_at more (slice_index (numbers ++ number ∷ []) k) ≡ tree_at table k
      same_more k of (inl (earlier, e)) = ap (tree_at more) e ∙ adds.kept (slice_index numbers k) (are.within k earlier of) ∙ are.same k earlier of
      same_more k of (inr (there, e)) = ap (tree_at more) e ∙ copied ∙ ap (tree_at table) there

      names_more : (name : List ℕ) → Contains copy.names name ⊎ Contains table.names name → Contains table.names name
      names_more name (inl before) = are.names name before
      names_more name (inr has) = has

  -- a node that is not marked has none
  unmarked_more : slice_index_or marks index false ≡ false → AreCopies table copy marks (index + 1) (numbers ++ number ∷ [])
  unmarked_more unmarked = record {
    long = length_push numbers number ∙ ap (λ n. n + 1) are.long;
    within = λ k below of. within_same k of (numbered index number k numbers are.long below);
    same = λ k below of. same_same k of (numbered index number k numbers are.long below);
    names = are.names;
  }
    where
      not_there : (k : ℕ) → index ≡ k → IsMarked marks k → ⊥
      not_there k there of = let clash : false ≡ true = sym unmarked ∙ ap (λ n. slice_index_or marks n false) there ∙ of in absurd (cc)

      within_same : (k : ℕ) → IsMarked marks k → ((k < index) × (slice_index (numbers ++ number ∷ []) k ≡ slice_index numbers k))
          ⊎ ((index ≡ k) × (slice_index (numbers ++ number ∷ []) k ≡ number))
          → slice_index (numbers ++ number ∷ []) k < length copy.nodes
      within_same k of (inl (earlier, e)) = let low = are.within k earlier of in omega (arith, low, e)
      within_same k of (inr (there, e)) = absurd (not_there k there of)

      same_same : (k : ℕ) → IsMarked marks k → ((k < index) × (slice_index (numbers ++ number ∷ []) k ≡ slice_index numbers k))
          ⊎ ((index ≡ k) × (slice_index (numbers ++ number ∷ []) k ≡ number))
          → tree_at copy (slice_index (numbers ++ number ∷ []) k) ≡ tree_at table k
      same_same k of (inl (earlier, e)) = ap (tree_at copy) e ∙ are.same k earlier of
      same_same k of (inr (there, e)) = absurd (not_there k there of)

  -- either way
  pub copies_more : (is_marked : Bool) (pushed : List ℕ) → is_marked ≡ slice_index_or marks index false
      → (is_marked ≡ true → Adds copy more (tree_over table.names (λ k. tree_at copy (slice_index numbers k)) (node_at table.nodes index)) number)
      → (is_marked ≡ true → AddsNames table.names copy.names more.names) → (is_marked ≡ false → more ≡ copy)
      → pushed ≡ numbers ++ number ∷ [] → AreCopies table more marks (index + 1) pushed
  copies_more true pushed marked adds names kept e =
      subst (AreCopies table more marks (index + 1)) (sym e) (marked_more (sym marked) (adds refl) (names refl))
  copies_more false pushed marked adds names kept e =
      subst (λ (t : FormulaTable). AreCopies table t marks (index + 1) pushed) (sym (kept refl))
      (subst (AreCopies table copy marks (index + 1)) (sym e) (unmarked_more (sym marked)))

-- no node has a copy yet
pub no_copies : (table copy : FormulaTable) (marks : List Bool) → copy ≡ empty_table → AreCopies table copy marks 0 []
no_copies table copy marks e = record {
  long = refl;
  within = λ k below of. absurd (omega (arith, below));
  same = λ k below of. absurd (omega (arith, below));
  names = λ name has. absurd (omega (arith, has.1, ap (λ (t : FormulaTable). length t.names) e));
}

-- a node that is read
pub copies_step : (table copy more : FormulaTable) → IsTable table → (marks : List Bool) (root : ℕ) → IsWanting table.nodes root 0 marks
    → (index number at : ℕ) (numbers lent pushed : List ℕ) (nodes : List FormulaNode) (names : List (List ℕ)) → nodes ≡ table.nodes → names ≡ table.names
    → lent ≡ numbers → at ≡ index → index < length nodes → AreCopies table copy marks index numbers
    → (slice_index_or marks at false ≡ true → Adds copy more (tree_over names (λ k. tree_at copy (slice_index lent k)) (node_at nodes index)) number)
    → (slice_index_or marks at false ≡ true → AddsNames names copy.names more.names) → (slice_index_or marks at false ≡ false → more ≡ copy)
    → pushed ≡ numbers ++ number ∷ [] → AreCopies table more marks (index + 1) pushed
copies_step table copy more is marks root wanting index number at numbers lent pushed nodes names nodes_are names_are lent_is at_is within are adds added kept pushed_is =
    let there : slice_index_or marks at false ≡ slice_index_or marks index false = ap (λ n. slice_index_or marks n false) at_is in
    copies_more table copy more is marks root wanting index number numbers (subst (λ (l : List FormulaNode). index < length l) nodes_are within) are
    (slice_index_or marks index false) pushed refl
    (λ of. subst (λ (l : List FormulaNode). Adds copy more (tree_over table.names (λ k. tree_at copy (slice_index numbers k)) (node_at l index)) number) nodes_are
    (subst (λ (l : List ℕ). Adds copy more (tree_over table.names (λ k. tree_at copy (slice_index l k)) (node_at nodes index)) number) lent_is
    (subst (λ (l : List (List ℕ)). Adds copy more (tree_over l (λ k. tree_at copy (slice_index lent k)) (node_at nodes index)) number) names_are
    (adds (there ∙ of)))))
    (λ of. subst (λ (l : List (List ℕ)). AddsNames l copy.names more.names) names_are (added (there ∙ of)))
    (λ of. kept (there ∙ of)) pushed_is
