-- What a conjunct is taken apart into.
use Rattle.std.proofs.Common.{◌≡◌, inl, inr, ℕ, ◌<◌, Bool, true, false, List, [], ◌∷◌, ◌++◌, length, refl}
use Rattle.std.proofs.Common.{sym, ap, subst, arith, length-append, append-nil}
use Rattle.std.specs.Prelude.{sum_by}
use Rattle.std.specs.List.{AllByRecursion}
use Rattle.std.proofs.lemmas.List.Sums.{sum_by-append}
use Rattle.omega_text.specs.NamedWords.{NamedWord}
use Rattle.omega_ltl_formula.specs.Formula.{FormulaTree, formula_size}
use Rattle.omega_ltl_formula.specs.Meaning.{Satisfies}
use Rattle.omega_ltl_formula.specs.Table.{FormulaTable, IsFormula, IsPlaced, IsTable, NumberedFormula}
use Rattle.omega_ltl_formula.specs.Table.{node_at, tree_at, tree_of, tree_over}
use Rattle.omega_ltl_formula.specs.declared.node.FormulaNode.{FormulaNode}
use Rattle.omega_ltl_formula.specs.declared.node.FormulaNode.TheVariants.{Binary, Unary}
use Rattle.omega_ltl_formula.specs.declared.operators.BinaryOperator.TheVariants.{And, Implies, Or}
use Rattle.omega_ltl_formula.specs.declared.operators.UnaryOperator.TheVariants.{Not}
use Rattle.omega_ltl_formula.proofs.Tables.{over_nodes}
use Rattle.omega_ltl_translation.specs.Translation.{asked_tree}
use Rattle.omega_ltl_satisfaction.specs.Conjuncts.{IsConjunctOf, conclusion, itself, left, not_left}
use Rattle.omega_ltl_satisfaction.specs.Conjuncts.{not_negated, not_right, premise, right}
use Rattle.omega_ltl_satisfaction.specs.declared.conjunct.Conjunct.{Conjunct}
use Rattle.omega_ltl_satisfaction.specs.private.Conjuncts.{AreConjuncts, AreMet, IsTakenApart, conjunct_of}
use Rattle.omega_ltl_satisfaction.specs.private.Conjuncts.{conjunct_over, parts_of, whole_among}

-- what holds of each element of two lists holds of each of both
pub all_append : {X : Type 0} (P : X → Type 0) (xs ys : List X) → AllByRecursion P xs → AllByRecursion P ys → AllByRecursion P (xs ++ ys)
all_append P [] ys first second = second
all_append P (x ∷ xs) ys first second = (first.0, all_append P xs ys first.1 second)

pub all_front : {X : Type 0} (P : X → Type 0) (xs ys : List X) → AllByRecursion P (xs ++ ys) → AllByRecursion P xs
all_front P [] ys all = tt
all_front P (x ∷ xs) ys all = (all.0, all_front P xs ys all.1)

pub all_back : {X : Type 0} (P : X → Type 0) (xs ys : List X) → AllByRecursion P (xs ++ ys) → AllByRecursion P ys
all_back P [] ys all = all
all_back P (x ∷ xs) ys all = all_back P xs ys all.1

-- over any formulas as operands
module _ (names : List (List ℕ)) (operand : ℕ → FormulaTree) where
  -- the parts are conjuncts
  each_over : (whole : FormulaTree) (negated : Bool) (node : FormulaNode) → IsConjunctOf whole (asked_tree negated (tree_over names operand node))
      → AllByRecursion (λ (part : Conjunct). IsConjunctOf whole (conjunct_over operand part)) (parts_of negated node)
  each_over whole false (Unary Not part) is = (is, tt)
  each_over whole true (Unary Not part) is = (not_negated (operand part) is, tt)
  each_over whole false (Binary And l r) is = (right (operand l) (operand r) is, (left (operand l) (operand r) is, tt))
  each_over whole true (Binary Or l r) is = (not_right (operand l) (operand r) is, (not_left (operand l) (operand r) is, tt))
  each_over whole true (Binary Implies l r) is = (conclusion (operand l) (operand r) is, (premise (operand l) (operand r) is, tt))
  each_over whole negated node is = tt

  -- a word that satisfies the parts satisfies the conjunct
  whole_over : (negated : Bool) (node : FormulaNode) (word : NamedWord) → 0 < length (parts_of negated node)
      → AreMet operand (parts_of negated node) word → Satisfies (asked_tree negated (tree_over names operand node)) word
  whole_over false (Unary Not part) word some met = met.0
  whole_over true (Unary Not part) word some met = λ denied. denied met.0
  whole_over false (Binary And l r) word some met = (met.1.0, met.0)
  whole_over true (Binary Or l r) word some met = λ either. elim either [ inl h ↦ met.1.0 h | inr h ↦ met.0 h ]
  whole_over true (Binary Implies l r) word some met = λ implies. met.0 (implies met.1.0)
  whole_over negated node word some met = absurd (omega (arith, some))

  -- the parts are smaller together
  smaller_over : (negated : Bool) (node : FormulaNode)
      → sum_by (λ (part : Conjunct). formula_size (operand part.node)) (parts_of negated node) < formula_size (tree_over names operand node)
  smaller_over false (Unary Not part) = omega arith
  smaller_over true (Unary Not part) = omega arith
  smaller_over false (Binary And l r) = omega arith
  smaller_over true (Binary Or l r) = omega arith
  smaller_over true (Binary Implies l r) = omega arith
  smaller_over negated node = omega arith

-- the parts are of nodes before
parts_placed : (names before : ℕ) (negated : Bool) (node : FormulaNode) → IsPlaced names before node
    → AllByRecursion (λ (part : Conjunct). part.node < before) (parts_of negated node)
parts_placed names before false (Unary Not part) placed = (placed, tt)
parts_placed names before true (Unary Not part) placed = (placed, tt)
parts_placed names before false (Binary And l r) placed = (placed.1, (placed.0, tt))
parts_placed names before true (Binary Or l r) placed = (placed.1, (placed.0, tt))
parts_placed names before true (Binary Implies l r) placed = (placed.1, (placed.0, tt))
parts_placed names before negated node placed = tt

-- one more conjunct of a table is taken apart, or is found
module _ (table : FormulaTable) (is : IsTable table) (whole : FormulaTree) (found rest : List Conjunct) (c : Conjunct) where
  abbrev Within : Conjunct → Type 0
  Within part = part.node < length table.nodes

  abbrev Each : Conjunct → Type 0
  Each part = IsConjunctOf whole (conjunct_over (tree_at table) part)

  abbrev parts : List Conjunct
  parts = parts_of c.negated (node_at table.nodes c.node)

  tree_is : c.node < length table.nodes → tree_at table c.node ≡ tree_over table.names (tree_at table) (node_at table.nodes c.node)
  tree_is within = over_nodes table c.node is within

  parts_within : c.node < length table.nodes → AllByRecursion Within parts
  parts_within within = lower parts (parts_placed (length table.names) c.node c.negated (node_at table.nodes c.node) (is.placed c.node within))
    where
      lower : (xs : List Conjunct) → AllByRecursion (λ (part : Conjunct). part.node < c.node) xs → AllByRecursion Within xs
      lower [] all = tt
      lower (x ∷ xs) all = (omega (arith, all.0, within), lower xs all.1)

  parts_each : c.node < length table.nodes → Each c → AllByRecursion Each parts
  parts_each within each =
      each_over table.names (tree_at table) whole c.negated (node_at table.nodes c.node)
      (subst (λ (tree : FormulaTree). IsConjunctOf whole (asked_tree c.negated tree)) (tree_is within) each)

  pub last_within : IsTakenApart table whole found (rest ++ c ∷ []) → c.node < length table.nodes
  last_within taken = (all_back Within rest (c ∷ []) taken.pending_are.within).0

  apart : IsTakenApart table whole found (rest ++ c ∷ []) → 0 < length parts → IsTakenApart table whole found (rest ++ parts)
  apart taken some = record {
    some = omega (arith, some, length-append rest parts);
    found_are = taken.found_are;
    pending_are = record {
      within = all_append Within rest parts (all_front Within rest (c ∷ []) taken.pending_are.within) (parts_within (last_within taken));
      each = all_append Each rest parts (all_front Each rest (c ∷ []) taken.pending_are.each)
          (parts_each (last_within taken) (all_back Each rest (c ∷ []) taken.pending_are.each).0);
    };
    whole_is = λ word met pending.
        let P : Conjunct → Type 0 = λ part. Satisfies (conjunct_over (tree_at table) part) word in
        taken.whole_is word met
        (all_append P rest (c ∷ []) (all_front P rest parts pending) (
          subst (λ (tree : FormulaTree). Satisfies (asked_tree c.negated tree) word) (sym (tree_is (last_within taken)))
              (whole_over table.names (tree_at table) c.negated (node_at table.nodes c.node) word some (all_back P rest parts pending)),
          tt,
        ));
  }

  passed : IsTakenApart table whole found (rest ++ c ∷ []) → IsTakenApart table whole (found ++ c ∷ []) rest
  passed taken = record {
    some = omega (arith, length-append found (c ∷ []));
    found_are = record {
      within = all_append Within found (c ∷ []) taken.found_are.within (all_back Within rest (c ∷ []) taken.pending_are.within);
      each = all_append Each found (c ∷ []) taken.found_are.each (all_back Each rest (c ∷ []) taken.pending_are.each);
    };
    pending_are = record {
      within = all_front Within rest (c ∷ []) taken.pending_are.within;
      each = all_front Each rest (c ∷ []) taken.pending_are.each;
    };
    whole_is = λ word met pending.
        let P : Conjunct → Type 0 = λ part. Satisfies (conjunct_over (tree_at table) part) word in
        taken.whole_is word (all_front P found (c ∷ []) met) (all_append P rest (c ∷ []) pending (all_back P found (c ∷ []) met));
  }

  -- either way
  pub one_taken : IsTakenApart table whole found (rest ++ c ∷ []) → IsTakenApart table whole (found ++ whole_among c parts) (rest ++ parts)
  one_taken taken = go parts refl
    where
      go : (ps : List Conjunct) → parts ≡ ps → IsTakenApart table whole (found ++ whole_among c ps) (rest ++ ps)
      go [] e = subst (IsTakenApart table whole (found ++ c ∷ [])) (sym (append-nil rest)) (passed taken)
      go (p ∷ ps) e =
          subst (λ (l : List Conjunct). IsTakenApart table whole l (rest ++ p ∷ ps)) (sym (append-nil found))
          (subst (λ (l : List Conjunct). IsTakenApart table whole found (rest ++ l)) e (apart taken (omega (arith, ap length e))))

  -- what is pending is smaller
  abbrev size : Conjunct → ℕ
  size part = formula_size (tree_at table part.node)

  pub smaller : c.node < length table.nodes → sum_by size (rest ++ parts) < sum_by size (rest ++ c ∷ [])
  smaller within =
      let less : sum_by size parts < size c =
      subst (λ (tree : FormulaTree). sum_by size parts < formula_size tree) (sym (tree_is within))
      (smaller_over table.names (tree_at table) c.negated (node_at table.nodes c.node)) in
      omega (arith, sum_by-append size rest parts, sum_by-append size rest (c ∷ []), less)

-- a formula, or its negation, as its one conjunct
pub whole_alone : (formula : NumberedFormula) (negated : Bool) → IsFormula formula
    → IsTakenApart formula.table (asked_tree negated (tree_of formula)) [] (conjunct_of formula.root negated ∷ [])
whole_alone formula negated is = record {
  some = omega arith;
  found_are = record { within = tt; each = tt };
  pending_are = record { within = (is.rooted, tt); each = (itself, tt) };
  whole_is = λ word met pending. pending.0;
}

-- and found
pub whole_found : (formula : NumberedFormula) (negated : Bool) → IsFormula formula
    → AreConjuncts formula (asked_tree negated (tree_of formula)) (conjunct_of formula.root negated ∷ [])
whole_found formula negated is = record {
  some = omega arith;
  found_are = record { within = (is.rooted, tt); each = (itself, tt) };
  pending_are = record { within = tt; each = tt };
  whole_is = λ word met pending. met.0;
}
