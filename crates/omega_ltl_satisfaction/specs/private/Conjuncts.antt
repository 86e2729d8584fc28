-- The conjuncts of a formula or of its negation, by the nodes of its table.
use Rattle.std.specs.Prelude.{◌<◌, ◌+◌, ℕ, Bool, false, true, not, List, [], ◌∷◌, length}
use Rattle.std.specs.List.{AllByRecursion}
use Rattle.omega_text.specs.NamedWords.{NamedWord}
use Rattle.omega_ltl_formula.specs.Formula.{FormulaTree}
use Rattle.omega_ltl_formula.specs.Meaning.{Satisfies}
use Rattle.omega_ltl_formula.specs.Table.{FormulaTable, NumberedFormula, tree_at}
use Rattle.omega_ltl_formula.specs.declared.node.FormulaNode.{FormulaNode}
use Rattle.omega_ltl_formula.specs.declared.node.FormulaNode.TheVariants.{Binary, Unary}
use Rattle.omega_ltl_formula.specs.declared.operators.BinaryOperator.TheVariants.{And, Implies, Or}
use Rattle.omega_ltl_formula.specs.declared.operators.UnaryOperator.TheVariants.{Not}
use Rattle.omega_ltl_translation.specs.Translation.{asked_tree}
use Rattle.omega_ltl_satisfaction.specs.Conjuncts.{IsConjunctOf}
use Rattle.omega_ltl_satisfaction.specs.declared.conjunct.Conjunct.{Conjunct}

-- the conjunct of a node and a sign
abbrev pub conjunct_of : ℕ → Bool → Conjunct
conjunct_of node negated = record { node = node; negated = negated }

-- what a conjunct with a node is taken apart into, the last first; nothing if it is whole
abbrev pub parts_of : Bool → FormulaNode → List Conjunct
parts_of negated (Unary Not part) = conjunct_of part (not negated) ∷ []
parts_of false (Binary And left right) = conjunct_of right false ∷ conjunct_of left false ∷ []
parts_of true (Binary Or left right) = conjunct_of right true ∷ conjunct_of left true ∷ []
parts_of true (Binary Implies left right) = conjunct_of right true ∷ conjunct_of left false ∷ []
parts_of negated node = []

-- a conjunct itself, if it is taken apart into nothing
abbrev pub whole_among : Conjunct → List Conjunct → List Conjunct
whole_among conjunct [] = conjunct ∷ []
whole_among conjunct (part ∷ parts) = []

-- the formula that a conjunct is, where nodes are these
abbrev pub conjunct_over : (ℕ → FormulaTree) → Conjunct → FormulaTree
conjunct_over tree conjunct = asked_tree conjunct.negated (tree conjunct.node)

-- a word satisfies each of some conjuncts
abbrev pub AreMet : (ℕ → FormulaTree) → List Conjunct → NamedWord → Type 0
AreMet tree conjuncts word =
    AllByRecursion (λ conjunct. Satisfies (conjunct_over tree conjunct) word) conjuncts

-- some conjuncts of a formula are of nodes of a table
pub record AreSome (table : FormulaTable) (whole : FormulaTree) (conjuncts : List Conjunct) : Type 0 where
  pub within : AllByRecursion (λ conjunct. conjunct.node < length table.nodes) conjuncts
  pub each :
      AllByRecursion (λ conjunct. IsConjunctOf whole (conjunct_over (tree_at table) conjunct)) conjuncts

-- some conjuncts of a formula and others that are pending are all of them
pub record IsTakenApart (table : FormulaTable) (whole : FormulaTree) (found pending : List Conjunct)
    : Type 0 where
  pub some : 0 < length found + length pending
  pub found_are : AreSome table whole found
  pub pending_are : AreSome table whole pending
  pub whole_is : (word : NamedWord) → AreMet (tree_at table) found word → AreMet (tree_at table) pending word
      → Satisfies whole word

-- conjuncts are all those of `whole`, a formula whose parts are nodes of another
abbrev pub AreConjuncts : NumberedFormula → FormulaTree → List Conjunct → Type 0
AreConjuncts formula whole conjuncts = IsTakenApart formula.table whole conjuncts []
