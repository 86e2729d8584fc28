-- Which formula a text says, and which refusal it meets.
use Rattle.std.specs.Prelude.{◌≡◌, ℕ, ◌<◌, ◌≤◌, ◌⊎◌, List, length}
use Rattle.omega_text.specs.Cases.{never, or_automaton, or_memory, or_task, or_text}
use Rattle.omega_text.specs.Limits.{most_text}
use Rattle.omega_text.specs.Syntax.{IsTextFault, IsTextOf}
use Rattle.omega_text.specs.declared.refusal.Refusal.{Refusal}
use Rattle.omega_text.specs.declared.refusal.automaton.AutomatonFault.TheVariants.{TooDeep}
use Rattle.omega_text.specs.declared.refusal.task.TaskFault.TheVariants.{TooLarge}
use Rattle.omega_ltl_formula.specs.Building.{names_of}
use Rattle.omega_ltl_formula.specs.Formula.{FormulaTree, formula_depth, formula_size}
use Rattle.omega_ltl_formula.specs.Limits.{most_formula_depth, most_formula_names, most_formula_nodes}
use Rattle.omega_ltl_text.specs.Grammar.{formula_syntax}

-- the text is within its limit and says the formula, however deep or large that is
pub record SaysFormula (source : List ℕ) (tree : FormulaTree) : Type 0 where
  pub short : length source ≤ most_text
  pub writes : IsTextOf formula_syntax source tree

-- the formula is within the limits
pub record IsWithinLimits (tree : FormulaTree) : Type 0 where
  pub shallow : formula_depth tree ≤ most_formula_depth
  pub small : formula_size tree ≤ most_formula_nodes
  pub few_names : length (names_of tree) ≤ most_formula_names

-- the text says the formula, and both are within their limits
pub record IsFormulaText (source : List ℕ) (tree : FormulaTree) : Type 0 where
  pub says : SaysFormula source tree
  pub within : IsWithinLimits tree

-- the text says a formula that is too deep
pub record SaysTooDeep (source : List ℕ) : Type 0 where
  pub tree : FormulaTree
  pub says : SaysFormula source tree
  pub deep : most_formula_depth < formula_depth tree

-- the text says a formula that is not too deep, and too large or with too many names
pub record SaysTooLarge (source : List ℕ) : Type 0 where
  pub tree : FormulaTree
  pub says : SaysFormula source tree
  pub shallow : formula_depth tree ≤ most_formula_depth
  pub large : (most_formula_nodes < formula_size tree) ⊎ (most_formula_names < length (names_of tree))

-- the refusal of a text: that of its bytes, or else the depth, or else the size of the formula that it says
abbrev pub IsFormulaTextRefusal : List ℕ → Refusal → Type 0
IsFormulaTextRefusal source = or_text (IsTextFault formula_syntax source)
    (or_automaton (λ fault. (fault ≡ TooDeep) × SaysTooDeep source)
    (or_task (λ fault. (fault ≡ TooLarge) × SaysTooLarge source) never))

-- the refusals of a call that reads: that of the text, or `Memory`
abbrev pub IsReadFormulaRefusal : List ℕ → Refusal → Type 0
IsReadFormulaRefusal source = or_memory (IsFormulaTextRefusal source)
