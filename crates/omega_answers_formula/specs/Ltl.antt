-- The answer of `ltl` for the text of a formula: the canonical text of an automaton that accepts exactly the words that
-- satisfy the formula, or exactly those that do not.
use Rattle.std.specs.Prelude.{◌≡◌, ◌⊎◌, ◌≤◌, Bool, List, ℕ, length}
use Rattle.omega_text.specs.declared.refusal.Refusal.{Refusal}
use Rattle.omega_canon.specs.Canonical.{canonical_automaton}
use Rattle.omega_hoa_automaton.specs.Automaton.{Description}
use Rattle.omega_ltl_formula.specs.Formula.{formula_size}
use Rattle.omega_ltl_formula.specs.Table.{NumberedFormula, tree_of}
use Rattle.omega_ltl_terms.specs.Adding.{IsLargeBy}
use Rattle.omega_ltl_text.specs.Text.{IsFormulaTextRefusal}
use Rattle.omega_ltl_translation.specs.PastLimits.{IsPastLimits}
use Rattle.omega_ltl_translation.specs.Translation.{HasHeader, IsGeneralizedBuchi, IsTranslation}
use Rattle.omega_ltl_translation.specs.Translation.{asked_tree, given_name}
use Rattle.omega_answers_formula.specs.Formula.{OfFormula}
use Rattle.omega_answers_formula.specs.Title.{title_of}

-- the canonical text of an automaton of the formula, or of its negation: with that as its name, with the names of the
-- formula as its propositions, and with a generalized Büchi acceptance
pub record IsAutomatonOf (negated : Bool) (formula : NumberedFormula) (output : List ℕ) : Type 0 where
  pub automaton : Description
  pub right : IsTranslation (asked_tree negated (tree_of formula)) automaton
  pub buchi : IsGeneralizedBuchi automaton
  pub header : HasHeader (given_name (title_of negated (tree_of formula))) formula.table.names automaton
  pub written : output ≡ canonical_automaton automaton

-- the answer of `ltl`: the text is that of a formula, and an automaton of it is written
abbrev pub IsLtlAnswer : (text : List ℕ) (negated : Bool) (output : List ℕ) → Type 0
IsLtlAnswer text negated output = OfFormula (λ formula. IsAutomatonOf negated formula output) text

-- the automaton of a formula, or of its negation, is too large, or memory is wanting. The table of the formula has no
-- more nodes than the formula
pub record IsUntranslated (negated : Bool) (formula : NumberedFormula) (refusal : Refusal) : Type 0 where
  pub few : length formula.table.nodes ≤ formula_size (tree_of formula)
  pub large : IsLargeBy (IsPastLimits formula negated) refusal

-- the refusal of `ltl`: that of the text, or else that of the automaton of its formula
abbrev pub IsLtlRefusal : (text : List ℕ) (negated : Bool) → Refusal → Type 0
IsLtlRefusal text negated refusal =
    IsFormulaTextRefusal text refusal ⊎ OfFormula (λ formula. IsUntranslated negated formula refusal) text
