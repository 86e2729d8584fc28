-- The answer of `ltl --negated --deterministic` for the text of a formula: the canonical text of a deterministic
-- automaton that accepts exactly the words that do not satisfy the formula.
use Rattle.std.specs.Prelude.{◌≡◌, ◌⊎◌, List, ℕ, Some, true}
use Rattle.omega_canon.specs.Canonical.{canonical_automaton}
use Rattle.omega_hoa_automaton.specs.Automaton.{Description}
use Rattle.omega_ltl_deterministic.specs.Candidate.{IsCandidate}
use Rattle.omega_ltl_equality.specs.Judging.{IsJudged}
use Rattle.omega_ltl_formula.specs.Building.{IsFormulaRefusal}
use Rattle.omega_ltl_formula.specs.Formula.{FormulaTree, unary}
use Rattle.omega_ltl_formula.specs.Table.{NumberedFormula, tree_of}
use Rattle.omega_ltl_formula.specs.declared.operators.UnaryOperator.TheVariants.{Not}
use Rattle.omega_ltl_text.specs.Text.{IsFormulaTextRefusal}
use Rattle.omega_text.specs.declared.refusal.Refusal.{Refusal}
use Rattle.omega_answers_formula.specs.Deterministic.{IsNotDetermined}
use Rattle.omega_answers_formula.specs.Formula.{OfFormula}
use Rattle.omega_answers_formula.specs.Title.{title_of}

-- the automaton with this name
abbrev pub named : List ℕ → Description → Description
named name a = record a { name = Some name }

-- the canonical text of a deterministic automaton with this name that accepts exactly the words that satisfy the
-- formula, over these propositions and with the acceptance `parity min even`
pub record IsNamedAutomatonOf (name : List ℕ) (propositions : List (List ℕ)) (formula : FormulaTree)
    (output : List ℕ) : Type 0 where
  pub candidate : Description
  pub form : IsCandidate propositions candidate
  pub judged : IsJudged formula (named name candidate)
  pub written : output ≡ canonical_automaton (named name candidate)

-- such a text of the negation of the formula, with that as its name, over the formula's names
abbrev pub IsDeterministicNegationOf : NumberedFormula → (output : List ℕ) → Type 0
IsDeterministicNegationOf formula output =
    IsNamedAutomatonOf (title_of true (tree_of formula)) formula.table.names
    (unary Not (tree_of formula)) output

-- the answer: the text is that of a formula, and a deterministic automaton of its negation is written
abbrev pub IsDeterministicNegationAnswer : (text output : List ℕ) → Type 0
IsDeterministicNegationAnswer text output =
    OfFormula (λ formula. IsDeterministicNegationOf formula output) text

-- a formula is the negation of another, over the same names
pub record IsNegation (formula negation : NumberedFormula) : Type 0 where
  pub names : negation.table.names ≡ formula.table.names
  pub tree : tree_of negation ≡ unary Not (tree_of formula)

-- no automaton is written of the negation: it is over a limit, or the search passed one, or what it found is refused by
-- the judge
abbrev pub IsNegationNotDetermined : NumberedFormula → Refusal → Type 0
IsNegationNotDetermined formula refusal = (negation : NumberedFormula) × IsNegation formula negation
    × (IsFormulaRefusal negation refusal ⊎ IsNotDetermined negation refusal)

-- the refusal: that of the text, or else no automaton of the negation of its formula is written
abbrev pub IsDeterministicNegationRefusal : (text : List ℕ) → Refusal → Type 0
IsDeterministicNegationRefusal text refusal =
    IsFormulaTextRefusal text refusal ⊎ OfFormula (λ formula. IsNegationNotDetermined formula refusal) text
