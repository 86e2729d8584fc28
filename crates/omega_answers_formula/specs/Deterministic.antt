-- The answer of `ltl --deterministic` for the text of a formula: the canonical text of a deterministic automaton that
-- accepts exactly the words that satisfy the formula.
use Rattle.std.specs.Prelude.{◌≡◌, ◌⊎◌, List, ℕ}
use Rattle.omega_canon.specs.Canonical.{canonical_automaton}
use Rattle.omega_hoa_automaton.specs.Automaton.{Description}
use Rattle.omega_ltl_determinization.specs.Refusing.{IsLarge}
use Rattle.omega_ltl_deterministic.specs.Candidate.{IsCandidate}
use Rattle.omega_ltl_equality.specs.Judging.{IsJudged, IsJudgingRefusal}
use Rattle.omega_ltl_formula.specs.Table.{NumberedFormula, tree_of}
use Rattle.omega_ltl_text.specs.Text.{IsFormulaTextRefusal}
use Rattle.omega_text.specs.declared.refusal.Refusal.{Refusal}
use Rattle.omega_answers_formula.specs.Formula.{OfFormula}

-- the canonical text of a deterministic automaton that accepts exactly the words that satisfy the formula, over the
-- formula's names and with the acceptance `parity min even`
pub record IsDeterministicAutomatonOf (formula : NumberedFormula) (output : List ℕ) : Type 0 where
  pub automaton : Description
  pub judged : IsJudged (tree_of formula) automaton
  pub form : IsCandidate formula.table.names automaton
  pub written : output ≡ canonical_automaton automaton

-- the answer of `ltl --deterministic`: the text is that of a formula, and a deterministic automaton of it is written
abbrev pub IsDeterministicAnswer : (text output : List ℕ) → Type 0
IsDeterministicAnswer text output = OfFormula (λ formula. IsDeterministicAutomatonOf formula output) text

-- no automaton is written of the formula: the search passed a limit, or what it found is refused by the judge
abbrev pub IsNotDetermined : NumberedFormula → Refusal → Type 0
IsNotDetermined formula refusal = IsLarge refusal
    ⊎ ((a : Description) × IsCandidate formula.table.names a × IsJudgingRefusal a formula refusal)

-- the refusal of `ltl --deterministic`: that of the text, or else no automaton of its formula is written
abbrev pub IsDeterministicRefusal : (text : List ℕ) → Refusal → Type 0
IsDeterministicRefusal text refusal =
    IsFormulaTextRefusal text refusal ⊎ OfFormula (λ formula. IsNotDetermined formula refusal) text
