-- The answer of `equal` for the text of a formula and that of an automaton: whether the automaton accepts exactly the
-- words that satisfy the formula, and if not, words that show it. A name of the formula is the proposition of that
-- name.
use Rattle.std.specs.Prelude.{◌++◌, Bool, List, ℕ, codes}
use Rattle.omega_hoa.specs.Alone.{IsAutomatonRefusal, IsAutomatonText}
use Rattle.omega_hoa_automaton.specs.Automaton.{Description}
use Rattle.omega_io.specs.Answer.{IsReply, no_for}
use Rattle.omega_io.specs.declared.answer.Answer.{Answer}
use Rattle.omega_io.specs.declared.answer.Answer.TheVariants.{Yes}
use Rattle.omega_io.specs.declared.exit.Exit.{Exit}
use Rattle.omega_answers_inclusion.specs.Example.{example_lines, word_line}
use Rattle.omega_ltl_equality.specs.Equality.{IsFormulaEquality, IsGivenFor}
use Rattle.omega_ltl_equality.specs.Refusing.{IsFormulaEqualityRefusal}
use Rattle.omega_ltl_equality.specs.declared.formula_equality.FormulaEquality.{FormulaEquality}
use Rattle.omega_ltl_equality.specs.declared.formula_equality.FormulaEquality.TheVariants.{Equal, Excess}
use Rattle.omega_ltl_equality.specs.declared.formula_equality.FormulaEquality.TheVariants.{Missing}
use Rattle.omega_ltl_formula.specs.Table.{NumberedFormula}
use Rattle.omega_answers_formula.specs.InTurn.{AreAnswered, AreRefused}
use Rattle.omega_answers_formula.specs.Satisfies.{OfFormulaAndAutomaton}
use Rattle.omega_answers_formula.specs.declared.refused_formulas.RefusedFormulas.{RefusedFormulas}

-- `yes`, or `no`, explained by a line that says which of the two has the words, and by these, with the lasso along
-- which the automaton accepts them if it does
abbrev pub formula_equality_answer : (explain : Bool) → FormulaEquality → Answer
formula_equality_answer explain Equal = Yes
formula_equality_answer explain (Excess example) =
    no_for explain (codes "accepted by automaton\n" ++ example_lines example)
formula_equality_answer explain (Missing words) =
    no_for explain (codes "accepted by formula\n" ++ word_line words)

-- what is written of a formula and an automaton is right: `yes` if the automaton accepts exactly the words that satisfy
-- the formula, and else `no` with words that show it; for `yes`, and for words that it does not accept, the automaton
-- is deterministic
pub record IsFormulaEqualityVerdict (formula : NumberedFormula) (a : Description) (explain : Bool)
    (exit : Exit) (output : List ℕ) : Type 0 where
  pub answer : FormulaEquality
  pub right : IsFormulaEquality a formula answer
  pub given : IsGivenFor a answer
  pub reply : IsReply (formula_equality_answer explain answer) exit output

-- the answer: what is written of the formula and the automaton is right
abbrev pub IsEqualFormulaAnswer : (formula text : List ℕ) (explain : Bool) → Exit → List ℕ → Type 0
IsEqualFormulaAnswer formula text explain exit output =
    OfFormulaAndAutomaton (λ read a. IsFormulaEqualityVerdict read a explain exit output) formula text

-- the answers of `equal` to the texts of formulas, one after the other
abbrev pub AreEqualAnswers : (formulas : List (List ℕ)) → (text : List ℕ) → (explain : Bool)
    → Exit → List ℕ → Type 0
AreEqualAnswers formulas text explain =
    AreAnswered (λ formula. IsEqualFormulaAnswer formula text explain) formulas

-- the refusal of `equal` for the texts of formulas: that of the first of them that is refused, or else that of the
-- automaton's text, or else that of the first formula that is refused with the automaton
abbrev pub AreEqualRefused : (formulas : List (List ℕ)) → (text : List ℕ) → (explain : Bool)
    → RefusedFormulas → Type 0
AreEqualRefused formulas text explain =
    AreRefused (IsAutomatonText text) (IsAutomatonRefusal text)
    (λ a formula. IsFormulaEqualityVerdict formula a explain) IsFormulaEqualityRefusal formulas
