-- The answer of `satisfies` for the text of a formula and that of an automaton: whether each word that the automaton
-- accepts satisfies the formula. A name of the formula is the proposition of that name.
use Rattle.std.specs.Prelude.{◌≡◌, ◌⊎◌, Bool, false, List, ℕ}
use Rattle.omega_hoa.specs.Alone.{IsAutomatonRefusal, IsAutomatonText}
use Rattle.omega_hoa_automaton.specs.Automaton.{Description}
use Rattle.omega_hoa_automaton.specs.Branching.{has_universal_branching}
use Rattle.omega_io.specs.Answer.{IsReply, no_for}
use Rattle.omega_io.specs.declared.answer.Answer.{Answer}
use Rattle.omega_io.specs.declared.answer.Answer.TheVariants.{Yes}
use Rattle.omega_io.specs.declared.exit.Exit.{Exit}
use Rattle.omega_io.specs.declared.refused.Refused.{Refused}
use Rattle.omega_answers.specs.TwoTexts.{IsAboutNeither, IsEitherRefused, OfBoth}
use Rattle.omega_answers_inclusion.specs.Example.{example_lines}
use Rattle.omega_ltl_formula.specs.Table.{NumberedFormula}
use Rattle.omega_ltl_satisfaction.specs.Refusing.{IsSatisfactionRefusal}
use Rattle.omega_ltl_satisfaction.specs.Satisfaction.{IsSatisfaction}
use Rattle.omega_ltl_satisfaction.specs.declared.satisfaction.Satisfaction.{Satisfaction}
use Rattle.omega_ltl_satisfaction.specs.declared.satisfaction.Satisfaction.TheVariants.{NotSatisfied, Satisfied}
use Rattle.omega_ltl_text.specs.Text.{IsFormulaTextRefusal}
use Rattle.omega_answers_formula.specs.Formula.{IsFormulaOfText}
use Rattle.omega_answers_formula.specs.InTurn.{AreAnswered, AreRefused}
use Rattle.omega_answers_formula.specs.declared.refused_formulas.RefusedFormulas.{RefusedFormulas}

-- `yes`, or `no`, explained by the counterexample
abbrev pub satisfaction_answer : (explain : Bool) → Satisfaction → Answer
satisfaction_answer explain Satisfied = Yes
satisfaction_answer explain (NotSatisfied example) = no_for explain (example_lines example)

-- what is written of a formula and an automaton is right: `yes` if each word that the automaton accepts satisfies the
-- formula, and else `no` with a counterexample
pub record IsSatisfactionVerdict (formula : NumberedFormula) (a : Description) (explain : Bool)
    (exit : Exit) (output : List ℕ) : Type 0 where
  pub plain : has_universal_branching a ≡ false
  pub answer : Satisfaction
  pub right : IsSatisfaction a formula answer
  pub reply : IsReply (satisfaction_answer explain answer) exit output

-- the texts are those of a formula and of an automaton, and this holds of the two
abbrev pub OfFormulaAndAutomaton : (NumberedFormula → Description → Type 0)
    → (formula text : List ℕ) → Type 0
OfFormulaAndAutomaton Holds formula text = OfBoth (IsFormulaOfText formula) (IsAutomatonText text) Holds

-- the one is not the text of a formula, or the other not that of an automaton
abbrev pub IsFormulaOrAutomatonUnread : (formula text : List ℕ) → Refused → Type 0
IsFormulaOrAutomatonUnread formula text =
    IsEitherRefused (IsFormulaOfText formula) (IsFormulaTextRefusal formula) (IsAutomatonRefusal text)

-- the answer of `satisfies`: what is written of the formula and the automaton is right
abbrev pub IsSatisfiesAnswer : (formula text : List ℕ) (explain : Bool) → Exit → List ℕ → Type 0
IsSatisfiesAnswer formula text explain exit output =
    OfFormulaAndAutomaton (λ read a. IsSatisfactionVerdict read a explain exit output) formula text

-- the refusal of `satisfies`, which calls the text of the formula the file and the other the input: that of one of the
-- texts, or else that of both together, which is about neither
abbrev pub IsSatisfiesRefused : (formula text : List ℕ) → Refused → Type 0
IsSatisfiesRefused formula text refused = IsFormulaOrAutomatonUnread formula text refused
    ⊎ OfFormulaAndAutomaton (λ read a. IsAboutNeither (IsSatisfactionRefusal a read) refused) formula text

-- ---- several formulas

-- the answers of `satisfies` to the texts of formulas, one after the other
abbrev pub AreSatisfiesAnswers : (formulas : List (List ℕ)) → (text : List ℕ) → (explain : Bool)
    → Exit → List ℕ → Type 0
AreSatisfiesAnswers formulas text explain =
    AreAnswered (λ formula. IsSatisfiesAnswer formula text explain) formulas

-- the refusal of `satisfies` for the texts of formulas: that of the first of them that is refused, or else that of the
-- automaton's text, or else that of the first formula that is refused with the automaton
abbrev pub AreSatisfiesRefused : (formulas : List (List ℕ)) → (text : List ℕ) → (explain : Bool)
    → RefusedFormulas → Type 0
AreSatisfiesRefused formulas text explain =
    AreRefused (IsAutomatonText text) (IsAutomatonRefusal text)
    (λ a formula. IsSatisfactionVerdict formula a explain) IsSatisfactionRefusal formulas
