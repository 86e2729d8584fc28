-- One formula that is refused.
use Rattle.std.proofs.Common.{ℕ, Bool, List, [], ◌∷◌, Option, None, Some, inl, inr, refl, subst}
use Rattle.std.specs.List.{AllZip}
use Rattle.omega_text.specs.declared.refusal.Refusal.{Refusal}
use Rattle.omega_hoa.specs.Alone.{IsAutomatonRefusal, IsAutomatonText}
use Rattle.omega_hoa_automaton.specs.Automaton.{Description}
use Rattle.omega_ltl_formula.specs.Table.{NumberedFormula}
use Rattle.omega_ltl_satisfaction.specs.Refusing.{IsSatisfactionRefusal}
use Rattle.omega_ltl_text.specs.Text.{IsFormulaTextRefusal}
use Rattle.omega_answers.specs.TwoTexts.{OfBoth}
use Rattle.omega_answers_formula.specs.Formula.{IsFormulaOfText}
use Rattle.omega_answers_formula.specs.InTurn.{IsAbout, IsFirstRefused, IsFirstUnread, IsInputUnread}
use Rattle.omega_answers_formula.specs.Refused.{text_about, unnumbered}
use Rattle.omega_answers_formula.specs.Satisfies.{AreSatisfiesRefused, IsSatisfactionVerdict, IsSatisfiesRefused}
use Rattle.omega_answers_formula.specs.declared.refused_formulas.About.{About}
use Rattle.omega_answers_formula.specs.declared.refused_formulas.About.TheVariants.{Formula, Input, Question}
use Rattle.omega_answers_formula.specs.declared.refused_formulas.RefusedFormulas.{RefusedFormulas}
use Rattle.omega_answers_formula.proofs.InTurn.{numbered_alone}

module _ (formula text : List ℕ) (explain : Bool) where
  -- the formula's own text is refused
  text_refused : (number : ℕ) (refusal : Refusal) → IsFirstUnread (formula ∷ []) number refusal → IsFormulaTextRefusal formula refusal
  text_refused number refusal unread =
      subst (λ (text : List ℕ). IsFormulaTextRefusal text refusal) (numbered_alone formula number unread.before unread.text unread.numbered) unread.refused

  -- the automaton is refused
  input_refused : (refusal : Refusal) → IsInputUnread (IsAutomatonRefusal text) (formula ∷ []) refusal
      → (read : NumberedFormula) × IsFormulaOfText formula read × IsAutomatonRefusal text refusal
  input_refused refusal unread = go unread.formulas unread.read
    where
      go : (formulas : List NumberedFormula) → AllZip IsFormulaOfText (formula ∷ []) formulas
          → (read : NumberedFormula) × IsFormulaOfText formula read × IsAutomatonRefusal text refusal
      go [] read = absurd read
      go (one ∷ []) read = (one, read.0, unread.refused)
      go (one ∷ other ∷ rest) read = absurd read.1

  -- the formula is refused with the automaton
  question_refused : (number : ℕ) (refusal : Refusal) (a : Description) (formulas : List NumberedFormula) → AllZip IsFormulaOfText (formula ∷ []) formulas
      → IsAutomatonText text a → IsFirstRefused (λ formula. IsSatisfactionVerdict formula a explain) (IsSatisfactionRefusal a) formulas number refusal
      → IsSatisfiesRefused formula text (record { refusal = refusal; text = None })
  question_refused number refusal a [] read of_input refused = absurd read
  question_refused number refusal a (one ∷ []) read of_input refused = inr (record {
    file = one;
    file_read = read.0;
    input = a;
    input_read = of_input;
    holds = (
      refl,
      subst (λ (formula : NumberedFormula). IsSatisfactionRefusal a formula refusal)
          (numbered_alone one number refused.before refused.formula refused.numbered) refused.refused,
    );
  })
  question_refused number refusal a (one ∷ other ∷ rest) read of_input refused = absurd read.1

  -- what refuses a list of one formula refuses the formula
  pub refused_alone : (refused : RefusedFormulas) → AreSatisfiesRefused (formula ∷ []) text explain refused → IsSatisfiesRefused formula text (unnumbered refused)
  refused_alone refused is = go refused.about refused.refusal is
    where
      go : (about : Option About) (refusal : Refusal)
          → IsAbout (IsFirstUnread (formula ∷ []))
          (λ number refusal. OfBoth (AllZip IsFormulaOfText (formula ∷ [])) (IsAutomatonText text)
          (λ formulas a. IsFirstRefused (λ formula. IsSatisfactionVerdict formula a explain) (IsSatisfactionRefusal a) formulas number refusal))
          (IsInputUnread (IsAutomatonRefusal text) (formula ∷ [])) about refusal
          → IsSatisfiesRefused formula text (record { refusal = refusal; text = text_about about })
      go None refusal is = inl is
      go (Some (Formula number)) refusal is = inl (text_refused number refusal is)
      go (Some Input) refusal is = inl (input_refused refusal is)
      go (Some (Question number)) refusal is = question_refused number refusal is.input is.file is.file_read is.input_read is.holds
