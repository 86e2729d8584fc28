-- the automaton's text is refused, or the formulas are answered for the automaton, or one of them is refused
use Rattle.std.proofs.Common.{Err, IfOk, Ok, Result}
use Rattle.std.proofs.lemmas.Result.{IfErr-weaker}
use Rattle.omega_hoa.specs.Alone.{IsAutomatonRefusal, IsAutomatonText}
use Rattle.omega_ltl_equality.specs.Refusing.{IsFormulaEqualityRefusal}
use Rattle.omega_answers.specs.TwoTexts.{OfBoth}
use Rattle.omega_answers_formula.specs.InTurn.{IsFirstRefused, IsFirstUnread, IsInputUnread}
use Rattle.omega_answers_formula.specs.Formula.{IsFormulaOfText}
use Rattle.std.specs.List.{AllZip}
use Rattle.omega_answers_formula.specs.EqualFormula.{IsFormulaEqualityVerdict}
use Rattle.omega_answers_formula.specs.declared.refused_formulas.About.TheVariants.{Input}
use Rattle.omega_answers_formula.proofs.InTurn.{refused_asking, refused_of}
use Rattle.omega_answers_formula.proofs.equal.answers_for_text.Goals as goal

-- two things that hold of a value give a third
ok_both : {T E : Type 0} (result : Result T E) (One Other Both : T → Type 0) → ((value : T) → One value → Other value → Both value)
    → IfOk result One → IfOk result Other → IfOk result Both
ok_both (Ok value) One Other Both both one other = both value one other
ok_both (Err error) One Other Both both one other = tt

pub returns-in-Ok-clause-answers : goal.returns-in-Ok-clause-answers
returns-in-Ok-clause-answers c =
    ok_both c.answers_for_automaton.result _ _ _
    (λ made answered unmentioned. (c.in-Ok.automaton, c.in-Ok.ensures.automaton, answered, unmentioned))
    c.answers_for_automaton.ensures.answered c.answers_for_automaton.ensures.unmentioned

pub returns-in-Ok-clause-refused : goal.returns-in-Ok-clause-refused
returns-in-Ok-clause-refused c = λ texts read.
    IfErr-weaker c.answers_for_automaton.result _ _
    (λ refused is. refused_asking (IsAutomatonText c.args.text.now) (IsAutomatonRefusal c.args.text.now)
    (λ a formula. IsFormulaEqualityVerdict formula a c.args.explain) IsFormulaEqualityRefusal texts
    c.args.formulas.now c.in-Ok.automaton read c.in-Ok.ensures.automaton refused is)
    c.answers_for_automaton.ensures.refused

pub returns-in-Err-clause-refused : goal.returns-in-Err-clause-refused
returns-in-Err-clause-refused c = λ texts read.
    refused_of (IsFirstUnread texts)
    (λ number refusal. OfBoth (AllZip IsFormulaOfText texts) (IsAutomatonText c.args.text.now)
    (λ formulas a. IsFirstRefused (λ formula. IsFormulaEqualityVerdict formula a c.args.explain) (IsFormulaEqualityRefusal a) formulas number refusal))
    (IsInputUnread (IsAutomatonRefusal c.args.text.now) texts) Input (IsAutomatonRefusal c.args.text.now)
    (λ refusal is. record { formulas = c.args.formulas.now; read = read; refused = is }) c.in-Err.refusal c.in-Err.ensures.refused
    c.of.result c.of.ensures
