-- the word's text is refused, or the formulas are answered for the word, or one of them is refused
use Rattle.std.proofs.Common.{◌⊎◌, inl, inr}
use Rattle.std.proofs.lemmas.Result.{IfErr-weaker}
use Rattle.std.specs.List.{AllZip}
use Rattle.omega_lang_word_text.specs.Text.{IsReadWordRefusal, IsWordRefusal, IsWordText}
use Rattle.omega_ltl_formula.specs.Table.{NumberedFormula}
use Rattle.omega_ltl_satisfaction.specs.WordRefusing.{oversized}
use Rattle.omega_answers.specs.TwoTexts.{OfBoth}
use Rattle.omega_text.specs.Cases.{or_memory}
use Rattle.omega_text.specs.declared.refusal.Refusal.{Refusal}
use Rattle.omega_text.specs.declared.refusal.Refusal.TheVariants.{Automaton, Circuit, Game, Io, Memory, Task, Text}
use Rattle.omega_answers_formula.specs.Formula.{IsFormulaOfText}
use Rattle.omega_answers_formula.specs.InTurn.{IsFirstRefused, IsFirstUnread, IsInputUnread}
use Rattle.omega_answers_formula.specs.SatisfiesWord.{IsWordTextRefused, IsWordTextVerdict}
use Rattle.omega_answers_formula.specs.declared.refused_formulas.About.TheVariants.{Input}
use Rattle.omega_answers_formula.proofs.InTurn.{asking_other, refused_asking, refused_of}
use Rattle.omega_answers_formula.proofs.satisfies_word.answers_for_word.Goals as goal

-- what is never refused, but for want of memory
only_memory : (own other : Refusal → Type 0) → ((refusal : Refusal) → own refusal → ⊥) → other Memory → (refusal : Refusal)
    → or_memory own refusal → other refusal
only_memory own other never memory (Text fault) is = absurd (never (Text fault) is)
only_memory own other never memory (Game fault) is = absurd (never (Game fault) is)
only_memory own other never memory (Automaton fault) is = absurd (never (Automaton fault) is)
only_memory own other never memory (Circuit fault) is = absurd (never (Circuit fault) is)
only_memory own other never memory (Task fault) is = absurd (never (Task fault) is)
only_memory own other never memory Memory is = memory
only_memory own other never memory Io is = absurd (never Io is)

pub returns-clause-refused : goal.returns-clause-refused
returns-clause-refused c = λ texts read.
    let text = c.args.text.now in
    let word = c.in_default.field-0 in
    let own : (formula : NumberedFormula) (refusal : Refusal) → IsReadWordRefusal text refusal → IsWordTextRefused text formula refusal =
    λ formula refusal is. only_memory (IsWordRefusal text) (IsWordTextRefused text formula)
    (λ other is. c.words_are_not_refused.ensures text word other c.in_default.ensures.word is) (word, c.in_default.ensures.word, oversized tt) refusal is in
    IfErr-weaker c.answers_in_turn.result _ _
    (λ refused is. refused_asking (IsWordText text) (IsWordRefusal text) (λ symbolic. IsWordTextVerdict text c.args.explain)
    (λ symbolic. IsWordTextRefused text) texts c.args.formulas.now word read c.in_default.ensures.word refused
    (asking_other (IsWordTextVerdict text c.args.explain) (λ formula refusal. IsReadWordRefusal text refusal ⊎ IsWordTextRefused text formula refusal)
    (IsWordTextRefused text) (λ formula refusal either. elim either [ inl is ↦ own formula refusal is | inr is ↦ is ]) c.args.formulas.now refused is))
    c.answers_in_turn.ensures.refused

pub returns-in-Err-clause-refused : goal.returns-in-Err-clause-refused
returns-in-Err-clause-refused c = λ texts read.
    refused_of (IsFirstUnread texts)
    (λ number refusal. OfBoth (AllZip IsFormulaOfText texts) (IsWordText c.args.text.now)
    (λ formulas symbolic. IsFirstRefused (IsWordTextVerdict c.args.text.now c.args.explain) (IsWordTextRefused c.args.text.now) formulas number refusal))
    (IsInputUnread (IsWordRefusal c.args.text.now) texts) Input (IsWordRefusal c.args.text.now)
    (λ refusal is. record { formulas = c.args.formulas.now; read = read; refused = is }) c.in-Err.refusal c.in-Err.ensures.refused
    c.of.result c.of.ensures
