-- the stream's text is refused, or the formulas are answered for its items, or one of them is refused
use Rattle.std.proofs.lemmas.Result.{IfErr-weaker, IfOk-weaker}
use Rattle.std.specs.List.{AllZip}
use Rattle.omega_hoa.specs.Stream.{IsStreamRefusal, IsStreamText}
use Rattle.omega_answers.specs.TwoTexts.{OfBoth}
use Rattle.omega_answers_formula.specs.Formula.{IsFormulaOfText}
use Rattle.omega_answers_formula.specs.InTurn.{IsFirstUnread, IsInputUnread}
use Rattle.omega_answers_formula.specs.SatisfiesStream.{IsItemRefused}
use Rattle.omega_answers_formula.specs.declared.refused_formulas.About.TheVariants.{Input}
use Rattle.omega_answers_formula.proofs.InTurn.{refused_of}
use Rattle.omega_answers_formula.proofs.Items.{refused_items}
use Rattle.omega_answers_formula.proofs.satisfies_stream.answers_for_stream.Goals as goal

pub returns-in-Ok-clause-answers : goal.returns-in-Ok-clause-answers
returns-in-Ok-clause-answers c =
    IfOk-weaker c.answers_for_items.result _ _
    (λ made answered. (c.in-Ok.items.items, c.in-Ok.ensures.items, rw c.as_slice.ensures.value at answered))
    c.answers_for_items.ensures.answered

pub returns-in-Ok-clause-refused : goal.returns-in-Ok-clause-refused
returns-in-Ok-clause-refused c = λ texts read.
    IfErr-weaker c.answers_for_items.result _ _
    (λ refused is. refused_items texts c.args.text.now c.args.explain c.args.formulas.now c.in-Ok.items.items read c.in-Ok.ensures.items refused
    (rw c.as_slice.ensures.value at is))
    c.answers_for_items.ensures.refused

pub returns-in-Err-clause-refused : goal.returns-in-Err-clause-refused
returns-in-Err-clause-refused c = λ texts read.
    refused_of (IsFirstUnread texts)
    (λ number refusal. OfBoth (AllZip IsFormulaOfText texts) (IsStreamText c.args.text.now)
    (λ formulas items. IsItemRefused c.args.explain formulas items number refusal))
    (IsInputUnread (IsStreamRefusal c.args.text.now) texts) Input (IsStreamRefusal c.args.text.now)
    (λ refusal is. record { formulas = c.args.formulas.now; read = read; refused = is }) c.in-Err.refusal c.in-Err.ensures.refused
    c.of.result c.of.ensures
