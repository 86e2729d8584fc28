-- the formulas are read and answered for the stream, or one of their texts is refused
use Rattle.std.proofs.lemmas.Result.{IfOk-weaker}
use Rattle.std.specs.List.{AllZip}
use Rattle.omega_hoa.specs.Stream.{IsStreamRefusal, IsStreamText}
use Rattle.omega_answers.specs.TwoTexts.{OfBoth}
use Rattle.omega_answers_formula.specs.Formula.{IsFormulaOfText}
use Rattle.omega_answers_formula.specs.InTurn.{IsInputUnread}
use Rattle.omega_answers_formula.specs.SatisfiesStream.{IsItemRefused}
use Rattle.omega_answers_formula.proofs.InTurn.{refused_by_reading}
use Rattle.omega_answers_formula.proofs.satisfies_stream.satisfies_stream_each.Goals as goal

pub returns-in-Ok-clause-answers : goal.returns-in-Ok-clause-answers
returns-in-Ok-clause-answers c =
    IfOk-weaker c.answers_for_stream.result _ _
    (λ made (items, of_text, answered). record {
      file = c.in-Ok.read.items;
      file_read = c.in-Ok.ensures.read;
      input = items;
      input_read = of_text;
      holds = rw c.as_slice.ensures.value at answered;
    })
    c.answers_for_stream.ensures.answers

pub returns-in-Ok-clause-refused : goal.returns-in-Ok-clause-refused
returns-in-Ok-clause-refused c =
    c.answers_for_stream.ensures.refused c.args.formulas.now (rw c.as_slice.ensures.value c.in-Ok.ensures.read)

pub returns-in-Err-clause-refused : goal.returns-in-Err-clause-refused
returns-in-Err-clause-refused c =
    refused_by_reading c.args.formulas.now
    (λ number refusal. OfBoth (AllZip IsFormulaOfText c.args.formulas.now) (IsStreamText c.args.text.now)
    (λ read items. IsItemRefused c.args.explain read items number refusal))
    (IsInputUnread (IsStreamRefusal c.args.text.now) c.args.formulas.now) c.in-Err.refused c.in-Err.ensures.refused
