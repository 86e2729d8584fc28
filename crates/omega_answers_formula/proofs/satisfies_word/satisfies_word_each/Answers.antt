-- the formulas are read and answered for the word, or one of their texts is refused
use Rattle.std.proofs.lemmas.Result.{IfOk-weaker}
use Rattle.omega_lang_word_text.specs.Text.{IsWordRefusal, IsWordText}
use Rattle.omega_answers_formula.specs.Formula.{IsFormulaOfText}
use Rattle.omega_answers_formula.specs.SatisfiesWord.{IsSatisfiesWordAnswer, IsWordTextRefused, IsWordTextVerdict}
use Rattle.omega_answers_formula.proofs.InTurn.{answered_texts, refused_reading}
use Rattle.omega_answers_formula.proofs.satisfies_word.satisfies_word_each.Goals as goal

pub returns-in-Ok-clause-answers : goal.returns-in-Ok-clause-answers
returns-in-Ok-clause-answers c =
    IfOk-weaker c.answers_for_word.result _ _
    (λ made answered. answered_texts IsFormulaOfText (IsWordTextVerdict c.args.word.now c.args.explain)
    (λ formula. IsSatisfiesWordAnswer formula c.args.word.now c.args.explain)
    (λ text formula exit output reads (symbolic, of_text, verdict). record { file = formula; file_read = reads; input = symbolic; input_read = of_text; holds = verdict })
    c.args.formulas.now c.in-Ok.read.items made.exit made.text.items c.in-Ok.ensures.read (rw c.as_slice.ensures.value at answered))
    c.answers_for_word.ensures.answers

pub returns-in-Ok-clause-refused : goal.returns-in-Ok-clause-refused
returns-in-Ok-clause-refused c =
    c.answers_for_word.ensures.refused c.args.formulas.now (rw c.as_slice.ensures.value c.in-Ok.ensures.read)

pub returns-in-Err-clause-refused : goal.returns-in-Err-clause-refused
returns-in-Err-clause-refused c =
    refused_reading (IsWordText c.args.word.now) (IsWordRefusal c.args.word.now) (λ symbolic. IsWordTextVerdict c.args.word.now c.args.explain)
    (λ symbolic. IsWordTextRefused c.args.word.now) c.args.formulas.now c.in-Err.refused c.in-Err.ensures.refused
