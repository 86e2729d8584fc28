-- `ask_item`: nothing is asked after a refusal, or the item is answered, or is the first that is refused.
use Rattle.std.proofs.Common.{sym, subst, ◌∙◌, [], ◌∷◌, arith}
use Rattle.omega_answers_stream.specs.Answer.{AppendsAnswer}
use Rattle.omega_answers_stream.proofs.InTurn.{asks_none, asks_one}
use Rattle.omega_answers_stream.proofs.asking.ask_item.Goals as goal

pub returns-then-is_some-clause-asked : goal.returns-then-is_some-clause-asked
returns-then-is_some-clause-asked g c = λ before number asks.
    asks_none (g.Q.ItemQuestion.answers c.args.question.now) (g.Q.ItemQuestion.refuses c.args.question.now) before c.args.asked.now.answers.text.items c.args.asked.now.answers.no
    c.args.asked.now.answers.automata (c.args.item.now ∷ []) c.args.asked.now.refused (sym c.is_some.ensures ∙ c.if-is_some.true) asks

pub returns-in-Ok-clause-asked : goal.returns-in-Ok-clause-asked
returns-in-Ok-clause-asked g c = λ before number asks.
    asks_one (g.Q.ItemQuestion.answers c.args.question.now) (g.Q.ItemQuestion.refuses c.args.question.now) before c.args.asked.now.answers.text.items c.args.asked.now.answers.no
    c.args.asked.now.answers.automata c.args.item.now c.append.new.out.items c.in-Ok.no c.count_with-asked.result c.args.asked.now.refused
    (sym c.is_some.ensures ∙ c.if-is_some.false) asks
    (subst (λ n. AppendsAnswer (g.Q.ItemQuestion.answers c.args.question.now n c.args.item.now) c.args.asked.now.answers.text.items c.append.new.out.items c.in-Ok.no) number c.in-Ok.ensures.answer)
    (omega (arith, number, c.requires)) c.count_with-asked.ensures
