-- the equality that was decided is told, or memory is wanting
use Rattle.std.proofs.Common.{sym, subst}
use Rattle.std.proofs.lemmas.Result.{IfErr-weaker, IfOk-weaker}
use Rattle.omega_io.proofs.Told.{told}
use Rattle.omega_ltl_equality.specs.Refusing.{IsFormulaEqualityRefusal}
use Rattle.omega_answers_formula.proofs.EqualFormula.{memory_refused}
use Rattle.omega_answers_formula.proofs.equal.formula_equality_reply.Goals as goal

pub returns-clause-verdict : goal.returns-clause-verdict
returns-clause-verdict c =
    IfOk-weaker c.reply.result _ _
    (λ made reply. record {
      answer = c.in_ok-equality.equality;
      right = c.in_ok-equality.ensures.right;
      given = c.in_ok-equality.ensures.given;
      reply = told c.in_ok-answer.answer _ made.0 made.1.items c.in_ok-answer.ensures.answer reply;
    })
    c.reply.ensures.reply

pub returns-clause-refused : goal.returns-clause-refused
returns-clause-refused c =
    IfErr-weaker c.reply.result _ _
    (λ refusal e. subst (IsFormulaEqualityRefusal c.args.automaton.now c.args.formula.now) (sym e)
    (memory_refused c.args.formula.now c.args.automaton.now c.in_ok-equality.equality c.in_ok-equality.ensures.given)) c.reply.ensures.memory
