-- the fault that the judge of lassos found is told, or that there is none
use Rattle.std.proofs.lemmas.Result.{IfErr-weaker, IfOk-weaker}
use Rattle.omega_io.proofs.Told.{told}
use Rattle.omega_answers_automaton.proofs.Faults.{first_fault}
use Rattle.omega_answers_automaton.proofs.verify.verdict_on.Goals as goal

pub returns-clause-verdict : goal.returns-clause-verdict
returns-clause-verdict c =
    IfOk-weaker c.reply.result _ _
    (λ made reply. record {
      fault = c.in_ok-fault.fault;
      right = first_fault c.args.automaton.now c.args.lasso.now c.in_ok-fault.fault
          (rw (c.as_slice-stem.ensures, c.as_slice.ensures) at c.in_ok-fault.ensures.accepting)
          (rw (c.as_slice-stem.ensures, c.as_slice.ensures) at c.in_ok-fault.ensures.fault);
      reply = told c.in_ok-answer.answer _ made.0 made.1.items c.in_ok-answer.ensures.answer reply;
    })
    c.reply.ensures.reply

pub returns-clause-refused : goal.returns-clause-refused
returns-clause-refused c = IfErr-weaker c.reply.result _ _ (λ refusal e. rw e tt) c.reply.ensures.memory
