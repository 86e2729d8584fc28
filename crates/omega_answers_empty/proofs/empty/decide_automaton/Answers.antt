-- `decide_automaton`: what is written is the verdict on the automaton, and the run stays made if there is no memory for
-- it.
use Rattle.std.proofs.Common.{◌≡◌}
use Rattle.std.proofs.lemmas.Result.{IfErr-weaker, IfOk-weaker}
use Rattle.omega_text.specs.declared.refusal.Refusal.TheVariants.{Memory}
use Rattle.omega_answers_empty.proofs.Observing.{automaton_refused}
use Rattle.omega_solve.proofs.within_budget.Observed.{observed_alike, observed_after}
use Rattle.omega_answers_empty.proofs.empty.decide_automaton.Goals as goal

pub returns-clause-decision : goal.returns-clause-decision
returns-clause-decision g c =
    IfOk-weaker c.emptiness_reply.result _ _
    (λ made reply. (
      record {
        given = c.in_ok-verdict.ensures.given;
        within = c.in_ok-verdict.ensures.budget;
        verdict = c.in_ok-verdict.verdict;
        right = c.in_ok-verdict.ensures.verdict;
        written = reply.1;
      },
      reply.0,
    ))
    c.emptiness_reply.ensures.reply

pub returns-clause-refused : goal.returns-clause-refused
returns-clause-refused g c = IfErr-weaker c.emptiness_reply.result _ _ (λ refusal e. rw e tt) c.emptiness_reply.ensures.memory

pub returns-in_err-verdict-clause-reported : goal.returns-in_err-verdict-clause-reported
returns-in_err-verdict-clause-reported g c =
    observed_alike _ _ _ _ c.from_residual.result _ c.in_err-verdict.field-0.0 _ _ c.from_residual.ensures.1
    (λ e same. same) (rw c.in_err-verdict.was at c.emptiness_observed.ensures.reported)

pub returns-clause-reported : goal.returns-clause-reported
returns-clause-reported g c =
    observed_after _ _ _ _ c.emptiness_reply.result (λ refusal. refusal ≡ Memory) _ _ c.emptiness_reply.ensures.memory (λ e. cc)
    (λ refusal other. automaton_refused c.args.automaton.now refusal other)
    (rw c.in_ok-verdict.was at c.emptiness_observed.ensures.reported)
