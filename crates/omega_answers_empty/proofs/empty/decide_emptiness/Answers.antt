-- `decide_emptiness`: what is written, refused or reported is that of the automaton that was read.
use Rattle.std.proofs.Common.{rules}
use Rattle.std.proofs.lemmas.Result.{IfErr-weaker, IfOk-weaker}
use Rattle.omega_text.specs.Cases.{or_memory}
use Rattle.omega_empty.specs.Deciding.{IsEmptinessRefusal}
use Rattle.omega_hoa.specs.Alone.{IsAutomatonRefusal}
use Rattle.omega_solve.proofs.within_budget.Observed.{none_observed, spares, observed_alike, observed_as}
use Rattle.omega_answers.proofs.OneText.{automaton_refused, text_refused}
use Rattle.omega_answers.proofs.Refusals.{text_spares}
use Rattle.omega_answers_empty.specs.empty.Answer.{IsEmptyRefusal}
use Rattle.omega_answers_empty.proofs.empty.decide_emptiness.Goals as goal

pub returns-clause-answer : goal.returns-clause-answer
returns-clause-answer g c =
    IfOk-weaker c.decide_automaton.result _ _
    (λ made decided. record { automaton = c.in_ok-automaton.automaton; read = c.in_ok-automaton.ensures.automaton; holds = decided })
    c.decide_automaton.ensures.decision

pub returns-in_err-automaton-clause-refused : goal.returns-in_err-automaton-clause-refused
returns-in_err-automaton-clause-refused g c =
    let refused : or_memory (IsEmptyRefusal c.args.text.now c.args.budget) c.in_err-automaton.field-0.0 =
    text_refused (λ automaton refusal. IsEmptinessRefusal automaton c.args.budget refusal) c.args.text.now _ c.in_err-automaton.ensures.refused in
    search rules

pub returns-clause-refused : goal.returns-clause-refused
returns-clause-refused g c =
    IfErr-weaker c.decide_automaton.result _ _
    (automaton_refused (λ automaton refusal. IsEmptinessRefusal automaton c.args.budget refusal) c.args.text.now c.in_ok-automaton.automaton
    c.in_ok-automaton.ensures.automaton)
    c.decide_automaton.ensures.refused

pub returns-in_err-automaton-clause-reported : goal.returns-in_err-automaton-clause-reported
returns-in_err-automaton-clause-reported g c =
    observed_alike _ _ _ _ c.from_residual.result _ c.in_err-automaton.field-0.0 _ _ c.from_residual.ensures.1 (λ e same. same)
    (none_observed _ _ _ _ _ _ (spares (or_memory (IsAutomatonRefusal c.args.text.now)) _ c.in_err-automaton.ensures.refused
    (text_spares c.args.text.now)))

pub returns-clause-reported : goal.returns-clause-reported
returns-clause-reported g c =
    observed_as _ _ _ _ _ _ _ _
    (λ nodes players lifted. record { automaton = c.in_ok-automaton.automaton; read = c.in_ok-automaton.ensures.automaton; lifts = lifted })
    c.decide_automaton.ensures.reported
