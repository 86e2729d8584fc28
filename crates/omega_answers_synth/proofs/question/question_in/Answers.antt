-- what is read, and what is refused, is that of the automaton that was read
use Rattle.std.proofs.lemmas.Result.{err_from_is_err_and}
use Rattle.omega_hoa_automaton.specs.Automaton.{Description}
use Rattle.omega_synth_controllers.specs.Controllable.{HasStated, IsMisstated}
use Rattle.omega_answers.proofs.OneText.{automaton_refused, text_refused}
use Rattle.omega_answers_synth.proofs.question.question_in.Goals as goal

pub returns-in_err-automaton-clause-refused : goal.returns-in_err-automaton-clause-refused
returns-in_err-automaton-clause-refused c =
    let p = err_from_is_err_and c.from_residual.result c.from_residual.ensures.1 in
    rw (p.1, p.2) (text_refused (λ (a : Description). IsMisstated (HasStated a)) c.args.text.now _ c.in_err-automaton.ensures.refused)

pub returns-in_err-controlled-clause-refused : goal.returns-in_err-controlled-clause-refused
returns-in_err-controlled-clause-refused c =
    let p = err_from_is_err_and c.from_residual-in_err-controlled.result c.from_residual-in_err-controlled.ensures.1 in
    rw (p.1, p.2) (automaton_refused (λ (a : Description). IsMisstated (HasStated a)) c.args.text.now c.in_ok-automaton.automaton c.in_ok-automaton.ensures.automaton _
    c.in_err-controlled.ensures.refused)
