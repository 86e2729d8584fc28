-- what is written or refused is that of the automaton that was read
use Rattle.std.proofs.lemmas.Result.{IfErr-weaker, IfOk-weaker}
use Rattle.omega_lang_trim.specs.Refusing.{IsTrimRefusal}
use Rattle.omega_answers.proofs.OneText.{automaton_refused}
use Rattle.omega_answers_automaton.proofs.trim.trim_text.Goals as goal

pub returns-clause-answer : goal.returns-clause-answer
returns-clause-answer c =
    IfOk-weaker c.trim_automaton.result _ _
    (λ output text. record { automaton = c.in_ok-automaton.automaton; read = c.in_ok-automaton.ensures.automaton; holds = text })
    c.trim_automaton.ensures.text

pub returns-clause-refused : goal.returns-clause-refused
returns-clause-refused c =
    IfErr-weaker c.trim_automaton.result _ _
    (automaton_refused IsTrimRefusal c.args.text.now c.in_ok-automaton.automaton c.in_ok-automaton.ensures.automaton) c.trim_automaton.ensures.refused
