-- `draw_lasso_text`: what is drawn or refused is that of the automaton that was read.
use Rattle.std.proofs.lemmas.Result.{IfErr-weaker, IfOk-weaker}
use Rattle.omega_lang_lasso_search.specs.Searching.{IsSearchRefusal}
use Rattle.omega_answers.proofs.OneText.{automaton_refused}
use Rattle.omega_answers_empty.proofs.draw.draw_lasso_text.Goals as goal

pub returns-clause-answer : goal.returns-clause-answer
returns-clause-answer c =
    IfOk-weaker c.draw_searched.result _ _
    (λ output drawn. record { automaton = c.in_ok-automaton.automaton; read = c.in_ok-automaton.ensures.automaton; holds = drawn })
    c.draw_searched.ensures.drawn

pub returns-clause-refused : goal.returns-clause-refused
returns-clause-refused c =
    IfErr-weaker c.draw_searched.result _ _
    (automaton_refused IsSearchRefusal c.args.text.now c.in_ok-automaton.automaton c.in_ok-automaton.ensures.automaton) c.draw_searched.ensures.refused
