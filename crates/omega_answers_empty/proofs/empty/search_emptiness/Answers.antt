-- `search_emptiness`: what is written or refused is that of the automaton that was read.
use Rattle.std.proofs.lemmas.Result.{IfErr-weaker, IfOk-weaker}
use Rattle.omega_lang_lasso_search.specs.Searching.{IsSearchRefusal}
use Rattle.omega_answers.proofs.OneText.{automaton_refused}
use Rattle.omega_answers_empty.proofs.empty.search_emptiness.Goals as goal

pub returns-clause-answer : goal.returns-clause-answer
returns-clause-answer c =
    IfOk-weaker c.search_automaton.result _ _
    (λ made decided. record { automaton = c.in_ok-automaton.automaton; read = c.in_ok-automaton.ensures.automaton; holds = decided })
    c.search_automaton.ensures.decision

pub returns-clause-refused : goal.returns-clause-refused
returns-clause-refused c =
    IfErr-weaker c.search_automaton.result _ _
    (automaton_refused IsSearchRefusal c.args.text.now c.in_ok-automaton.automaton c.in_ok-automaton.ensures.automaton) c.search_automaton.ensures.refused
