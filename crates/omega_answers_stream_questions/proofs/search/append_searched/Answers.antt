-- how the search ends says whether the answer is `no`
use Rattle.std.proofs.Common.{◌≡◌, rules, true, sym, subst}
use Rattle.omega_io.specs.declared.exit.Exit.{Exit}
use Rattle.omega_answers_empty.specs.empty.Answer.{EndsSearch}
use Rattle.omega_answers_stream_questions.specs.Items.{exit_for}
use Rattle.omega_answers_stream_questions.proofs.search.append_searched.Goals as goal

pub returns-clause-answer : goal.returns-clause-answer
returns-clause-answer c =
    let same : exit_for c.eq.result ≡ c.in_ok-exit.exit = search rules in
    record {
      text = c.in_ok-exit.text.items;
      appended = search rules;
      holds = subst (λ (exit : Exit). EndsSearch c.args.automaton.now c.args.lines true exit c.in_ok-exit.text.items) (sym same) c.in_ok-exit.ensures.decision;
    }
