-- what is written is the canonical text of the automaton that was made, or memory is wanting
use Rattle.std.proofs.Common.{◌∙◌, List, subst, ℕ}
use Rattle.std.proofs.lemmas.Result.{IfErr-weaker, IfOk-weaker}
use Rattle.omega_ltl_translation.specs.Translation.{HasHeader, given_name}
use Rattle.omega_answers_formula.proofs.ltl.automaton_text.Goals as goal

pub returns-in-Ok-clause-text : goal.returns-in-Ok-clause-text
returns-in-Ok-clause-text c =
    IfOk-weaker c.canonical.result _ _
    (λ output written. record {
      automaton = c.in-Ok.automaton;
      right = c.in-Ok.ensures.right;
      buchi = c.in-Ok.ensures.buchi;
      header = subst (λ (title : List ℕ). HasHeader (given_name title) c.args.formula.now.table.names c.in-Ok.automaton) (c.as_slice.ensures.value ∙ c.in_ok-name.ensures.title) c.in-Ok.ensures.header;
      written = written;
    })
    c.canonical.ensures.text

pub returns-in-Ok-clause-refused : goal.returns-in-Ok-clause-refused
returns-in-Ok-clause-refused c = IfErr-weaker c.canonical.result _ _ (λ refusal e. rw e tt) c.canonical.ensures.memory
