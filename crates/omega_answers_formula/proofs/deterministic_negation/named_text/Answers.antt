-- what is written is the canonical text of what was judged, with the name, or memory is wanting
use Rattle.std.proofs.lemmas.Result.{IfErr-weaker, IfOk-weaker}
use Rattle.omega_ltl_formula.specs.Table.{tree_of}
use Rattle.omega_answers_formula.proofs.Naming.{named_judged}
use Rattle.omega_answers_formula.proofs.deterministic_negation.named_text.Goals as goal

pub returns-in-Ok-clause-text : goal.returns-in-Ok-clause-text
returns-in-Ok-clause-text c =
    IfOk-weaker c.canonical_named.result _ _
    (λ output written. record {
      candidate = c.in-Ok.automaton;
      form = c.in-Ok.ensures.form;
      judged = named_judged c.args.name.now c.in-Ok.automaton (tree_of c.args.formula.now) c.in-Ok.ensures.judged;
      written = written;
    })
    c.canonical_named.ensures.text

pub returns-in-Ok-clause-refused : goal.returns-in-Ok-clause-refused
returns-in-Ok-clause-refused c = IfErr-weaker c.canonical_named.result _ _ (λ refusal e. rw e tt) c.canonical_named.ensures.memory
