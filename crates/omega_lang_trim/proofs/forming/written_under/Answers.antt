-- the header and the states together
use Rattle.std.proofs.Common.{ap₂, ◌∙◌}
use Rattle.std.proofs.lemmas.Result.{IfErr-weaker, IfOk-weaker}
use Rattle.omega_hoa_edges.proofs.Refusals.{memory_task}
use Rattle.omega_hoa_automaton.specs.Written.{raw_automaton}
use Rattle.omega_lang_trim.proofs.forming.written_under.Goals as goal

pub returns-in-Ok-clause-written : goal.returns-in-Ok-clause-written
returns-in-Ok-clause-written c =
    IfOk-weaker c.raw_automaton_of.result _ _ (λ raw is. is ∙ ap₂ raw_automaton c.requires.header c.in-Ok.ensures.states) c.raw_automaton_of.ensures.assembled

pub returns-in-Ok-clause-err : goal.returns-in-Ok-clause-err
returns-in-Ok-clause-err c = IfErr-weaker c.raw_automaton_of.result _ _ (λ refusal is. memory_task _ refusal is) c.raw_automaton_of.ensures.memory
