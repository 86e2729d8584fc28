-- the complement, and why it can't be written
use Rattle.std.proofs.lemmas.Result.{IfErr-weaker, IfOk-weaker}
use Rattle.omega_lang_complement.specs.Refusing.{IsComplementFault}
use Rattle.omega_lang_complement.proofs.Faults.{writing_refused}
use Rattle.omega_hoa_edges.proofs.Refusals.{memory_task}
use Rattle.omega_lang_complement.proofs.complementing.complement_of.Goals as goal

pub returns-in-Err-clause-refused : goal.returns-in-Err-clause-refused
returns-in-Err-clause-refused c = memory_task (IsComplementFault c.args.automaton.now) _ c.in-Err.ensures.memory

pub returns-in-Ok-clause-refused : goal.returns-in-Ok-clause-refused
returns-in-Ok-clause-refused c =
    IfErr-weaker c.automaton_of_raw.result _ _
    (λ refusal is. writing_refused c.args.automaton.now c.requires.start c.requires.turned.apart c.requires.turned.fitting c.in-Ok.raw c.in-Ok.ensures.written refusal is)
    c.automaton_of_raw.ensures.err

pub returns-in-Ok-clause-complement : goal.returns-in-Ok-clause-complement
returns-in-Ok-clause-complement c = IfOk-weaker c.automaton_of_raw.result _ _ (λ complement means. (c.in-Ok.raw, c.in-Ok.ensures.written, means)) c.automaton_of_raw.ensures.means

pub returns-in-Ok-clause-given : goal.returns-in-Ok-clause-given
returns-in-Ok-clause-given c =
    IfOk-weaker c.automaton_of_raw.result _ _
    (λ complement means. record {
      deterministic = record { plain = c.requires.start.limits.plain; one_start = c.requires.start.one_start; apart = c.requires.turned.apart };
      limits = c.requires.start.limits.limits;
      fitting = c.requires.turned.fitting;
    })
    c.automaton_of_raw.ensures.means
