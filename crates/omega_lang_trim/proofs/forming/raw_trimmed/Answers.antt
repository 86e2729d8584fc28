-- a label that is too deep is one of the trimmed automaton
use Rattle.std.proofs.lemmas.Result.{IfErr-weaker}
use Rattle.omega_hoa_edges.proofs.Refusals.{large_weaker, memory_task}
use Rattle.omega_lang_trim.specs.Trimmed.{trimmed}
use Rattle.omega_lang_trim.specs.Refusing.{PassesLimit}
use Rattle.omega_lang_trim.proofs.Deep.{deep_passes}
use Rattle.omega_lang_trim.proofs.forming.raw_trimmed.Goals as goal

pub returns-in-Ok-clause-err : goal.returns-in-Ok-clause-err
returns-in-Ok-clause-err c =
    IfErr-weaker c.written_under.result _ _
    (λ refusal is. large_weaker _ (PassesLimit (trimmed c.args.kept.now.keys c.args.automaton.now))
    (deep_passes (trimmed c.args.kept.now.keys c.args.automaton.now)) refusal is)
    c.written_under.ensures.err

pub returns-in-Err-clause-err : goal.returns-in-Err-clause-err
returns-in-Err-clause-err c = memory_task _ _ c.in-Err.ensures.memory
