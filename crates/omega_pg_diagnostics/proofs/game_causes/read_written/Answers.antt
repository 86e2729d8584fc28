-- `read_written`: what is read of the tokens is what is written, and only memory may be wanting.
use Rattle.std.proofs.lemmas.Result.{IfOk-weaker}
use Rattle.omega_pg_diagnostics.proofs.games.Texts.{cut_into_tokens, whole_is_kept}
use Rattle.omega_pg_diagnostics.proofs.reading.Reading.{only_memory}
use Rattle.omega_pg_diagnostics.proofs.game_causes.read_written.Goals as goal

pub returns-clause-kept : goal.returns-clause-kept
returns-clause-kept c =
    IfOk-weaker c.read_text.result _ _
    (λ written whole. whole_is_kept c.args.text.now c.new.result written c.cuts_are_one.ensures c.new.ensures whole)
    c.read_text.ensures.read

pub returns-clause-memory : goal.returns-clause-memory
returns-clause-memory c =
    only_memory c.read_text.result c.args.text.now c.texts_have_no_fault.ensures c.requires.short
    (cut_into_tokens c.args.text.now c.requires) c.read_text.ensures.refused
